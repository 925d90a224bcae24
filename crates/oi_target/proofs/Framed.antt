-- Where the bytes of a connection are cut does not matter.
use Rattle.std.proofs.Common.{ℕ, Bool, true, false, ◌≡◌, ◌∙◌, List, [], ◌∷◌, ◌++◌, refl, ap, sym, subst, append-nil, append_assoc, if◌then◌else◌, ◌==◌}
use Rattle.std.proofs.lemmas.Bool.{eqb-true}
use Rattle.oi_pdu.specs.declared.codec.Pdu.{Pdu}
use Rattle.oi_stream.proofs.Bytewise.{fed_in_a_row, fed_is_framed, unfed_follows}
use Rattle.oi_stream.specs.Bytewise.{Fed as Framed, fed, joined_by}
use Rattle.oi_stream.specs.Framing.{Stop, BadHeader, TooLong, Short, Frames}
use Rattle.oi_target.proofs.Courses.{bytes_more}
use Rattle.oi_target.specs.Courses.{Call, Connected, CutsDoNotMatter, Gone, Listed, PdusAreFramed, Piece, arrived, bytes_on, came, events_of, framed_on, news, news_by, spoilt}
use Rattle.oi_target.specs.Events.{Event, Whole, pdus_on}
use Rattle.oi_target.specs.Targets.{no_bytes}

came_append : (n : ℕ) (ps qs : List Pdu) (es : List Event) → came n (ps ++ qs) es ≡ came n qs (came n ps es)
came_append n [] qs es = refl
came_append n (p ∷ ps) qs es = came_append n ps qs (Whole n p ∷ es)

-- a second part behind a first one
parts_join : (n : ℕ) (es : List Event) (first : Framed) (y : List ℕ) (stop : Stop) → first.stop ≡ stop
    → arrived n (news_by stop first.state y) (spoilt n stop (came n first.pdus es)) ≡ arrived n (joined_by stop first (fed first.state y)) es
parts_join n es first y Short is =
    ap (λ (z : List Event). spoilt n (fed first.state y).stop z) (sym (came_append n first.pdus (fed first.state y).pdus es))
parts_join n es first y (BadHeader byte) is = ap (λ (z : Stop). spoilt n z (came n first.pdus es)) (sym is)
parts_join n es first y (TooLong size) is = ap (λ (z : Stop). spoilt n z (came n first.pdus es)) (sym is)

-- two parts behind all bytes before
news_join : (n : ℕ) (es : List Event) (all : Framed) (x y : List ℕ) (stop : Stop) → all.stop ≡ stop
    → arrived n (news_by (joined_by stop all (fed all.state x)).stop (joined_by stop all (fed all.state x)).state y) (arrived n (news_by stop all.state x) es)
    ≡ arrived n (news_by stop all.state (x ++ y)) es
news_join n es all x y Short is =
    parts_join n es (fed all.state x) y (fed all.state x).stop refl ∙ ap (λ (z : Framed). arrived n z es) (sym (fed_in_a_row all.state x y))
news_join n es all x y (BadHeader byte) is = ap (λ (z : Stop). arrived n (news_by z all.state y) es) is
news_join n es all x y (TooLong size) is = ap (λ (z : Stop). arrived n (news_by z all.state y) es) is

framed_behind : (n : ℕ) (x : List ℕ) (calls : List Call)
    → framed_on n (Piece n x ∷ calls) ≡ joined_by (framed_on n calls).stop (framed_on n calls) (fed (framed_on n calls).state x)
framed_behind n x calls = ap (λ (bytes : List ℕ). fed no_bytes bytes) (bytes_more n x calls) ∙ fed_in_a_row no_bytes (bytes_on n calls) x

pub cuts_do_not_matter : CutsDoNotMatter
cuts_do_not_matter n x y calls =
    ap (λ (z : Framed). arrived n (news_by z.stop z.state y) (arrived n (news n x calls) (events_of calls))) (framed_behind n x calls)
    ∙ news_join n (events_of calls) (framed_on n calls) x y (framed_on n calls).stop refl

pdus_came : (n m : ℕ) (ps : List Pdu) (es : List Event) → pdus_on n (came m ps es) ≡ (if m == n then pdus_on n es ++ ps else pdus_on n es)
pdus_came n m [] es = go (m == n) where
  go : (b : Bool) → pdus_on n es ≡ (if b then pdus_on n es ++ [] else pdus_on n es)
  go true = sym (append-nil (pdus_on n es))
  go false = refl
pdus_came n m (p ∷ ps) es = pdus_came n m ps (Whole m p ∷ es) ∙ go (m == n) where
  go : (b : Bool)
      → (if b then (if b then pdus_on n es ++ p ∷ [] else pdus_on n es) ++ ps else (if b then pdus_on n es ++ p ∷ [] else pdus_on n es))
      ≡ (if b then pdus_on n es ++ p ∷ ps else pdus_on n es)
  go true = append_assoc (pdus_on n es) (p ∷ []) ps
  go false = refl

pdus_spoilt : (n m : ℕ) (stop : Stop) (es : List Event) → pdus_on n (spoilt m stop es) ≡ pdus_on n es
pdus_spoilt n m Short es = refl
pdus_spoilt n m (BadHeader byte) es = refl
pdus_spoilt n m (TooLong size) es = refl

news_pdus : (all : Framed) (piece : List ℕ) (stop : Stop) → (joined_by stop all (fed all.state piece)).pdus ≡ all.pdus ++ (news_by stop all.state piece).pdus
news_pdus all piece Short = refl
news_pdus all piece (BadHeader byte) = sym (append-nil all.pdus)
news_pdus all piece (TooLong size) = sym (append-nil all.pdus)

pdus_are : (n : ℕ) (calls : List Call) → pdus_on n (events_of calls) ≡ (framed_on n calls).pdus
pdus_are n [] = refl
pdus_are n (Connected m ∷ calls) = go (m == n) (pdus_are n calls) where
  go : (b : Bool) → pdus_on n (events_of calls) ≡ (framed_on n calls).pdus
      → (if b then [] else pdus_on n (events_of calls)) ≡ (fed no_bytes (if b then [] else bytes_on n calls)).pdus
  go true was = refl
  go false was = was
pdus_are n (Gone m ∷ calls) = pdus_are n calls
pdus_are n (Listed listing ∷ calls) = pdus_are n calls
pdus_are n (Piece m piece ∷ calls) =
    pdus_spoilt n m (news m piece calls).stop (came m (news m piece calls).pdus (events_of calls))
    ∙ pdus_came n m (news m piece calls).pdus (events_of calls)
    ∙ go (m == n) refl (pdus_are n calls) where
      go : (b : Bool) → (m == n) ≡ b → pdus_on n (events_of calls) ≡ (framed_on n calls).pdus
          → (if b then pdus_on n (events_of calls) ++ (news m piece calls).pdus else pdus_on n (events_of calls))
          ≡ (fed no_bytes (if b then bytes_on n calls ++ piece else bytes_on n calls)).pdus
      go true is was =
          ap (λ (z : List Pdu). z ++ (news m piece calls).pdus) was
          ∙ ap (λ (k : ℕ). (framed_on n calls).pdus ++ (news k piece calls).pdus) (eqb-true m n is)
          ∙ sym (news_pdus (framed_on n calls) piece (framed_on n calls).stop)
          ∙ sym (ap (λ (z : Framed). z.pdus) (fed_in_a_row no_bytes (bytes_on n calls) piece))
      go false is was = was

pub pdus_are_framed : PdusAreFramed
pdus_are_framed n calls = record {
  place = (framed_on n calls).state.place;
  stop = (framed_on n calls).stop;
  frames = subst (λ (ps : List Pdu). Frames 65536 (bytes_on n calls) ps (framed_on n calls).state.place (framed_on n calls).stop) (sym (pdus_are n calls))
      (fed_is_framed [] (bytes_on n calls) [] no_bytes (unfed_follows 65536));
}
