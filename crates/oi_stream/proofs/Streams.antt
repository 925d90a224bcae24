-- Piece after piece of a stream, up to the first fault.
use Rattle.std.proofs.Common.{ℕ, false, ◌+◌, ◌<◌, ◌≤◌, List, [], ◌∷◌, ◌++◌, ◌≡◌, ◌∙◌, sym, refl, ap, subst, length, take, drop, get_or, arith, Some, None, Ok, Err}
use Rattle.std.specs.List.{flat_map}
use Rattle.std.proofs.lemmas.List.{take-append-le, length-append, append_assoc, append-nil, take_more, take-append-drop}
use Rattle.std.proofs.lemmas.Bool.{true≢false}
use Rattle.std.proofs.lemmas.List.Concat.{flat_map-append}
use Rattle.oi_pdu.specs.Segments.{basic_at, data_len}
use Rattle.oi_pdu.specs.Table.{bad_header}
use Rattle.oi_pdu.specs.Wire.{head_of}
use Rattle.oi_pdu.specs.declared.codec.Pdu.{Pdu}
use Rattle.oi_stream.specs.Framing.{Frames, IsRun, Stop, BadHeader, TooLong, Short, StopsAt}
use Rattle.oi_stream.specs.Feeding.{State, AreEncodable, Follows, IsFed}
use Rattle.oi_stream.specs.Streams.{FollowedIsFramed, IsFramed}
use Rattle.oi_stream.specs.declared.fault.StreamFault.{StreamFault}
use Rattle.oi_stream.specs.declared.fault.StreamFault.TheVariants as faults

pub stops_short : (bytes : List ℕ) (pdus : List Pdu) (s : State) (f : Follows bytes pdus s) → StopsAt s.limit f.rest Short
stops_short bytes pdus s f = λ there.
    let o = f.kept.opened there in
    record { good = o.good; fits = o.fits; cut = f.cut there }

pub followed_is_framed : FollowedIsFramed
followed_is_framed bytes pdus s f =
    record { front = f.front; rest = f.rest; whole = f.whole; run = f.run; at = f.at; stops = stops_short bytes pdus s f }

-- a splitter after the pieces so far
pub record SoFar (limit : ℕ) (bytes : List ℕ) (before after : List Pdu) (s : State) : Type 0 where
  pub more : List Pdu
  pub appended : after ≡ before ++ more
  pub encodable : AreEncodable more
  pub follows : Follows bytes more s
  pub bound : s.limit ≡ limit
  pub going : s.ended ≡ false

encodable_append : (ps qs : List Pdu) → AreEncodable ps → AreEncodable qs → AreEncodable (ps ++ qs)
encodable_append [] qs a b = b
encodable_append (p ∷ ps) qs a b = (a.0, encodable_append ps qs a.1 b)

pub so_far_none : (limit : ℕ) (before : List Pdu) (s : State) → Follows [] [] s → s.limit ≡ limit → s.ended ≡ false → SoFar limit [] before before s
so_far_none limit before s follows bound going = record {
  more = [];
  appended = sym (append-nil before);
  encodable = tt;
  follows = follows;
  bound = bound;
  going = going;
}

appended_on : (before mid after more next : List Pdu) → mid ≡ before ++ more → after ≡ mid ++ next → after ≡ before ++ (more ++ next)
appended_on before mid after more next e f = f ∙ ap (λ (z : List Pdu). z ++ next) e ∙ append_assoc before more next

pub so_far_more : (limit : ℕ) (bytes piece : List ℕ) (before mid after : List Pdu) (s t : State) → SoFar limit bytes before mid s → IsFed s t piece mid after (Ok tt) → SoFar limit (bytes ++ piece) before after t
so_far_more limit bytes piece before mid after s t so fed =
    let g = fed.2 in
    record {
      more = so.more ++ g.more;
      appended = appended_on before mid after so.more g.more so.appended g.appends.appended;
      encodable = encodable_append so.more g.more so.encodable g.appends.encodable;
      follows = g.follows bytes so.more so.follows;
      bound = g.appends.limit ∙ so.bound;
      going = fed.1;
    }

head_over : (rest more : List ℕ) → 48 ≤ length rest → head_of rest ≡ head_of (rest ++ more)
head_over rest more there = sym (take-append-le 48 rest more there)

-- bytes behind a stop
pub frames_on : (limit : ℕ) (bytes later : List ℕ) (pdus : List Pdu) (place : ℕ) (stop : Stop) → (stop ≡ Short → ⊥) → Frames limit bytes pdus place stop → Frames limit (bytes ++ later) pdus place stop
frames_on limit bytes later pdus place (BadHeader byte) never f = record {
  front = f.front;
  rest = f.rest ++ later;
  whole = ap (λ (z : List ℕ). z ++ later) f.whole ∙ append_assoc f.front f.rest later;
  run = f.run;
  at = f.at;
  stops = (omega (arith, f.stops.0, length-append f.rest later), subst (λ (z : List ℕ). bad_header (basic_at z) ≡ Some byte) (head_over f.rest later f.stops.0) f.stops.1);
}
frames_on limit bytes later pdus place (TooLong size) never f =
    let head = head_over f.rest later f.stops.0 in
    record {
      front = f.front;
      rest = f.rest ++ later;
      whole = ap (λ (z : List ℕ). z ++ later) f.whole ∙ append_assoc f.front f.rest later;
      run = f.run;
      at = f.at;
      stops = (omega (arith, f.stops.0, length-append f.rest later), subst (λ (z : List ℕ). bad_header (basic_at z) ≡ None) head f.stops.1, subst (λ (z : List ℕ). data_len z ≡ size) head f.stops.2, f.stops.3);
    }
frames_on limit bytes later pdus place Short never f = absurd (never refl)

pub bad_not_short : (byte : ℕ) → BadHeader byte ≡ Short → ⊥
bad_not_short byte e = cc

pub long_not_short : (size : ℕ) → TooLong size ≡ Short → ⊥
long_not_short size e = cc

pub framed_err : (limit : ℕ) (bytes piece later all : List ℕ) (before mid after : List Pdu) (s t : State) (f : StreamFault) → SoFar limit bytes before mid s → IsFed s t piece mid after (Err f) → all ≡ bytes ++ piece ++ later → IsFramed limit all before after (Err f)
framed_err limit bytes piece later all before mid after s t (faults.BadHeader place byte) so fed e =
    let g = fed.2 in
    let more = so.more ++ g.more in
    let framed = frames_on s.limit (bytes ++ piece) later more place (BadHeader byte) (bad_not_short byte) (g.frames bytes so.more so.follows) in
    record {
      more = more;
      appended = appended_on before mid after so.more g.more so.appended g.appends.appended;
      encodable = encodable_append so.more g.more so.encodable g.appends.encodable;
      frames = subst (λ (n : ℕ). Frames n all more place (BadHeader byte)) so.bound (subst (λ (z : List ℕ). Frames s.limit z more place (BadHeader byte)) (sym e) framed);
    }
framed_err limit bytes piece later all before mid after s t (faults.TooLong place size) so fed e =
    let g = fed.2 in
    let more = so.more ++ g.more in
    let framed = frames_on s.limit (bytes ++ piece) later more place (TooLong size) (long_not_short size) (g.frames bytes so.more so.follows) in
    record {
      more = more;
      appended = appended_on before mid after so.more g.more so.appended g.appends.appended;
      encodable = encodable_append so.more g.more so.encodable g.appends.encodable;
      frames = subst (λ (n : ℕ). Frames n all more place (TooLong size)) so.bound (subst (λ (z : List ℕ). Frames s.limit z more place (TooLong size)) (sym e) framed);
    }
framed_err limit bytes piece later all before mid after s t (faults.Ended place) so fed e = true≢false (sym fed.0 ∙ so.going)
framed_err limit bytes piece later all before mid after s t faults.Memory so fed e =
    let g = fed.2 in
    let b = g.begins bytes so.more so.follows in
    record {
      more = so.more ++ g.more;
      appended = appended_on before mid after so.more g.more so.appended g.appends.appended;
      encodable = encodable_append so.more g.more so.encodable g.appends.encodable;
      place = t.place;
      begins = record {
        front = b.front;
        rest = b.rest ++ later;
        whole = e ∙ ap (λ (z : List ℕ). z ++ later) b.whole ∙ append_assoc b.front b.rest later;
        run = subst (λ (n : ℕ). IsRun n b.front (so.more ++ g.more)) so.bound b.run;
        at = b.at;
      };
    }

pub framed_ok : (limit : ℕ) (bytes : List ℕ) (before after : List Pdu) (s : State) → SoFar limit bytes before after s → IsFramed limit bytes before after (Ok tt)
framed_ok limit bytes before after s so = (
  s.place,
  record {
    more = so.more;
    appended = so.appended;
    encodable = so.encodable;
    frames = subst (λ (n : ℕ). Frames n bytes so.more s.place Short) so.bound (followed_is_framed bytes so.more s so.follows);
  },
)

-- the pieces up to one, that one, and those after it
pub pieces_more : (xs : List (List ℕ)) (i : ℕ) (x : List ℕ) → i < length xs → x ≡ get_or xs i x → flat_map (λ b. b) (take i xs) ++ x ≡ flat_map (λ b. b) (take (i + 1) xs)
pieces_more xs i x below is =
    ap (λ (z : List ℕ). flat_map (λ b. b) (take i xs) ++ z) (is ∙ sym (append-nil (get_or xs i x)))
    ∙ sym (flat_map-append (λ b. b) (take i xs) (get_or xs i x ∷ [])) ∙ ap (flat_map (λ b. b)) (sym (take_more xs i x below))

pub pieces_all : (xs : List (List ℕ)) (i : ℕ) (x : List ℕ) → i < length xs → x ≡ get_or xs i x → flat_map (λ b. b) xs ≡ flat_map (λ b. b) (take i xs) ++ x ++ flat_map (λ b. b) (drop (i + 1) xs)
pieces_all xs i x below is =
    ap (flat_map (λ b. b)) (sym (take-append-drop (i + 1) xs)) ∙ flat_map-append (λ b. b) (take (i + 1) xs) (drop (i + 1) xs)
    ∙ ap (λ (z : List ℕ). z ++ flat_map (λ b. b) (drop (i + 1) xs)) (sym (pieces_more xs i x below is))
