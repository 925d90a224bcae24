-- Where a replay broke off.
use Rattle.std.proofs.Common.{◌≡◌, ◌⊎◌, inl, inr, ◌∙◌, ◌<◌, ℕ, suc, zero, false, List, [], ◌∷◌, ◌++◌, Option, Some, None, is_some, Result, Ok, Err, IfErr, length, take, drop, ◌≤◌, sym, ap, subst, refl, arith, append_assoc}
use Rattle.oi_drive.proofs.Outputs.{behind-append, behind_none}
use Rattle.oi_drive.proofs.Parts.{nothing_done, whole_step}
use Rattle.oi_drive.proofs.Readings.{IsFed, feed-append, feed_text-append}
use Rattle.oi_drive.specs.Inputs.{BreaksBy}
use Rattle.oi_drive.specs.Parts.{BrokeIn, BrokeOff, IsBetween, IsLineEnd, IsLineFeed, IsPartly}
use Rattle.oi_drive.specs.Worlds.{World, feed, feed_text, line_base, line_entries, line_step, line_text}
use Rattle.oi_drive.specs.Writes.{Counts, Prints}
use Rattle.oi_drive.specs.declared.runner.Broken.{Broken}
use Rattle.oi_drive.specs.declared.runner.Broken.TheVariants.{Memory, Read, Write}
use Rattle.oi_outside.specs.Streams.{IsCutShort, IsFront, behind, in_front}

pub no_text : (text : List ℕ) (held : Option (List ℕ)) → IsFront text held held
no_text text held = record { count = 0; is = sym (behind_none held) }

short_front : (text : List ℕ) (held0 held : Option (List ℕ)) → IsCutShort text held0 held → IsFront text held0 held
short_front text held0 held c = record { count = c.count; is = c.is }

-- nothing of the line was done or printed
pub not_begun : (b : Broken) (ended : Type 0) (w v : World) (held0 held : Option (List ℕ)) → (b ≡ Write → ⊥) → v.session ≡ w.session → held ≡ held0 → IsPartly b ended w v held0 held
not_begun b ended w v held0 held other kept quiet = record {
  entries = nothing_done w v.session kept;
  text = subst (λ (h : Option (List ℕ)). IsFront (line_text w) held0 h) (sym quiet) (no_text (line_text w) held0);
  begun = inl (kept, quiet);
  cut = λ is. absurd (other is);
}

-- some of its entries were made, and nothing printed
not_printed : (b : Broken) (w v : World) (held0 held : Option (List ℕ)) → (b ≡ Write → ⊥) → IsBetween w.session (line_base w) (line_entries w) v.session → held ≡ held0
    → IsPartly b (Unit {0}) w v held0 held
not_printed b w v held0 held other part quiet = record {
  entries = part;
  text = subst (λ (h : Option (List ℕ)). IsFront (line_text w) held0 h) (sym quiet) (no_text (line_text w) held0);
  begun = inr tt;
  cut = λ is. absurd (other is);
}

pub memory_is_other : Memory ≡ Write → ⊥
memory_is_other is = absurd cc

pub read_is_other : Read ≡ Write → ⊥
read_is_other is = absurd cc

-- the same of a line whose end is known otherwise
pub partly_at : (b : Broken) (ended other : Type 0) (w v : World) (held0 held : Option (List ℕ)) → (ended → other) → IsPartly b ended w v held0 held → IsPartly b other w v held0 held
partly_at b ended other w v held0 held turn p = record {
  entries = p.entries;
  text = p.text;
  begun = begun_at p.begun;
  cut = λ is. let c = p.cut is in (turn c.0, c.1);
}
  where
    begun_at : ((v.session ≡ w.session) × (held ≡ held0)) ⊎ ended → ((v.session ≡ w.session) × (held ≡ held0)) ⊎ other
    begun_at (inl none) = inl none
    begun_at (inr e) = inr (turn e)

-- its entries were made, and its text printed in part
pub line_printed : (r : Result (Unit {0}) Broken) (w v : World) (held0 held : Option (List ℕ)) (faults0 faults : ℕ) → v ≡ line_step w → Prints r (line_text w) held0 held faults0 faults
    → IfErr r (λ b. IsPartly b (Unit {0}) w v held0 held)
line_printed (Ok u) w v held0 held faults0 faults is p = tt
line_printed (Err Write) w v held0 held faults0 faults is p = record { entries = whole_step w v is; text = short_front (line_text w) held0 held p.1; begun = inr tt; cut = λ same. (tt, p.1) }
line_printed (Err Memory) w v held0 held faults0 faults is p = not_printed Memory w v held0 held memory_is_other (whole_step w v is) p.1
line_printed (Err Read) w v held0 held faults0 faults is p = absurd p

pub counts : (r : Result (Unit {0}) Broken) (text : List ℕ) (held0 held : Option (List ℕ)) (faults0 faults : ℕ) → Prints r text held0 held faults0 faults → Counts r text held0 held faults0 faults
counts (Ok u) text held0 held faults0 faults p = p
counts (Err Write) text held0 held faults0 faults p = p.0
counts (Err Memory) text held0 held faults0 faults p = p.0
counts (Err Read) text held0 held faults0 faults p = p

pub front_none : (o : Option (List ℕ)) → in_front [] o ≡ o
front_none None = refl
front_none (Some rest) = refl

pub front-append : (xs ys : List ℕ) (o : Option (List ℕ)) → in_front xs (in_front ys o) ≡ in_front (xs ++ ys) o
front-append xs ys None = refl
front-append xs ys (Some rest) = ap (λ (z : List ℕ). Some z) (sym (append_assoc xs ys rest))

-- it broke before a byte counted
pub unmoved : (b : Broken) (left0 left : Option (List ℕ)) (w : World) (held : Option (List ℕ)) → (b ≡ Write → ⊥) → left ≡ left0 → BrokeOff b left0 left w w held held
unmoved b left0 left w held other is = record {
  fed = [];
  more = [];
  moved = sym is ∙ sym (front_none left);
  going = λ going. going;
  partly = not_begun b (IsLineEnd w [] left) w w (behind held []) held other refl (sym (behind_none held));
  all = λ _. (refl, refl, sym (behind_none held));
}

never_read : (b : Broken) (text : List ℕ) (held0 held : Option (List ℕ)) (faults0 faults : ℕ) (P : Type 0) → Counts (Err b) text held0 held faults0 faults → b ≡ Read → P
never_read Read text held0 held faults0 faults P p is = absurd p
never_read Memory text held0 held faults0 faults P p is = absurd cc
never_read Write text held0 held faults0 faults P p is = absurd cc

feed_ends : (w : World) (more rest : List ℕ) (left : Option (List ℕ)) → IsLineFeed more → IsLineEnd w (more ++ rest) left
feed_ends w [] rest left is = absurd is
feed_ends w (b ∷ more) rest left is = is

-- in a piece
pub piece_broke : (b : Broken) (left0 left : Option (List ℕ)) (w v : World) (held0 held : Option (List ℕ)) (faults0 faults : ℕ) (piece rest text : List ℕ) → left0 ≡ in_front (piece ++ rest) left
    → Counts (Err b) text held0 held faults0 faults → BrokeIn b piece w v held0 held → BrokeOff b left0 left w v held0 held
piece_broke b left0 left w v held0 held faults0 faults piece rest text moved p broke = record {
  fed = broke.fed;
  more = broke.more ++ rest;
  moved = moved ∙ ap (λ (z : List ℕ). in_front z left) (ap (λ (z : List ℕ). z ++ rest) broke.whole ∙ append_assoc broke.fed broke.more rest);
  going = λ _. broke.going;
  partly = partly_at b (IsLineFeed broke.more) (IsLineEnd (feed w broke.fed) (broke.more ++ rest) left) (feed w broke.fed) v (behind held0 (feed_text w broke.fed)) held
      (feed_ends (feed w broke.fed) broke.more rest left) broke.partly;
  all = λ is. never_read b text held0 held faults0 faults _ p is;
}

cut_at : (i : ℕ) (xs : List ℕ) → xs ≡ take i xs ++ drop i xs
cut_at zero xs = refl
cut_at (suc i) [] = refl
cut_at (suc i) (x ∷ xs) = ap (λ (z : List ℕ). x ∷ z) (cut_at i xs)

take_less : (n room : ℕ) (xs : List ℕ) → room ≤ n → take room (take n xs) ≡ take room xs
take_less n zero xs h = refl
take_less zero (suc room) xs h = absurd (omega (arith, h))
take_less (suc n) (suc room) [] h = refl
take_less (suc n) (suc room) (x ∷ xs) h = ap (λ (z : List ℕ). x ∷ z) (take_less n room xs (omega (arith, h)))

cut_front : (n room : ℕ) (buf : List ℕ) → room ≤ n → take n buf ≡ take room buf ++ drop room (take n buf)
cut_front n room buf h = cut_at room (take n buf) ∙ ap (λ (z : List ℕ). z ++ drop room (take n buf)) (take_less n room buf h)

-- in the front of a piece
pub front_broke : (b : Broken) (left0 left : Option (List ℕ)) (w v : World) (held0 held : Option (List ℕ)) (faults0 faults n room : ℕ) (buf piece text : List ℕ) → left0 ≡ in_front (take n buf) left
    → room ≤ n → piece ≡ take room buf → Counts (Err b) text held0 held faults0 faults → BrokeIn b piece w v held0 held → BrokeOff b left0 left w v held0 held
front_broke b left0 left w v held0 held faults0 faults n room buf piece text moved less is p broke =
    let front : take n buf ≡ piece ++ drop room (take n buf) = cut_front n room buf less ∙ ap (λ (z : List ℕ). z ++ drop room (take n buf)) (sym is) in
    piece_broke b left0 left w v held0 held faults0 faults piece (drop room (take n buf)) text (moved ∙ ap (λ (z : List ℕ). in_front z left) front) p broke

-- in the last line, behind the end of the input
pub end_broke : (b : Broken) (left0 left : Option (List ℕ)) (w v : World) (held0 held : Option (List ℕ)) (faults0 faults n : ℕ) (buf text : List ℕ) → left0 ≡ in_front (take n buf) left → n ≡ 0
    → (n ≡ 0 → (rest : List ℕ) → left0 ≡ Some rest → rest ≡ []) → Counts (Err b) text held0 held faults0 faults → IsPartly b (0 < length w.part) w v held0 held → is_some w.stop ≡ false
    → BrokeOff b left0 left w v held0 held
end_broke b left0 left w v held0 held faults0 faults n buf text moved none at_end p partly going = record {
  fed = [];
  more = [];
  moved = same;
  going = λ _. going;
  partly = partly_at b (0 < length w.part) (IsLineEnd w [] left) w v (behind held0 []) held (λ some. (some, λ rest is. at_end none rest (same ∙ (front_none left ∙ is))))
      (subst (λ (h : Option (List ℕ)). IsPartly b (0 < length w.part) w v h held) (sym (behind_none held0)) partly);
  all = λ is. never_read b text held0 held faults0 faults _ p is;
}
  where
    same : left0 ≡ in_front [] left
    same = moved ∙ ap (λ m. in_front (take m buf) left) none

-- behind what was taken before
pub broke_behind : (b : Broken) (left0 left left1 : Option (List ℕ)) (w0 w v : World) (held0 held held1 : Option (List ℕ)) → IsFed left0 left w0 w held0 held → (is_some w0.stop ≡ false → is_some w.stop ≡ false)
    → BrokeOff b left left1 w v held held1 → BrokeOff b left0 left1 w0 v held0 held1
broke_behind b left0 left left1 w0 w v held0 held held1 f goes_on broke =
    let goes : feed w broke.fed ≡ feed w0 (f.fed ++ broke.fed) = ap (λ (z : World). feed z broke.fed) f.world ∙ sym (feed-append w0 f.fed broke.fed) in
    let text : behind held (feed_text w broke.fed) ≡ behind held0 (feed_text w0 (f.fed ++ broke.fed)) =
    ap (λ (z : Option (List ℕ)). behind z (feed_text w broke.fed)) f.text ∙ (behind-append held0 (feed_text w0 f.fed) (feed_text w broke.fed)
    ∙ (ap (λ (z : World). behind held0 (feed_text w0 f.fed ++ feed_text z broke.fed)) f.world ∙ ap (λ (z : List ℕ). behind held0 z) (sym (feed_text-append w0 f.fed broke.fed)))) in
    record {
      fed = f.fed ++ broke.fed;
      more = broke.more;
      going = λ going. subst (λ (z : World). is_some z.stop ≡ false) goes (broke.going (goes_on going));
      moved = f.moved ∙ (ap (λ (z : Option (List ℕ)). in_front f.fed z) broke.moved ∙ (front-append f.fed (broke.fed ++ broke.more) left1
          ∙ ap (λ (z : List ℕ). in_front z left1) (sym (append_assoc f.fed broke.fed broke.more))));
      partly = subst (λ (h : Option (List ℕ)). IsPartly b (IsLineEnd (feed w0 (f.fed ++ broke.fed)) broke.more left1) (feed w0 (f.fed ++ broke.fed)) v h held1) text
          (subst (λ (z : World). IsPartly b (IsLineEnd z broke.more left1) z v (behind held (feed_text w broke.fed)) held1) goes broke.partly);
      all = λ is. let a = broke.all is in (a.0, a.1 ∙ goes, a.2 ∙ text);
    }

-- by the sink, or for want of memory
pub broke_by : (b : Broken) (text : List ℕ) (held0 held : Option (List ℕ)) (source0 source sink0 sink : ℕ) → source ≡ source0 → Counts (Err b) text held0 held sink0 sink → BreaksBy b source0 source sink0 sink
broke_by Read text held0 held source0 source sink0 sink quiet p = absurd p
broke_by Memory text held0 held source0 source sink0 sink quiet p = (quiet, p)
broke_by Write text held0 held source0 source sink0 sink quiet p = (p, quiet)
