-- Deeds one after another.
use Rattle.std.proofs.Common.{◌≡◌, ◌∙◌, ℕ, suc, zero, true, false, List, [], ◌∷◌, ◌++◌, Option, Some, None, length, take, sym, ap, subst, refl, append_assoc, append-nil, is_some, Result, Ok, Err, if◌then◌else◌}
use Rattle.oi_base.specs.declared.memory.NoMemory.{NoMemory}
use Rattle.oi_drive.specs.Acts.{Does, IsPart}
use Rattle.oi_drive.specs.Deeds.{Deed, fails, followed, if_done, joined, makes, nothing, stops}
use Rattle.oi_drive.specs.declared.answer.Answer.{Answer}
use Rattle.oi_drive.specs.declared.answer.Answer.TheVariants.{Done, Refused, Outside, Spent}
use Rattle.oi_history.specs.declared.event.Event.{Event}
use Rattle.oi_solo.specs.Limits.{spent_by}
use Rattle.oi_solo.specs.Sessions.{Session, entered_all}
use Rattle.oi_solo.specs.declared.load.Load.{Load}

-- entries

pub entered-append : (s : Session) (xs ys : List Event) → entered_all s (xs ++ ys) ≡ entered_all (entered_all s xs) ys
entered-append s [] ys = refl
entered-append s (x ∷ xs) ys = entered-append _ xs ys

part_front : (k : ℕ) (xs ys : List Event) → (c : ℕ) × (take c (xs ++ ys) ≡ take k xs)
part_front zero xs ys = (0, refl)
part_front (suc k) [] ys = (0, refl)
part_front (suc k) (x ∷ xs) ys = let r = part_front k xs ys in (suc r.0, ap (λ (z : List Event). x ∷ z) r.1)

part_behind : (k : ℕ) (xs ys : List Event) → (c : ℕ) × (take c (xs ++ ys) ≡ xs ++ take k ys)
part_behind k [] ys = (k, refl)
part_behind k (x ∷ xs) ys = let r = part_behind k xs ys in (suc r.0, ap (λ (z : List Event). x ∷ z) r.1)

take_all : (xs : List Event) → take (length xs) xs ≡ xs
take_all [] = refl
take_all (x ∷ xs) = ap (λ (z : List Event). x ∷ z) (take_all xs)

pub not_begun : (es : List Event) (s : Session) → IsPart es s s
not_begun es s = (0, refl)

pub part_same : (es : List Event) (old new : Session) → new ≡ old → IsPart es old new
part_same es old new is = (0, is)

pub part_all : (es : List Event) (old new : Session) → new ≡ entered_all old es → IsPart es old new
part_all es old new is = (length es, is ∙ ap (entered_all old) (sym (take_all es)))

pub part_first : (xs ys : List Event) (old new : Session) → IsPart xs old new → IsPart (xs ++ ys) old new
part_first xs ys old new p = let r = part_front p.0 xs ys in (r.0, p.1 ∙ ap (entered_all old) (sym r.1))

pub part_then : (xs ys : List Event) (old mid new : Session) → mid ≡ entered_all old xs → IsPart ys mid new → IsPart (xs ++ ys) old new
part_then xs ys old mid new is p =
    let r = part_behind p.0 xs ys in
    (r.0, p.1 ∙ (ap (λ (s : Session). entered_all s (take p.0 ys)) is ∙ (sym (entered-append old xs (take p.0 ys)) ∙ ap (entered_all old) (sym r.1))))

-- one deed and another

pub does_joined : (d e : Deed) (old mid new : Session) (before between after : List ℕ) (r : Result Answer NoMemory) → mid ≡ entered_all old d.entries → between ≡ before ++ d.text
    → Does e mid between r new after → Does (joined d e) old before r new after
does_joined d e old mid new before between after (Ok a) is text h = (
  h.0 ∙ (ap (λ (s : Session). entered_all s e.entries) is ∙ sym (entered-append old d.entries e.entries)),
  h.1 ∙ (ap (λ (z : List ℕ). z ++ e.text) text ∙ append_assoc before d.text e.text),
  h.2,
)
does_joined d e old mid new before between after (Err x) is text h = part_then d.entries e.entries old mid new is h

done_then : (a : Answer) (d e : Deed) → Done ≡ a → if_done a d e ≡ joined d e
done_then a d e is = ap (λ (b : Answer). if_done b d e) (sym is)

pub does_then : (d : Deed) (f : Session → Deed) (old mid new : Session) (before between after : List ℕ) (r : Result Answer NoMemory) → Does d old before (Ok Done) mid between
    → Does (f mid) mid between r new after → Does (followed old d f) old before r new after
does_then d f old mid new before between after r h more =
    subst (λ (x : Deed). Does x old before r new after) (sym (done_then d.answer d (f (entered_all old d.entries)) h.2))
    (does_joined d (f (entered_all old d.entries)) old mid new before between after r h.0 h.1 (subst (λ (s : Session). Does (f s) mid between r new after) h.0 more))

else_stays : (a b : Answer) (d e : Deed) → stops a ≡ true → a ≡ b → if_done b d e ≡ d
else_stays Done b d e off is = absurd cc
else_stays (Refused word) b d e off is = ap (λ (x : Answer). if_done x d e) (sym is)
else_stays Outside b d e off is = ap (λ (x : Answer). if_done x d e) (sym is)
else_stays Spent b d e off is = ap (λ (x : Answer). if_done x d e) (sym is)

-- nothing follows what was not done
pub does_stop : (d : Deed) (f : Session → Deed) (old new : Session) (before after : List ℕ) (a : Answer) → Does d old before (Ok a) new after → stops a ≡ true
    → Does (followed old d f) old before (Ok a) new after
does_stop d f old new before after a h off =
    subst (λ (x : Deed). Does x old before (Ok a) new after) (sym (else_stays a d.answer d (f (entered_all old d.entries)) off h.2)) h

part_if : (a : Answer) (d e : Deed) (old new : Session) → IsPart d.entries old new → IsPart (if_done a d e).entries old new
part_if Done d e old new p = part_first d.entries e.entries old new p
part_if (Refused word) d e old new p = p
part_if Outside d e old new p = p
part_if Spent d e old new p = p

pub part_followed : (d : Deed) (f : Session → Deed) (old new : Session) → IsPart d.entries old new → IsPart (followed old d f).entries old new
part_followed d f old new p = part_if d.answer d (f (entered_all old d.entries)) old new p

-- entries that are made together

pub makes_none : (s : Session) (es : List Event) (text : List ℕ) → spent_by s es ≡ None → makes s es text ≡ record { entries = es; text = text; answer = Done }
makes_none s es text is = ap (λ (o : Option Load). let d : Deed = if is_some o then fails Spent else record { entries = es; text = text; answer = Done } in d) is

makes_some : (s : Session) (es : List Event) (text : List ℕ) (l : Load) → spent_by s es ≡ Some l → makes s es text ≡ fails Spent
makes_some s es text l is = ap (λ (o : Option Load). let d : Deed = if is_some o then fails Spent else record { entries = es; text = text; answer = Done } in d) is

pub does_makes : (es : List Event) (text : List ℕ) (old new : Session) (before after : List ℕ) → spent_by old es ≡ None → new ≡ entered_all old es → after ≡ before ++ text
    → Does (makes old es text) old before (Ok Done) new after
does_makes es text old new before after none is wrote =
    subst (λ (d : Deed). Does d old before (Ok Done) new after) (sym (makes_none old es text none)) (is, wrote, refl)

pub does_spent : (es : List Event) (text : List ℕ) (old new : Session) (out : List ℕ) (l : Load) → spent_by old es ≡ Some l → new ≡ old → Does (makes old es text) old out (Ok Spent) new out
does_spent es text old new out l some is =
    subst (λ (d : Deed). Does d old out (Ok Spent) new out) (sym (makes_some old es text l some)) (is, sym (append-nil out), refl)

pub part_makes : (es : List Event) (text : List ℕ) (old new : Session) → spent_by old es ≡ None → new ≡ entered_all old es → IsPart (makes old es text).entries old new
part_makes es text old new none is =
    subst (λ (d : Deed). IsPart d.entries old new) (sym (makes_none old es text none)) (part_all es old new is)

pub does_nothing : (s new : Session) (out : List ℕ) → new ≡ s → Does nothing s out (Ok Done) new out
does_nothing s new out is = (is, sym (append-nil out), refl)

pub does_fail : (a : Answer) (s new : Session) (out : List ℕ) → new ≡ s → Does (fails a) s out (Ok a) new out
does_fail a s new out is = (is, sym (append-nil out), refl)

-- a text of its own
pub aloud : (d : Deed) (old new : Session) (r : Result Answer NoMemory) (out : List ℕ) → Does d old [] r new [] → Does d old out r new out
aloud d old new (Ok a) out h = (h.0, sym (append-nil out) ∙ ap (λ (z : List ℕ). out ++ z) h.1, h.2)
aloud d old new (Err e) out h = h

-- without memory, where nothing was done
pub not_done : (d : Deed) (old new : Session) (before after : List ℕ) (e : NoMemory) → new ≡ old → Does d old before (Err e) new after
not_done d old new before after e is = part_same d.entries old new is

stops_not : (a : Answer) → stops a ≡ false → a ≡ Done
stops_not Done is = refl
stops_not (Refused word) is = absurd cc
stops_not Outside is = absurd cc
stops_not Spent is = absurd cc

-- what did not stop is done
pub does_on : (d : Deed) (old new : Session) (before after : List ℕ) (a : Answer) → Does d old before (Ok a) new after → stops a ≡ false → Does d old before (Ok Done) new after
does_on d old new before after a h on = subst (λ (x : Answer). Does d old before (Ok x) new after) (stops_not a on) h
