-- What the entries of a transmission add to the loads.
use Rattle.std.proofs.Common.{◌≡◌, ◌∙◌, ◌+◌, ◌++◌, ℕ, Bool, true, false, not, List, [], ◌∷◌, length, map, ap, sym, refl, arith}
use Rattle.oi_base.specs.Counts.{bit}
use Rattle.oi_base.specs.declared.tag.Tag.{Tag}
use Rattle.oi_history.specs.Locks.{is_sending}
use Rattle.oi_history.specs.Meanings.{Meanings, meanings}
use Rattle.oi_history.specs.declared.event.Event.{Event}
use Rattle.oi_history.specs.declared.event.Event.TheVariants.{Submit, PduIn, Deliver, Reap}
use Rattle.oi_solo.specs.Limits.{first_passed, kept_bytes, loaded, needs_receiving, receiving_load, sending_load, spent_by}
use Rattle.oi_solo.specs.Sessions.{Session, entered, entered_all}
use Rattle.oi_solo.specs.Turns.{hears_of, is_push, is_turn, later}
use Rattle.oi_solo.specs.declared.load.Load.{Load}

abbrev pub AreTurn : List Event → Type 0
AreTurn [] = Unit {0}
AreTurn (e ∷ es) = (is_turn e ≡ true) × AreTurn es

turn_sends : (e : Event) → is_turn e ≡ true → is_sending e ≡ true
turn_sends (PduIn generation pdu) is = absurd cc
turn_sends (Deliver count) is = absurd cc
turn_sends e is = refl

turn_hears : (m : Meanings) (e : Event) → is_turn e ≡ true → needs_receiving m e ≡ not (is_push e)
turn_hears m (Submit id request) is = absurd cc
turn_hears m e is = refl

pub turn_empty : (e : Event) → is_turn e ≡ true → kept_bytes e ≡ 0
turn_empty (Submit id request) is = absurd cc
turn_empty (PduIn generation pdu) is = absurd cc
turn_empty e is = refl

abbrev made : ℕ → ℕ → Load
made steps kept = record { steps = steps; kept = kept }

later_none : (l : Load) → later 0 l ≡ l
later_none l = let same : l.steps + 0 ≡ l.steps = omega arith in ap (λ (n : ℕ). made n l.kept) same

later_more : (a b : ℕ) (l : Load) → later b (later a l) ≡ later (a + b) l
later_more a b l = let same : l.steps + a + b ≡ l.steps + (a + b) = omega arith in ap (λ (n : ℕ). made n l.kept) same

loaded_later : (covers : Bool) (e : Event) (l : Load) → kept_bytes e ≡ 0 → loaded covers e l ≡ later (bit covers) l
loaded_later true e l none = let same : l.kept + kept_bytes e ≡ l.kept = omega (arith, none) in ap (λ (n : ℕ). made (l.steps + 1) n) same
loaded_later false e l none = sym (later_none l)

sends-later : (s : Session) (es : List Event) → AreTurn es → sending_load (entered_all s es).history ≡ later (length es) (sending_load s.history)
sends-later s [] turn = sym (later_none (sending_load s.history))
sends-later s (e ∷ es) turn =
    let one : loaded (is_sending e) e (sending_load s.history) ≡ later 1 (sending_load s.history) =
    ap (λ (b : Bool). loaded b e (sending_load s.history)) (turn_sends e turn.0) ∙ loaded_later true e (sending_load s.history) (turn_empty e turn.0) in
    let same : 1 + length es ≡ length (e ∷ es) = omega arith in
    sends-later (entered s e) es turn.1 ∙ (ap (later (length es)) one ∙ (later_more 1 (length es) (sending_load s.history) ∙ ap (λ (n : ℕ). later n (sending_load s.history)) same))

hears-later : (s : Session) (es : List Event) → AreTurn es → receiving_load s.config (entered_all s es).history ≡ later (hears_of es) (receiving_load s.config s.history)
hears-later s [] turn = sym (later_none (receiving_load s.config s.history))
hears-later s (e ∷ es) turn =
    let l = receiving_load s.config s.history in
    let one : loaded (needs_receiving (meanings s.config s.history) e) e l ≡ later (bit (not (is_push e))) l =
    ap (λ (b : Bool). loaded b e l) (turn_hears (meanings s.config s.history) e turn.0) ∙ loaded_later (not (is_push e)) e l (turn_empty e turn.0) in
    hears-later (entered s e) es turn.1 ∙ (ap (later (hears_of es)) one ∙ later_more (bit (not (is_push e))) (hears_of es) l)

-- releases, and what is owed behind them

turn-append : (xs ys : List Event) → AreTurn xs → AreTurn ys → AreTurn (xs ++ ys)
turn-append [] ys p q = q
turn-append (x ∷ xs) ys p q = (p.0, turn-append xs ys p.1 q)

turn-reaps : (tags : List Tag) → AreTurn (map (λ tag. Reap tag) tags)
turn-reaps [] = tt
turn-reaps (tag ∷ tags) = (refl, turn-reaps tags)

count-reaps : (tags : List Tag) (es : List Event) → length (map (λ tag. Reap tag) tags ++ es) ≡ length tags + length es
count-reaps [] es = omega arith
count-reaps (tag ∷ tags) es = let more = count-reaps tags es in omega (arith, more)

hears-reaps : (tags : List Tag) (es : List Event) → hears_of (map (λ tag. Reap tag) tags ++ es) ≡ length tags + hears_of es
hears-reaps [] es = omega arith
hears-reaps (tag ∷ tags) es = let more = hears-reaps tags es in omega (arith, more)

pub spent_turn : (s : Session) (tags : List Tag) (es : List Event) → AreTurn es
    → first_passed s.config (sending_load s.history) (later (length tags + length es) (sending_load s.history)) (receiving_load s.config s.history) (later (length tags + hears_of es) (receiving_load s.config s.history))
    ≡ spent_by s (map (λ tag. Reap tag) tags ++ es)
spent_turn s tags es turn =
    let all = map (λ (tag : Tag). Reap tag) tags ++ es in
    let turns : AreTurn all = turn-append (map (λ (tag : Tag). Reap tag) tags) es (turn-reaps tags) turn in
    let sending : sending_load (entered_all s all).history ≡ later (length tags + length es) (sending_load s.history) =
    sends-later s all turns ∙ ap (λ (n : ℕ). later n (sending_load s.history)) (count-reaps tags es) in
    let receiving : receiving_load s.config (entered_all s all).history ≡ later (length tags + hears_of es) (receiving_load s.config s.history) =
    hears-later s all turns ∙ ap (λ (n : ℕ). later n (receiving_load s.config s.history)) (hears-reaps tags es) in
    ap (λ (l : Load). first_passed s.config (sending_load s.history) l (receiving_load s.config s.history) (later (length tags + hears_of es) (receiving_load s.config s.history))) (sym sending)
    ∙ ap (λ (l : Load). first_passed s.config (sending_load s.history) (sending_load (entered_all s all).history) (receiving_load s.config s.history) l) (sym receiving)
