-- What was handed out for a submission is what it was done with.
use Rattle.std.proofs.Common.{◌≡◌, ◌<◌, ◌+◌, ◌∙◌, ◌==◌, ℕ, suc, zero, Bool, true, false, Option, None, Some, List, [], ◌∷◌, ◌++◌, map, ap, slice_get, sym, refl, arith, if◌then◌else◌}
use Rattle.std.specs.Option.{option_map_or}
use Rattle.oi_history.specs.Meanings.{Meanings, accepted_in, handed_in, handed_so_far, meanings}
use Rattle.oi_history.specs.Permitted.{ArePermitted, IsNextCommand}
use Rattle.oi_history.specs.Recovering.{tasks_step}
use Rattle.oi_history.specs.Tasks.{due_from, due_of, is_done, told_task}
use Rattle.oi_history.specs.declared.config.SessionConfig.{SessionConfig}
use Rattle.oi_history.specs.declared.event.Event.{Event}
use Rattle.oi_history.specs.declared.event.Event.TheVariants.{Deliver}
use Rattle.oi_history.specs.declared.event.Numbered.{Numbered}
use Rattle.oi_history.specs.declared.fate.Delivered.{Delivered}
use Rattle.oi_history.specs.declared.fate.Fate.{Fate}
use Rattle.oi_history.specs.declared.fate.Fate.TheVariants.{Waiting, Live, Done}
use Rattle.oi_history.specs.declared.fate.Outcome.{Outcome}
use Rattle.oi_history.specs.declared.task.Task.{Task}
use Rattle.oi_session_laws.proofs.Handed.{handed}
use Rattle.oi_session_laws.proofs.Moved.{AreMoved, AreNew, hands_out, moved_after}
use Rattle.oi_session_laws.proofs.TagCounts.{other_test, same_test}
use Rattle.oi_session_laws.proofs.Told.{AreSound}
use Rattle.oi_session_laws.specs.Answers.{outcome_among, outcome_if}

-- of the submission with this id
abbrev pub outcome_at : ℕ → List Task → Option Outcome
outcome_at id [] = None
outcome_at zero (t ∷ ts) = outcome_if t.told t.fate
outcome_at (suc id) (t ∷ ts) = outcome_at id ts

abbrev pub or_else : Option Outcome → Option Outcome → Option Outcome
or_else None other = other
or_else (Some outcome) other = Some outcome

or_test : (b : Bool) (outcome : Outcome) (x y : Option Outcome) → (if b then Some outcome else or_else x y) ≡ or_else (if b then Some outcome else x) y
or_test true outcome x y = refl
or_test false outcome x y = refl

among-append : (id : ℕ) (xs ys : List Delivered) → outcome_among id (xs ++ ys) ≡ or_else (outcome_among id xs) (outcome_among id ys)
among-append id [] ys = refl
among-append id (x ∷ xs) ys =
    ap (λ (o : Option Outcome). if x.id == id then Some x.outcome else o) (among-append id xs ys)
    ∙ or_test (x.id == id) x.outcome (outcome_among id xs) (outcome_among id ys)

-- an entry that hands out nothing

not_told : (b : Bool) (f : Fate) → b ≡ false → outcome_if b f ≡ None
not_told true f is = absurd cc
not_told false f is = refl

outcome_new : (a id : ℕ) (us : List Task) → AreNew a us → outcome_at id us ≡ None
outcome_new a id [] new = refl
outcome_new a zero (u ∷ us) new = not_told u.told u.fate new.0.told
outcome_new a (suc id) (u ∷ us) new = outcome_new a id us new.1

outcome_stays : (b : Bool) (f g : Fate) → ((outcome : Outcome) (at : ℕ) → f ≡ Done outcome at → g ≡ Done outcome at) → (b ≡ true → is_done f ≡ true)
    → outcome_if b g ≡ outcome_if b f
outcome_stays false f g keeps sound = refl
outcome_stays true (Waiting tries) g keeps sound = let d = sound refl in absurd cc
outcome_stays true (Live generation tag tries) g keeps sound = let d = sound refl in absurd cc
outcome_stays true (Done outcome at) g keeps sound = ap (outcome_if true) (keeps outcome at refl)

outcome_moved : (e : Event) (a id : ℕ) (ts us : List Task) → hands_out e ≡ false → AreMoved e a ts us → AreSound ts → outcome_at id us ≡ outcome_at id ts
outcome_moved e a id [] us quiet m sound = outcome_new a id us m
outcome_moved e a id (t ∷ ts) [] quiet m sound = absurd m
outcome_moved e a zero (t ∷ ts) (u ∷ us) quiet m sound =
    ap (λ (b : Bool). outcome_if b u.fate) (m.0.told quiet) ∙ outcome_stays t.told t.fate u.fate m.0.done sound.0.done
outcome_moved e a (suc id) (t ∷ ts) (u ∷ us) quiet m sound = outcome_moved e a id ts us quiet m.1 sound.1

-- one that hands out all that is due

none_else : (x y : Option Outcome) → y ≡ None → or_else x y ≡ x
none_else None y is = is
none_else (Some outcome) y is = refl

other_outcome : (k base : ℕ) (t : Task) (f : Fate) → (base ≡ k → ⊥) → outcome_among k (due_of base t f) ≡ None
other_outcome k base t (Waiting tries) differs = refl
other_outcome k base t (Live generation tag tries) differs = refl
other_outcome k base t (Done outcome at) differs = one t.told
  where
    one : (b : Bool) → outcome_among k (if b then [] else record { id = base; outcome = outcome } ∷ []) ≡ None
    one true = refl
    one false = rw (other_test base k differs) refl

below_none : (k base : ℕ) (ts : List Task) → k < base → outcome_among k (due_from base ts) ≡ None
below_none k base [] less = refl
below_none k base (t ∷ ts) less =
    among-append k (due_of base t t.fate) (due_from (base + 1) ts)
    ∙ none_else (outcome_among k (due_of base t t.fate)) (outcome_among k (due_from (base + 1) ts)) (below_none k (base + 1) ts (omega (arith, less)))
    ∙ other_outcome k base t t.fate (λ same. omega (arith, less, same))

own_outcome : (k base : ℕ) (t : Task) (f : Fate) → base ≡ k → (t.told ≡ true → is_done f ≡ true)
    → or_else (outcome_if t.told f) (outcome_among k (due_of base t f)) ≡ outcome_if (is_done f) f
own_outcome k base t (Waiting tries) same sound = waits t.told
  where
    waits : (b : Bool) → or_else (outcome_if b (Waiting tries)) None ≡ None
    waits true = refl
    waits false = refl
own_outcome k base t (Live generation tag tries) same sound = lives t.told
  where
    lives : (b : Bool) → or_else (outcome_if b (Live generation tag tries)) None ≡ None
    lives true = refl
    lives false = refl
own_outcome k base t (Done outcome at) same sound = ends t.told
  where
    ends : (b : Bool) → or_else (outcome_if b (Done outcome at)) (outcome_among k (if b then [] else record { id = base; outcome = outcome } ∷ [])) ≡ Some outcome
    ends true = refl
    ends false = rw (same, same_test k) refl

due_outcome : (k id base : ℕ) (ts : List Task) → k ≡ base + id → AreSound ts
    → or_else (outcome_at id ts) (outcome_among k (due_from base ts)) ≡ outcome_at id (map told_task ts)
due_outcome k id base [] same sound = refl
due_outcome k zero base (t ∷ ts) same sound =
    ap (or_else (outcome_if t.told t.fate))
    (among-append k (due_of base t t.fate) (due_from (base + 1) ts)
    ∙ none_else (outcome_among k (due_of base t t.fate)) (outcome_among k (due_from (base + 1) ts)) (below_none k (base + 1) ts (omega (arith, same))))
    ∙ own_outcome k base t t.fate (omega (arith, same)) sound.0.done
due_outcome k (suc id) base (t ∷ ts) same sound =
    ap (or_else (outcome_at id ts))
    (among-append k (due_of base t t.fate) (due_from (base + 1) ts)
    ∙ ap (λ (o : Option Outcome). or_else o (outcome_among k (due_from (base + 1) ts))) (other_outcome k base t t.fate (λ e. omega (arith, same, e))))
    ∙ due_outcome k id (base + 1) ts (omega (arith, same)) sound.1

-- and so over all entries

outcome_after : (C : SessionConfig) (at : ℕ) (m : Meanings) (accepted : Bool) (e : Event) (id : ℕ) → IsNextCommand C m e → AreSound m.tasks
    → or_else (outcome_at id m.tasks) (outcome_among id (handed_in e m)) ≡ outcome_at id (tasks_step C at accepted m.phase m.handler m.busy e m.tasks)
outcome_after C at m accepted (Deliver count) id next sound = due_outcome id id 0 m.tasks (omega arith) sound
outcome_after C at m accepted e id next sound =
    none_else (outcome_at id m.tasks) None refl ∙ sym (outcome_moved e C.tries id m.tasks _ refl (moved_after C at m accepted e next) sound)

pub outcome_handed : (C : SessionConfig) (H : List Numbered) → ArePermitted C H → (id : ℕ)
    → outcome_among id (handed_so_far C H) ≡ outcome_at id (meanings C H).tasks
outcome_handed C [] legal id = refl
outcome_handed C (n ∷ H) legal id =
    among-append id (handed_so_far C H) (handed_in n.event (meanings C H))
    ∙ ap (λ (o : Option Outcome). or_else o (outcome_among id (handed_in n.event (meanings C H)))) (outcome_handed C H legal.1 id)
    ∙ outcome_after C n.number (meanings C H) (accepted_in n.event (meanings C H)) n.event id legal.0.command (handed C H legal.1).sound

-- by id
pub outcome_found : (id : ℕ) (ts : List Task) (t : Task) → slice_get ts id ≡ Some t → outcome_if t.told t.fate ≡ outcome_at id ts
outcome_found id [] t is = absurd cc
outcome_found zero (u ∷ us) t is = ap (λ (o : Option Task). option_map_or (λ (x : Task). outcome_if x.told x.fate) o None) (sym is)
outcome_found (suc id) (u ∷ us) t is = outcome_found id us t is

pub outcome_lost : (id : ℕ) (ts : List Task) → slice_get ts id ≡ None → outcome_at id ts ≡ None
outcome_lost id [] is = refl
outcome_lost zero (u ∷ us) is = absurd cc
outcome_lost (suc id) (u ∷ us) is = outcome_lost id us is
