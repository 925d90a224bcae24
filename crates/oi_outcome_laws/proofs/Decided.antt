-- What was handed out was decided by an entry of the history.
use Rattle.std.proofs.Common.{◌≡◌, ◌∙◌, ◌+◌, ◌++◌, ◌⊎◌, inl, inr, ℕ, suc, zero, Bool, true, false, List, [], ◌∷◌, length, map, ap, subst, sym, refl, arith, nat_eq, Some, slice_get, if◌then◌else◌}
use Rattle.std.proofs.lemmas.Bool.Decides.{nat_tests}
use Rattle.oi_history.specs.Commands.{command_of}
use Rattle.oi_history.specs.Courses.{is_fail_fast}
use Rattle.oi_history.specs.Meanings.{Meanings, accepted_in, handed_in, handed_so_far, meanings}
use Rattle.oi_history.specs.Permitted.{ArePermitted, IsNextCommand}
use Rattle.oi_history.specs.Recovering.{failed, submitted_in, tasks_step}
use Rattle.oi_history.specs.Tasks.{due_from, due_in, due_of, fresh_task, is_waiting, told_task}
use Rattle.oi_history.specs.declared.config.SessionConfig.{SessionConfig}
use Rattle.oi_history.specs.declared.command.Command.{Command}
use Rattle.oi_history.specs.declared.event.Event.{Event}
use Rattle.oi_history.specs.declared.event.Event.TheVariants.{Submit, Deliver, Issue}
use Rattle.oi_history.specs.declared.event.Numbered.{Numbered}
use Rattle.oi_history.specs.declared.fate.Delivered.{Delivered}
use Rattle.oi_history.specs.declared.fate.Fate.{Fate}
use Rattle.oi_history.specs.declared.fate.Fate.TheVariants.{Waiting, Live, Done}
use Rattle.oi_history.specs.declared.fate.Outcome.{Outcome}
use Rattle.oi_history.specs.declared.fate.Outcome.TheVariants.{Host as ByHost}
use Rattle.oi_history.specs.declared.phase.Phase.{Phase}
use Rattle.oi_history.specs.declared.task.Task.{Task}
use Rattle.oi_outcome_laws.proofs.Data.{has_data}
use Rattle.oi_outcome_laws.proofs.Turned.{Row, found, turned_after}
use Rattle.oi_outcome_laws.specs.Outcomes.{AreDecided, Decides, IsByTable, IsDecided, is_command_of}
use Rattle.oi_recovery.specs.declared.host_code.HostCode.TheVariants.{FailFast}
use Rattle.oi_session_laws.proofs.Moved.{sendable_there, sendable_waits}
use Rattle.oi_session_laws.proofs.Stays.{stays_done}
use Rattle.oi_session_laws.specs.Stays.{fate_at}

-- one entry

by_table : (C : SessionConfig) (H : List Numbered) (e : Event) (id : ℕ) (outcome : Outcome) → ArePermitted C H → (t : Task) × (slice_get (meanings C H).tasks id ≡ Some t) × Row C (meanings C H) e id t outcome
    → IsByTable C H e id outcome
by_table C H e id outcome legal p = record {
  task = p.0;
  there = p.1;
  got = λ live. (has_data C H legal id p.0 p.1).live live;
  stand = p.2.stand;
  stands = p.2.stands;
  hit = p.2.hit;
  befalls = p.2.befalls;
  gives = p.2.gives;
}

-- a submission that comes in stands behind the others
last_of : (id : ℕ) (ts : List Task) (u : Task) (f : Fate) → fate_at id (ts ++ u ∷ []) ≡ Some f → (fate_at id ts ≡ Some f) ⊎ ((id ≡ length ts) × (u.fate ≡ f))
last_of zero [] u f is = inr (refl, cc)
last_of (suc id) [] u f is = absurd cc
last_of zero (t ∷ ts) u f is = inl is
last_of (suc id) (t ∷ ts) u f is = further (last_of id ts u f is)
  where
    further : (fate_at id ts ≡ Some f) ⊎ ((id ≡ length ts) × (u.fate ≡ f)) → (fate_at id ts ≡ Some f) ⊎ ((suc id ≡ suc (length ts)) × (u.fate ≡ f))
    further (inl was) = inl was
    further (inr p) = inr (ap suc p.0, p.1)

-- where it is done at once, the session fails fast
at_once_by : (p : Phase) (at : ℕ) (c : Command) (b : Bool) → is_fail_fast p ≡ b → (outcome : Outcome) (n : ℕ) → (if b then failed at FailFast (fresh_task c) else fresh_task c).fate ≡ Done outcome n
    → (is_fail_fast p ≡ true) × (outcome ≡ ByHost FailFast)
at_once_by p at c true is outcome n done = (is, cc)
at_once_by p at c false is outcome n done = absurd cc

at_once : (p : Phase) (at : ℕ) (c : Command) (outcome : Outcome) (n : ℕ) → (submitted_in p at c).fate ≡ Done outcome n → (is_fail_fast p ≡ true) × (outcome ≡ ByHost FailFast)
at_once p at c outcome n done = at_once_by p at c (is_fail_fast p) refl outcome n done

came_in : (C : SessionConfig) (H : List Numbered) (at k : ℕ) (request : _) (id : ℕ) (outcome : Outcome) (n : ℕ)
    → (fate_at id (meanings C H).tasks ≡ Some (Done outcome n)) ⊎ ((id ≡ length (meanings C H).tasks) × ((submitted_in (meanings C H).phase at (command_of request)).fate ≡ Done outcome n))
    → (fate_at id (meanings C H).tasks ≡ Some (Done outcome n)) ⊎ Decides C H (Submit k request) id outcome
came_in C H at k request id outcome n (inl was) = inl was
came_in C H at k request id outcome n (inr p) = let fails = at_once (meanings C H).phase at (command_of request) outcome n p.1 in inr (p.0, fails.0, fails.1)

turned_in : (C : SessionConfig) (H : List Numbered) (e : Event) (id : ℕ) (outcome : Outcome) (n : ℕ) → ArePermitted C H
    → (fate_at id (meanings C H).tasks ≡ Some (Done outcome n)) ⊎ ((t : Task) × (slice_get (meanings C H).tasks id ≡ Some t) × Row C (meanings C H) e id t outcome)
    → (fate_at id (meanings C H).tasks ≡ Some (Done outcome n)) ⊎ IsByTable C H e id outcome
turned_in C H e id outcome n legal (inl was) = inl was
turned_in C H e id outcome n legal (inr p) = inr (by_table C H e id outcome legal p)

-- behind an entry a submission is done as before, or the entry decides it
step_decides : (C : SessionConfig) (H : List Numbered) (at : ℕ) (e : Event) (id : ℕ) (outcome : Outcome) (n : ℕ) → ArePermitted C H
    → fate_at id (tasks_step C at (accepted_in e (meanings C H)) (meanings C H).phase (meanings C H).handler (meanings C H).busy e (meanings C H).tasks) ≡ Some (Done outcome n)
    → (fate_at id (meanings C H).tasks ≡ Some (Done outcome n)) ⊎ Decides C H e id outcome
step_decides C H at (Submit k request) id outcome n legal is =
    came_in C H at k request id outcome n (last_of id (meanings C H).tasks (submitted_in (meanings C H).phase at (command_of request)) (Done outcome n) is)
step_decides C H at e id outcome n legal is =
    turned_in C H e id outcome n legal (found C (meanings C H) e 0 id id (omega arith) (meanings C H).tasks _ (turned_after C at (meanings C H) e refl) outcome n is)

-- no command is sent of one that is done

equal_from : (a b : ℕ) → nat_eq a b ≡ true → a ≡ b
equal_from a b is = grind (arith, nat_tests, is)

fate_of : (id : ℕ) (ts : List Task) (t : Task) (f : Fate) → fate_at id ts ≡ Some f → slice_get ts id ≡ Some t → t.fate ≡ f
fate_of id [] t f is there = absurd cc
fate_of zero (x ∷ ts) t f is there = let same : x ≡ t = cc in let fate : x.fate ≡ f = cc in subst (λ (y : Task). y.fate ≡ f) same fate
fate_of (suc id) (x ∷ ts) t f is there = fate_of id ts t f is there

waits_not_done : (f : Fate) (outcome : Outcome) (n : ℕ) → is_waiting f ≡ true → f ≡ Done outcome n → ⊥
waits_not_done (Waiting tries) outcome n waits is = cc
waits_not_done (Live generation tag tries) outcome n waits is = cc
waits_not_done (Done o k) outcome n waits is = cc

not_sent_by : (C : SessionConfig) (m : Meanings) (id k generation : ℕ) (tag : _) (cmdsn : ℕ) (outcome : Outcome) (n : ℕ) (b : Bool) → nat_eq k id ≡ b → IsNextCommand C m (Issue k generation tag cmdsn)
    → fate_at id m.tasks ≡ Some (Done outcome n) → b ≡ false
not_sent_by C m id k generation tag cmdsn outcome n false is next done = refl
not_sent_by C m id k generation tag cmdsn outcome n true is next done =
    let there = sendable_there C.queue_depth k m.tasks next.0 in
    let waits = sendable_waits C.queue_depth k m.tasks there.0 next.0 there.1 in
    let here = subst (λ (i : ℕ). fate_at i m.tasks ≡ Some (Done outcome n)) (sym (equal_from k id is)) done in
    absurd (waits_not_done there.0.fate outcome n waits (fate_of k m.tasks there.0 (Done outcome n) here there.1))

not_sent : (C : SessionConfig) (m : Meanings) (e : Event) (id : ℕ) (outcome : Outcome) (n : ℕ) → IsNextCommand C m e → fate_at id m.tasks ≡ Some (Done outcome n) → is_command_of id e ≡ false
not_sent C m (Issue k generation tag cmdsn) id outcome n next done = not_sent_by C m id k generation tag cmdsn outcome n (nat_eq k id) refl next done
not_sent C m e id outcome n next done = refl

-- each that is done

longer : (C : SessionConfig) (n : Numbered) (H : List Numbered) (id : ℕ) (outcome : Outcome) → is_command_of id n.event ≡ false → IsDecided C H id outcome → IsDecided C (n ∷ H) id outcome
longer C n H id outcome quiet d = record {
  later = n ∷ d.later;
  entry = d.entry;
  before = d.before;
  split = ap (λ (z : List Numbered). n ∷ z) d.split;
  decides = d.decides;
  last = (quiet, d.last);
}

pub decided_at : (C : SessionConfig) (H : List Numbered) → ArePermitted C H → (id : ℕ) (outcome : Outcome) (n : ℕ) → fate_at id (meanings C H).tasks ≡ Some (Done outcome n) → IsDecided C H id outcome
decided_at C [] legal id outcome n is = absurd cc
decided_at C (entry ∷ H) legal id outcome n is = either (decided_at C H legal.1 id outcome n) (step_decides C H entry.number entry.event id outcome n legal.1 is)
  where
    either : (fate_at id (meanings C H).tasks ≡ Some (Done outcome n) → IsDecided C H id outcome)
        → (fate_at id (meanings C H).tasks ≡ Some (Done outcome n)) ⊎ Decides C H entry.event id outcome → IsDecided C (entry ∷ H) id outcome
    either before (inl was) = longer C entry H id outcome (not_sent C (meanings C H) entry.event id outcome n legal.0.command was) (before was)
    either before (inr decides) = record { later = []; entry = entry; before = H; split = refl; decides = decides; last = tt }

-- what was handed out is done

record IsDoneAs (ts : List Task) (d : Delivered) : Type 0 where
  at : ℕ
  is : fate_at d.id ts ≡ Some (Done d.outcome at)

abbrev AreDoneAs : List Task → List Delivered → Type 0
AreDoneAs ts [] = Unit {0}
AreDoneAs ts (d ∷ ds) = IsDoneAs ts d × AreDoneAs ts ds

as-append : (ts : List Task) (xs ys : List Delivered) → AreDoneAs ts xs → AreDoneAs ts ys → AreDoneAs ts (xs ++ ys)
as-append ts [] ys p q = q
as-append ts (x ∷ xs) ys p q = (p.0, as-append ts xs ys p.1 q)

as-entered : (C : SessionConfig) (n : Numbered) (H : List Numbered) → ArePermitted C (n ∷ H) → (ds : List Delivered) → AreDoneAs (meanings C H).tasks ds → AreDoneAs (meanings C (n ∷ H)).tasks ds
as-entered C n H legal [] p = tt
as-entered C n H legal (d ∷ ds) p = (record { at = p.0.at; is = stays_done C H (n ∷ []) legal d.id d.outcome p.0.at p.0.is }, as-entered C n H legal ds p.1)

-- what is due, from an id on
record IsDue (k : ℕ) (ts : List Task) (d : Delivered) : Type 0 where
  place : ℕ
  id : d.id ≡ k + place
  at : ℕ
  is : fate_at place ts ≡ Some (Done d.outcome at)

abbrev AreDue : ℕ → List Task → List Delivered → Type 0
AreDue k ts [] = Unit {0}
AreDue k ts (d ∷ ds) = IsDue k ts d × AreDue k ts ds

due-append : (k : ℕ) (ts : List Task) (xs ys : List Delivered) → AreDue k ts xs → AreDue k ts ys → AreDue k ts (xs ++ ys)
due-append k ts [] ys p q = q
due-append k ts (x ∷ xs) ys p q = (p.0, due-append k ts xs ys p.1 q)

due-behind : (k : ℕ) (t : Task) (ts : List Task) (ds : List Delivered) → AreDue (k + 1) ts ds → AreDue k (t ∷ ts) ds
due-behind k t ts [] p = tt
due-behind k t ts (d ∷ ds) p = (record { place = suc p.0.place; id = omega (arith, p.0.id); at = p.0.at; is = p.0.is }, due-behind k t ts ds p.1)

due_unless : (k : ℕ) (t : Task) (ts : List Task) (outcome : Outcome) (at : ℕ) (b : Bool) → t.fate ≡ Done outcome at → AreDue k (t ∷ ts) (if b then [] else record { id = k; outcome = outcome } ∷ [])
due_unless k t ts outcome at true is = tt
due_unless k t ts outcome at false is = (record { place = 0; id = omega arith; at = at; is = ap (λ (f : Fate). Some f) is }, tt)

due_first : (k : ℕ) (t : Task) (ts : List Task) (f : Fate) → t.fate ≡ f → AreDue k (t ∷ ts) (due_of k t f)
due_first k t ts (Waiting tries) is = tt
due_first k t ts (Live generation tag tries) is = tt
due_first k t ts (Done outcome at) is = due_unless k t ts outcome at t.told is

due_all : (k : ℕ) (ts : List Task) → AreDue k ts (due_from k ts)
due_all k [] = tt
due_all k (t ∷ ts) = due-append k (t ∷ ts) (due_of k t t.fate) (due_from (k + 1) ts) (due_first k t ts t.fate refl) (due-behind k t ts (due_from (k + 1) ts) (due_all (k + 1) ts))

fate-told : (id : ℕ) (ts : List Task) → fate_at id (map told_task ts) ≡ fate_at id ts
fate-told id [] = refl
fate-told zero (t ∷ ts) = refl
fate-told (suc id) (t ∷ ts) = fate-told id ts

due_as : (ts : List Task) (ds : List Delivered) → AreDue 0 ts ds → AreDoneAs (map told_task ts) ds
due_as ts [] p = tt
due_as ts (d ∷ ds) p =
    let same : d.id ≡ p.0.place = omega (arith, p.0.id) in
    (record { at = p.0.at; is = fate-told d.id ts ∙ subst (λ (i : ℕ). fate_at i ts ≡ Some (Done d.outcome p.0.at)) (sym same) p.0.is }, due_as ts ds p.1)

handed_as : (C : SessionConfig) (at : ℕ) (m : Meanings) (e : Event) → AreDoneAs (tasks_step C at (accepted_in e m) m.phase m.handler m.busy e m.tasks) (handed_in e m)
handed_as C at m (Deliver count) = due_as m.tasks (due_in m.tasks) (due_all 0 m.tasks)
handed_as C at m e = tt

all_done : (C : SessionConfig) (H : List Numbered) → ArePermitted C H → AreDoneAs (meanings C H).tasks (handed_so_far C H)
all_done C [] legal = tt
all_done C (n ∷ H) legal =
    as-append (meanings C (n ∷ H)).tasks (handed_so_far C H) (handed_in n.event (meanings C H)) (as-entered C n H legal (handed_so_far C H) (all_done C H legal.1)) (handed_as C n.number (meanings C H) n.event)

all_decided : (C : SessionConfig) (H : List Numbered) → ArePermitted C H → (ds : List Delivered) → AreDoneAs (meanings C H).tasks ds → AreDecided C H ds
all_decided C H legal [] p = tt
all_decided C H legal (d ∷ ds) p = (decided_at C H legal d.id d.outcome p.0.at p.0.is, all_decided C H legal ds p.1)

pub outcomes_decided : (C : SessionConfig) (H : List Numbered) → ArePermitted C H → AreDecided C H (handed_so_far C H)
outcomes_decided C H legal = all_decided C H legal (handed_so_far C H) (all_done C H legal)
