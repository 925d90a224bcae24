-- How many submissions there are: one more by each request that comes in.
use Rattle.std.proofs.Common.{◌≡◌, ◌∙◌, ◌+◌, ◌==◌, ◌||◌, ℕ, suc, zero, Bool, true, false, List, [], ◌∷◌, ◌++◌, length, length-append, ap, sym, refl, arith, nat_eq, nat_lt, Option, Some, None, if◌then◌else◌}
use Rattle.std.proofs.lemmas.Bool.Decides.{nat_tests}
use Rattle.std.proofs.lemmas.List.{length-map}
use Rattle.std.specs.Option.{option_map_or}
use Rattle.oi_base.specs.Counts.{bit}
use Rattle.oi_history.specs.Courses.{is_overdue}
use Rattle.oi_history.specs.Handling.{sent_under}
use Rattle.oi_history.specs.Meanings.{Meanings, accepted_in, meanings}
use Rattle.oi_history.specs.Permitted.{ArePermitted, Comes}
use Rattle.oi_history.specs.Commands.{command_of}
use Rattle.oi_history.specs.Recovering.{carried_out, map_from, submitted_in, tasks_heard, tasks_step}
use Rattle.oi_history.specs.Tags.{holder}
use Rattle.oi_history.specs.Tasks.{changed}
use Rattle.oi_history.specs.declared.allocated.Allocated.{Allocated}
use Rattle.oi_history.specs.declared.config.SessionConfig.{SessionConfig}
use Rattle.oi_history.specs.declared.event.Event.{Event}
use Rattle.oi_history.specs.declared.event.Event.TheVariants.{Submit, PduIn, Deliver, Issue, Lost, Tick, Abort, Terminate}
use Rattle.oi_history.specs.declared.event.Numbered.{Numbered}
use Rattle.oi_history.specs.declared.phase.Handler.{Handler}
use Rattle.oi_history.specs.declared.phase.Handler.TheVariants.{Aborting, ResettingLun, ResettingTarget}
use Rattle.oi_history.specs.declared.task.Task.{Task}
use Rattle.oi_pdu.specs.declared.header.Header.{Header}
use Rattle.oi_pdu.specs.declared.header.Header.TheVariants.{ScsiResponse, DataIn, TaskResponse}
use Rattle.oi_session_laws.specs.Answers.{is_request, is_submit, requests_in, was_submitted}

count-from : (f : ℕ → Task → Task) (k : ℕ) (ts : List Task) → length (map_from k f ts) ≡ length ts
count-from f k [] = refl
count-from f k (t ∷ ts) = ap suc (count-from f (k + 1) ts)

count-at : (f : Task → Task) (id : ℕ) (ts : List Task) → length (changed id f ts) ≡ length ts
count-at f id [] = refl
count-at f zero (t ∷ ts) = refl
count-at f (suc id) (t ∷ ts) = ap suc (count-at f id ts)

count-under : (f : ℕ → Task → Task) (o : Option ℕ) (ts : List Task) → length (option_map_or (λ id. changed id (f id) ts) o ts) ≡ length ts
count-under f None ts = refl
count-under f (Some id) ts = count-at (f id) id ts

count-if : (b : Bool) (us ts : List Task) → length us ≡ length ts → length (if b then us else ts) ≡ length ts
count-if true us ts is = is
count-if false us ts is = refl

one_more : (ts : List Task) (t : Task) → length (ts ++ t ∷ []) ≡ suc (length ts)
one_more ts t = let more = length-append ts (t ∷ []) in omega (arith, more)

count_carried : (a at : ℕ) (handler : Handler) (ts : List Task) → length (carried_out a at handler ts) ≡ length ts
count_carried a at (Aborting id tag since) ts = count-at _ id ts
count_carried a at (ResettingLun lun tag since) ts = length-map ts _
count_carried a at (ResettingTarget tag since) ts = length-map ts _
count_carried a at handler ts = refl

count_heard : (a at : ℕ) (handler : Handler) (busy : List Allocated) (head : Header) (payload : List ℕ) (ts : List Task) → length (tasks_heard a at handler busy head payload ts) ≡ length ts
count_heard a at handler busy (DataIn h) payload ts = count-under _ (holder h.tag.0 busy) ts
count_heard a at handler busy (ScsiResponse h) payload ts = count-under _ (holder h.tag.0 busy) ts
count_heard a at handler busy (TaskResponse h) payload ts = count-if (sent_under h.tag.0 handler) _ ts (count-if (h.response == 0) _ ts (count_carried a at handler ts))
count_heard a at handler busy head payload ts = refl

none_more : (n m : ℕ) → n ≡ m → n ≡ 0 + m
none_more n m is = omega (arith, is)

-- the next id, and those below it
next_id : (k id n more : ℕ) → k ≡ n → more ≡ suc n → (nat_eq k id || nat_lt id n) ≡ nat_lt id more
next_id k id n more same is = grind (arith, nat_tests, same, is)

fewer : (id n more : ℕ) (b : Bool) → b ≡ nat_lt id n → more ≡ n → b ≡ nat_lt id more
fewer id n more b is same = is ∙ ap (nat_lt id) (sym same)

known_after : (C : SessionConfig) (at : ℕ) (m : Meanings) (accepted : Bool) (e : Event) (id : ℕ) (b : Bool) → Comes m e → b ≡ nat_lt id (length m.tasks)
    → (is_submit id e || b) ≡ nat_lt id (length (tasks_step C at accepted m.phase m.handler m.busy e m.tasks))
known_after C at m accepted (Submit k request) id b comes is = ap (λ (c : Bool). nat_eq k id || c) is ∙ next_id k id (length m.tasks) _ comes.0 (one_more m.tasks _)
known_after C at m accepted (Issue k generation tag cmdsn) id b comes is = fewer id _ _ b is (count-at _ k m.tasks)
known_after C at m accepted (PduIn generation pdu) id b comes is = fewer id _ _ b is (count-if accepted _ m.tasks (count_heard C.tries at m.handler m.busy pdu.head pdu.payload m.tasks))
known_after C at m accepted (Lost generation cause) id b comes is = fewer id _ _ b is (count-from _ 0 m.tasks)
known_after C at m accepted (Tick reading) id b comes is = fewer id _ _ b is (count-if (is_overdue C.replacement reading m.phase) _ m.tasks (length-map m.tasks _))
known_after C at m accepted (Abort k) id b comes is = fewer id _ _ b is (count-at _ k m.tasks)
known_after C at m accepted (Deliver count) id b comes is = fewer id _ _ b is (length-map m.tasks _)
known_after C at m accepted (Terminate cause) id b comes is = fewer id _ _ b is (length-map m.tasks _)
known_after C at m accepted e id b comes is = is

pub ids_in_order : (C : SessionConfig) (H : List Numbered) → ArePermitted C H → (id : ℕ) → was_submitted id H ≡ nat_lt id (length (meanings C H).tasks)
ids_in_order C [] legal id = grind (arith, nat_tests)
ids_in_order C (n ∷ H) legal id =
    known_after C n.number (meanings C H) (accepted_in n.event (meanings C H)) n.event id (was_submitted id H) legal.0.comes (ids_in_order C H legal.1 id)

-- as many as requests came in
count_after : (C : SessionConfig) (at : ℕ) (m : Meanings) (accepted : Bool) (e : Event)
    → length (tasks_step C at accepted m.phase m.handler m.busy e m.tasks) ≡ bit (is_request e) + length m.tasks
count_after C at m accepted (Submit k request) = let more = length-append m.tasks (submitted_in m.phase at (command_of request) ∷ []) in omega (arith, more)
count_after C at m accepted (Issue k generation tag cmdsn) = none_more _ _ (count-at _ k m.tasks)
count_after C at m accepted (PduIn generation pdu) = none_more _ _ (count-if accepted _ m.tasks (count_heard C.tries at m.handler m.busy pdu.head pdu.payload m.tasks))
count_after C at m accepted (Lost generation cause) = none_more _ _ (count-from _ 0 m.tasks)
count_after C at m accepted (Tick reading) = none_more _ _ (count-if (is_overdue C.replacement reading m.phase) _ m.tasks (length-map m.tasks _))
count_after C at m accepted (Abort k) = none_more _ _ (count-at _ k m.tasks)
count_after C at m accepted (Deliver count) = none_more _ _ (length-map m.tasks _)
count_after C at m accepted (Terminate cause) = none_more _ _ (length-map m.tasks _)
count_after C at m accepted e = none_more (length m.tasks) (length m.tasks) refl

pub requests_counted : (C : SessionConfig) (H : List Numbered) → length (meanings C H).tasks ≡ requests_in H
requests_counted C [] = refl
requests_counted C (n ∷ H) =
    count_after C n.number (meanings C H) (accepted_in n.event (meanings C H)) n.event ∙ ap (λ (k : ℕ). bit (is_request n.event) + k) (requests_counted C H)
