-- A submission that is live has the data of its last try.
use Rattle.std.proofs.Common.{◌≡◌, ◌+◌, ◌++◌, ◌==◌, ◌⊎◌, inl, inr, ℕ, suc, zero, Bool, true, false, List, [], ◌∷◌, map, ap, subst, sym, refl, arith, nat_eq, Option, Some, None, slice_get, if◌then◌else◌}
use Rattle.std.proofs.lemmas.Bool.Decides.{nat_tests}
use Rattle.std.specs.Option.{option_map_or}
use Rattle.oi_history.specs.Commands.{command_of}
use Rattle.oi_history.specs.Courses.{is_at_once, is_fail_fast, is_overdue}
use Rattle.oi_history.specs.Handling.{aim_of, is_live, sent_under}
use Rattle.oi_history.specs.Meanings.{Meanings, accepted_in, meanings}
use Rattle.oi_history.specs.Permitted.{ArePermitted, IsNextCommand}
use Rattle.oi_history.specs.Recovering.{answered_by, carried_out, failed, got_data, got_response, hit_in, lost_by, map_from, moved_by, reset_by, submitted_in, tasks_heard, tasks_step}
use Rattle.oi_history.specs.Tags.{holder}
use Rattle.oi_history.specs.Tasks.{changed, data_reply, fresh_task, is_live_on, is_waiting, issued, scsi_reply, settled, told_task, with_piece}
use Rattle.oi_history.specs.declared.command.Command.{Command}
use Rattle.oi_history.specs.declared.config.SessionConfig.{SessionConfig}
use Rattle.oi_history.specs.declared.event.Event.{Event}
use Rattle.oi_history.specs.declared.event.Event.TheVariants.{Submit, PduIn, Deliver, Issue, Lost, Tick, Abort, Terminate}
use Rattle.oi_history.specs.declared.event.Numbered.{Numbered}
use Rattle.oi_history.specs.declared.fate.Fate.{Fate}
use Rattle.oi_history.specs.declared.fate.Fate.TheVariants.{Waiting, Live, Done}
use Rattle.oi_history.specs.declared.phase.Handler.{Handler}
use Rattle.oi_history.specs.declared.phase.Handler.TheVariants.{Aborting, ResettingLun, ResettingTarget}
use Rattle.oi_history.specs.declared.reply.ReplyData.{ReplyData}
use Rattle.oi_history.specs.declared.task.Task.{Task}
use Rattle.oi_outcome_laws.specs.Outcomes.{data_heard, data_of, data_step, goes_to}
use Rattle.oi_pdu.specs.declared.header.DataIn.{DataIn as DataInHeader}
use Rattle.oi_pdu.specs.declared.header.Header.{Header}
use Rattle.oi_pdu.specs.declared.header.Header.TheVariants.{ScsiResponse, DataIn, TaskResponse}
use Rattle.oi_pdu.specs.declared.header.ScsiResponse.{ScsiResponse as ResponseHeader}
use Rattle.oi_recovery.specs.Recovery.{recovery_table}
use Rattle.oi_recovery.specs.declared.hit.Hit.{Hit}
use Rattle.oi_recovery.specs.declared.hit.Hit.TheVariants.{AbortDone, ResetDone, Lost as ByLoss, ReplacementPast, Aborted, Ended}
use Rattle.oi_recovery.specs.declared.host_code.HostCode.TheVariants.{FailFast as FailsFast}
use Rattle.oi_recovery.specs.declared.stand.Next.{Next}
use Rattle.oi_recovery.specs.declared.stand.Next.TheVariants.{Stay, Wait, Answer, Host}
use Rattle.oi_recovery.specs.declared.stand.Stand.TheVariants.{Waiting as StandsWaiting, Live as StandsLive}
use Rattle.oi_session_laws.proofs.Moved.{sendable_waits}
use Rattle.oi_session_laws.specs.Stays.{fate_at}

-- one that waits has none, and one that is live has these
pub record HasData (bytes : List ℕ) (t : Task) : Type 0 where
  pub waiting : is_waiting t.fate ≡ true → t.got ≡ []
  pub live : is_live t.fate ≡ true → t.got ≡ bytes

-- what stands at one place of a list behind a change

at-append : (id : ℕ) (ts : List Task) (x u : Task) → slice_get (ts ++ x ∷ []) id ≡ Some u → (slice_get ts id ≡ Some u) ⊎ (u ≡ x)
at-append zero [] x u is = inr cc
at-append (suc id) [] x u is = absurd cc
at-append zero (t ∷ ts) x u is = inl is
at-append (suc id) (t ∷ ts) x u is = at-append id ts x u is

at-map : (f : Task → Task) (id : ℕ) (ts : List Task) (u : Task) → slice_get (map f ts) id ≡ Some u → (t : Task) × (slice_get ts id ≡ Some t) × (u ≡ f t)
at-map f id [] u is = absurd cc
at-map f zero (t ∷ ts) u is = (t, refl, cc)
at-map f (suc id) (t ∷ ts) u is = at-map f id ts u is

at-from : (f : ℕ → Task → Task) (k id : ℕ) (ts : List Task) (u : Task) → slice_get (map_from k f ts) id ≡ Some u → (n : ℕ) × (t : Task) × (slice_get ts id ≡ Some t) × (u ≡ f n t)
at-from f k id [] u is = absurd cc
at-from f k zero (t ∷ ts) u is = (k, t, refl, cc)
at-from f k (suc id) (t ∷ ts) u is = at-from f (k + 1) id ts u is

record AtChanged (f : Task → Task) (k id : ℕ) (ts : List Task) (u : Task) : Type 0 where
  task : Task
  there : slice_get ts id ≡ Some task
  is : ((k ≡ id) × (u ≡ f task)) ⊎ ((k ≡ id → ⊥) × (u ≡ task))

at-changed : (f : Task → Task) (k id : ℕ) (ts : List Task) (u : Task) → slice_get (changed k f ts) id ≡ Some u → AtChanged f k id ts u
at-changed f k id [] u is = absurd cc
at-changed f zero zero (t ∷ ts) u is = record { task = t; there = refl; is = inl (refl, cc) }
at-changed f zero (suc id) (t ∷ ts) u is = record { task = u; there = is; is = inr ((λ same. absurd (omega (arith, same))), refl) }
at-changed f (suc k) zero (t ∷ ts) u is = record { task = t; there = refl; is = inr ((λ same. absurd (omega (arith, same))), cc) }
at-changed f (suc k) (suc id) (t ∷ ts) u is = further (at-changed f k id ts u is)
  where
    shifted : (x : Task) → ((k ≡ id) × (u ≡ f x)) ⊎ ((k ≡ id → ⊥) × (u ≡ x)) → ((suc k ≡ suc id) × (u ≡ f x)) ⊎ ((suc k ≡ suc id → ⊥) × (u ≡ x))
    shifted x (inl p) = inl (ap suc p.0, p.1)
    shifted x (inr p) = inr ((λ same. p.0 (omega (arith, same))), p.1)

    further : AtChanged f k id ts u → AtChanged f (suc k) (suc id) (t ∷ ts) u
    further a = record { task = a.task; there = a.there; is = shifted a.task a.is }

fate-get : (id : ℕ) (ts : List Task) (t : Task) → slice_get ts id ≡ Some t → fate_at id ts ≡ Some t.fate
fate-get id [] t is = absurd cc
fate-get zero (x ∷ ts) t is = let same : x ≡ t = cc in ap (λ (y : Task). Some y.fate) same
fate-get (suc id) (x ∷ ts) t is = fate-get id ts t is

-- one submission

same_data : (bytes : List ℕ) (t u : Task) → u ≡ t → HasData bytes t → HasData bytes u
same_data bytes t u same has = subst (λ (x : Task). HasData bytes x) (sym same) has

fails_data : (bytes : List ℕ) (at : ℕ) (code : _) (t : Task) → HasData bytes (failed at code t)
fails_data bytes at code t = record { waiting = λ is. refl; live = λ is. absurd cc }

moved_data : (bytes : List ℕ) (at : ℕ) (t : Task) (n : Next) → HasData bytes t → HasData bytes (moved_by at t n)
moved_data bytes at t (Wait tries) has = record { waiting = λ is. refl; live = λ is. absurd cc }
moved_data bytes at t (Host code) has = fails_data bytes at code t
moved_data bytes at t Stay has = has
moved_data bytes at t Answer has = has

hit_data : (bytes : List ℕ) (a at : ℕ) (hit : Hit) (t : Task) (f : Fate) → HasData bytes t → HasData bytes (hit_in a at hit t f)
hit_data bytes a at hit t (Waiting tries) has = moved_data bytes at t (recovery_table (StandsWaiting tries) hit a) has
hit_data bytes a at hit t (Live generation tag tries) has = moved_data bytes at t (recovery_table (StandsLive tries) hit a) has
hit_data bytes a at hit t (Done outcome n) has = has

settled_data : (bytes : List ℕ) (at : ℕ) (r : ReplyData) (t : Task) (n : Next) → HasData bytes t → HasData bytes (settled at r t n)
settled_data bytes at r t Stay has = has
settled_data bytes at r t (Wait tries) has = record { waiting = λ is. refl; live = λ is. absurd cc }
settled_data bytes at r t Answer has = record { waiting = λ is. refl; live = λ is. absurd cc }
settled_data bytes at r t (Host code) has = record { waiting = λ is. refl; live = λ is. absurd cc }

if_data : (bytes : List ℕ) (b : Bool) (t u : Task) → HasData bytes t → HasData bytes u → HasData bytes (if b then t else u)
if_data bytes true t u p q = p
if_data bytes false t u p q = q

response_data : (bytes : List ℕ) (a at : ℕ) (aim : _) (h : ResponseHeader) (payload : List ℕ) (t : Task) → HasData bytes t → HasData bytes (got_response a at aim h payload t)
response_data bytes a at aim h payload t has = if_data bytes (is_live_on h.tag.0 t.fate) _ t (settled_data bytes at (scsi_reply h payload) t _ has) has

live_on_live : (tag : ℕ) (f : Fate) → is_live_on tag f ≡ true → is_live f ≡ true
live_on_live tag (Waiting tries) is = absurd cc
live_on_live tag (Live generation t tries) is = refl
live_on_live tag (Done outcome at) is = absurd cc

live_not_waiting : (f : Fate) → is_live f ≡ true → is_waiting f ≡ true → ⊥
live_not_waiting (Waiting tries) is waits = cc
live_not_waiting (Live generation t tries) is waits = cc
live_not_waiting (Done outcome at) is waits = cc

piece_data : (bytes payload : List ℕ) (t : Task) → is_live t.fate ≡ true → HasData bytes t → HasData (bytes ++ payload) (with_piece payload t)
piece_data bytes payload t live has = record {
  waiting = λ waits. absurd (live_not_waiting t.fate live waits);
  live = λ is. ap (λ (z : List ℕ). z ++ payload) (has.live live);
}

-- a Data-In under its tag
got_by : (bytes : List ℕ) (a at : ℕ) (aim : _) (h : DataInHeader) (payload : List ℕ) (t : Task) (b : Bool) → is_live_on h.tag.0 t.fate ≡ b → HasData bytes t
    → HasData (if b then bytes ++ payload else bytes) (if b then (if h.ends then answered_by a at aim (data_reply h) (with_piece payload t) else with_piece payload t) else t)
got_by bytes a at aim h payload t true is has =
    let piece = piece_data bytes payload t (live_on_live h.tag.0 t.fate is) has in
    if_data (bytes ++ payload) h.ends _ (with_piece payload t) (settled_data (bytes ++ payload) at (data_reply h) (with_piece payload t) _ piece) piece
got_by bytes a at aim h payload t false is has = has

other_test : (a b : ℕ) → (a ≡ b → ⊥) → nat_eq a b ≡ false
other_test a b differs = grind (arith, nat_tests, differs)

same_test : (a b : ℕ) → a ≡ b → nat_eq a b ≡ true
same_test a b same = grind (arith, nat_tests, same)

goes_here : (tag id k : ℕ) (o : Option Fate) (f : Fate) → o ≡ Some f → k ≡ id → goes_to tag id (Some k) o ≡ is_live_on tag f
goes_here tag id k o f is same = rw (is, same_test k id same) refl

goes_elsewhere : (tag id k : ℕ) (o : Option Fate) → (k ≡ id → ⊥) → goes_to tag id (Some k) o ≡ false
goes_elsewhere tag id k None other = refl
goes_elsewhere tag id k (Some f) other = rw (other_test k id other) refl

data_for : (a at id k : ℕ) (handler : Handler) (h : DataInHeader) (payload : List ℕ) (ts : List Task) (bytes : List ℕ) → ((t : Task) → slice_get ts id ≡ Some t → HasData bytes t)
    → (u : Task) → AtChanged (λ t. got_data a at (aim_of handler k t) h payload t) k id ts u → HasData (if goes_to h.tag.0 id (Some k) (fate_at id ts) then bytes ++ payload else bytes) u
data_for a at id k handler h payload ts bytes has u c = either c.is
  where
    either : ((k ≡ id) × (u ≡ got_data a at (aim_of handler k c.task) h payload c.task)) ⊎ ((k ≡ id → ⊥) × (u ≡ c.task)) → HasData (if goes_to h.tag.0 id (Some k) (fate_at id ts) then bytes ++ payload else bytes) u
    either (inl p) =
        rw (goes_here h.tag.0 id k (fate_at id ts) c.task.fate (fate-get id ts c.task c.there) p.0)
        (same_data (if is_live_on h.tag.0 c.task.fate then bytes ++ payload else bytes) (got_data a at (aim_of handler k c.task) h payload c.task) u p.1
        (got_by bytes a at (aim_of handler k c.task) h payload c.task (is_live_on h.tag.0 c.task.fate) refl (has c.task c.there)))
    either (inr p) = rw (goes_elsewhere h.tag.0 id k (fate_at id ts) p.0) (same_data bytes c.task u p.1 (has c.task c.there))

data_held : (a at id : ℕ) (handler : Handler) (o : Option ℕ) (h : DataInHeader) (payload : List ℕ) (ts : List Task) (bytes : List ℕ) → ((t : Task) → slice_get ts id ≡ Some t → HasData bytes t)
    → (u : Task) → slice_get (option_map_or (λ k. changed k (λ t. got_data a at (aim_of handler k t) h payload t) ts) o ts) id ≡ Some u
    → HasData (if goes_to h.tag.0 id o (fate_at id ts) then bytes ++ payload else bytes) u
data_held a at id handler None h payload ts bytes has u is = has u is
data_held a at id handler (Some k) h payload ts bytes has u is = data_for a at id k handler h payload ts bytes has u (at-changed _ k id ts u is)

-- a change that leaves the data of each
changed_data : (f : Task → Task) (k id : ℕ) (ts : List Task) (bytes : List ℕ) → ((t : Task) → HasData bytes t → HasData bytes (f t)) → ((t : Task) → slice_get ts id ≡ Some t → HasData bytes t)
    → (u : Task) → slice_get (changed k f ts) id ≡ Some u → HasData bytes u
changed_data f k id ts bytes keeps has u is = either (at-changed f k id ts u is)
  where
    either_by : (t : Task) → slice_get ts id ≡ Some t → ((k ≡ id) × (u ≡ f t)) ⊎ ((k ≡ id → ⊥) × (u ≡ t)) → HasData bytes u
    either_by t there (inl p) = same_data bytes (f t) u p.1 (keeps t (has t there))
    either_by t there (inr p) = same_data bytes t u p.1 (has t there)

    either : AtChanged f k id ts u → HasData bytes u
    either c = either_by c.task c.there c.is

mapped_data : (f : Task → Task) (id : ℕ) (ts : List Task) (bytes : List ℕ) → ((t : Task) → HasData bytes t → HasData bytes (f t)) → ((t : Task) → slice_get ts id ≡ Some t → HasData bytes t)
    → (u : Task) → slice_get (map f ts) id ≡ Some u → HasData bytes u
mapped_data f id ts bytes keeps has u is = let c = at-map f id ts u is in same_data bytes (f c.0) u c.2 (keeps c.0 (has c.0 c.1))

from_data : (f : ℕ → Task → Task) (id : ℕ) (ts : List Task) (bytes : List ℕ) → ((k : ℕ) (t : Task) → HasData bytes t → HasData bytes (f k t)) → ((t : Task) → slice_get ts id ≡ Some t → HasData bytes t)
    → (u : Task) → slice_get (map_from 0 f ts) id ≡ Some u → HasData bytes u
from_data f id ts bytes keeps has u is = let c = at-from f 0 id ts u is in same_data bytes (f c.0 c.1) u c.3 (keeps c.0 c.1 (has c.1 c.2))

under_data : (f : ℕ → Task → Task) (o : Option ℕ) (id : ℕ) (ts : List Task) (bytes : List ℕ) → ((k : ℕ) (t : Task) → HasData bytes t → HasData bytes (f k t)) → ((t : Task) → slice_get ts id ≡ Some t → HasData bytes t)
    → (u : Task) → slice_get (option_map_or (λ k. changed k (f k) ts) o ts) id ≡ Some u → HasData bytes u
under_data f None id ts bytes keeps has u is = has u is
under_data f (Some k) id ts bytes keeps has u is = changed_data (f k) k id ts bytes (keeps k) has u is

carried_data : (a at id : ℕ) (handler : Handler) (ts : List Task) (bytes : List ℕ) → ((t : Task) → slice_get ts id ≡ Some t → HasData bytes t)
    → (u : Task) → slice_get (carried_out a at handler ts) id ≡ Some u → HasData bytes u
carried_data a at id (Aborting k tag since) ts bytes has u is = changed_data _ k id ts bytes (λ t p. hit_data bytes a at AbortDone t t.fate p) has u is
carried_data a at id (ResettingLun lun tag since) ts bytes has u is =
    mapped_data (reset_by a at lun) id ts bytes (λ t p. if_data bytes (t.command.lun == lun) _ t (hit_data bytes a at ResetDone t t.fate p) p) has u is
carried_data a at id (ResettingTarget tag since) ts bytes has u is = mapped_data _ id ts bytes (λ t p. hit_data bytes a at ResetDone t t.fate p) has u is
carried_data a at id handler ts bytes has u is = has u is

choice_data : (b : Bool) (id : ℕ) (ts us : List Task) (bytes : List ℕ) → ((u : Task) → slice_get us id ≡ Some u → HasData bytes u) → ((u : Task) → slice_get ts id ≡ Some u → HasData bytes u)
    → (u : Task) → slice_get (if b then us else ts) id ≡ Some u → HasData bytes u
choice_data true id ts us bytes p q u is = p u is
choice_data false id ts us bytes p q u is = q u is

heard_data : (a at id : ℕ) (m : Meanings) (head : Header) (payload : List ℕ) (bytes : List ℕ) → ((t : Task) → slice_get m.tasks id ≡ Some t → HasData bytes t)
    → (u : Task) → slice_get (tasks_heard a at m.handler m.busy head payload m.tasks) id ≡ Some u → HasData (data_heard m head payload id bytes) u
heard_data a at id m (DataIn h) payload bytes has u is = data_held a at id m.handler (holder h.tag.0 m.busy) h payload m.tasks bytes has u is
heard_data a at id m (ScsiResponse h) payload bytes has u is =
    under_data (λ k t. got_response a at (aim_of m.handler k t) h payload t) (holder h.tag.0 m.busy) id m.tasks bytes (λ k t p. response_data bytes a at (aim_of m.handler k t) h payload t p) has u is
heard_data a at id m (TaskResponse h) payload bytes has u is =
    choice_data (sent_under h.tag.0 m.handler) id m.tasks _ bytes
    (λ v there. choice_data (h.response == 0) id m.tasks _ bytes (λ w at_it. carried_data a at id m.handler m.tasks bytes has w at_it) has v there) has u is
heard_data a at id m head payload bytes has u is = has u is

accepted_data : (b : Bool) (a at id : ℕ) (m : Meanings) (head : Header) (payload : List ℕ) (bytes : List ℕ) → ((t : Task) → slice_get m.tasks id ≡ Some t → HasData bytes t)
    → (u : Task) → slice_get (if b then tasks_heard a at m.handler m.busy head payload m.tasks else m.tasks) id ≡ Some u → HasData (if b then data_heard m head payload id bytes else bytes) u
accepted_data true a at id m head payload bytes has u is = heard_data a at id m head payload bytes has u is
accepted_data false a at id m head payload bytes has u is = has u is

-- one that comes in
new_data : (at : ℕ) (b : Bool) (c : Command) (bytes : List ℕ) → HasData bytes (if b then failed at FailsFast (fresh_task c) else fresh_task c)
new_data at true c bytes = fails_data bytes at FailsFast (fresh_task c)
new_data at false c bytes = record { waiting = λ is. refl; live = λ is. absurd cc }

submitted_data : (C : SessionConfig) (at id : ℕ) (m : Meanings) (c : Command) (bytes : List ℕ) → ((t : Task) → slice_get m.tasks id ≡ Some t → HasData bytes t)
    → (u : Task) → (slice_get m.tasks id ≡ Some u) ⊎ (u ≡ submitted_in m.phase at c) → HasData bytes u
submitted_data C at id m c bytes has u (inl was) = has u was
submitted_data C at id m c bytes has u (inr new) = same_data bytes (submitted_in m.phase at c) u new (new_data at (is_fail_fast m.phase) c bytes)

-- its command goes out: it waited, so it has none
issued_data : (C : SessionConfig) (m : Meanings) (k generation : ℕ) (tag : _) (cmdsn id : ℕ) (bytes : List ℕ) → IsNextCommand C m (Issue k generation tag cmdsn)
    → ((t : Task) → slice_get m.tasks id ≡ Some t → HasData bytes t) → (u : Task) → AtChanged (issued generation tag) k id m.tasks u → HasData (if k == id then [] else bytes) u
issued_data C m k generation tag cmdsn id bytes next has u c = either c.is
  where
    either : ((k ≡ id) × (u ≡ issued generation tag c.task)) ⊎ ((k ≡ id → ⊥) × (u ≡ c.task)) → HasData (if k == id then [] else bytes) u
    either (inl p) =
        let there : slice_get m.tasks k ≡ Some c.task = subst (λ (i : ℕ). slice_get m.tasks i ≡ Some c.task) (sym p.0) c.there in
        let waits = sendable_waits C.queue_depth k m.tasks c.task next.0 there in
        rw (same_test k id p.0)
        (same_data [] (issued generation tag c.task) u p.1 (record { waiting = λ is. absurd cc; live = λ is. (has c.task c.there).waiting waits }))
    either (inr p) = rw (other_test k id p.0) (same_data bytes c.task u p.1 (has c.task c.there))

step_data : (C : SessionConfig) (at id : ℕ) (m : Meanings) (e : Event) (bytes : List ℕ) → IsNextCommand C m e → ((t : Task) → slice_get m.tasks id ≡ Some t → HasData bytes t)
    → (u : Task) → slice_get (tasks_step C at (accepted_in e m) m.phase m.handler m.busy e m.tasks) id ≡ Some u → HasData (data_step m e id bytes) u
step_data C at id m (Submit k request) bytes next has u is = submitted_data C at id m (command_of request) bytes has u (at-append id m.tasks _ u is)
step_data C at id m (Issue k generation tag cmdsn) bytes next has u is = issued_data C m k generation tag cmdsn id bytes next has u (at-changed (issued generation tag) k id m.tasks u is)
step_data C at id m (PduIn generation pdu) bytes next has u is = accepted_data (accepted_in (PduIn generation pdu) m) C.tries at id m pdu.head pdu.payload bytes has u is
step_data C at id m (Lost generation cause) bytes next has u is =
    from_data (lost_by C.tries at m.handler (is_at_once C.replacement) C.count_disrupted) id m.tasks bytes (λ k t p. hit_data bytes C.tries at (ByLoss (aim_of m.handler k t) (is_at_once C.replacement) C.count_disrupted) t t.fate p) has u is
step_data C at id m (Tick reading) bytes next has u is =
    choice_data (is_overdue C.replacement reading m.phase) id m.tasks _ bytes (λ v there. mapped_data _ id m.tasks bytes (λ t p. hit_data bytes C.tries at ReplacementPast t t.fate p) has v there) has u is
step_data C at id m (Abort k) bytes next has u is = changed_data _ k id m.tasks bytes (λ t p. hit_data bytes C.tries at Aborted t t.fate p) has u is
step_data C at id m (Deliver count) bytes next has u is = mapped_data told_task id m.tasks bytes (λ t p. record { waiting = p.waiting; live = p.live }) has u is
step_data C at id m (Terminate cause) bytes next has u is = mapped_data _ id m.tasks bytes (λ t p. hit_data bytes C.tries at Ended t t.fate p) has u is
step_data C at id m e bytes next has u is = has u is

pub has_data : (C : SessionConfig) (H : List Numbered) → ArePermitted C H → (id : ℕ) (t : Task) → slice_get (meanings C H).tasks id ≡ Some t → HasData (data_of C id H) t
has_data C [] legal id t is = absurd cc
has_data C (n ∷ H) legal id t is = step_data C n.number id (meanings C H) n.event (data_of C id H) legal.0.command (has_data C H legal.1 id) t is
