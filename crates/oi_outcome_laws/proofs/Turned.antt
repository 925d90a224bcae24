-- A submission that an entry makes done is decided by it.
use Rattle.std.proofs.Common.{◌≡◌, ◌+◌, ◌++◌, ◌==◌, ◌⊎◌, inl, inr, ℕ, suc, zero, Bool, true, false, List, [], ◌∷◌, map, ap, subst, sym, refl, arith, nat_eq, Option, Some, None, slice_get, if◌then◌else◌}
use Rattle.std.proofs.lemmas.Bool.Decides.{nat_tests}
use Rattle.std.specs.Option.{option_map_or}
use Rattle.oi_history.specs.Courses.{is_at_once, is_overdue}
use Rattle.oi_history.specs.Handling.{aim_of, sent_under}
use Rattle.oi_history.specs.Meanings.{Meanings, accepted_in}
use Rattle.oi_history.specs.Recovering.{carried_out, got_data, got_response, hit_by, hit_in, lost_by, map_from, moved_by, reset_by, tasks_heard, tasks_step}
use Rattle.oi_history.specs.Tags.{holder}
use Rattle.oi_history.specs.Tasks.{changed, data_reply, is_live_on, issued, scsi_reply, settled, told_task, tries_of, with_piece}
use Rattle.oi_history.specs.declared.config.SessionConfig.{SessionConfig}
use Rattle.oi_history.specs.declared.event.Event.{Event}
use Rattle.oi_history.specs.declared.event.Event.TheVariants.{Submit, PduIn, Deliver, Issue, Lost, Tick, Abort, Terminate}
use Rattle.oi_history.specs.declared.fate.Fate.{Fate}
use Rattle.oi_history.specs.declared.fate.Fate.TheVariants.{Waiting, Live, Done}
use Rattle.oi_history.specs.declared.fate.Outcome.{Outcome}
use Rattle.oi_history.specs.declared.fate.Outcome.TheVariants.{Answered, Host as ByHost}
use Rattle.oi_history.specs.declared.phase.Handler.{Handler}
use Rattle.oi_history.specs.declared.phase.Handler.TheVariants.{Aborting, ResettingLun, ResettingTarget}
use Rattle.oi_history.specs.declared.reply.ReplyData.{ReplyData}
use Rattle.oi_history.specs.declared.task.Task.{Task}
use Rattle.oi_outcome_laws.specs.Outcomes.{Befalls, Brings, CarriedOut, Gives, IsAnswer, IsAnswerOf, Stands, reply_hit}
use Rattle.oi_pdu.specs.declared.header.DataIn.{DataIn as DataInHeader}
use Rattle.oi_pdu.specs.declared.header.Header.{Header}
use Rattle.oi_pdu.specs.declared.header.Header.TheVariants.{ScsiResponse, DataIn, TaskResponse}
use Rattle.oi_pdu.specs.declared.header.ScsiResponse.{ScsiResponse as ResponseHeader}
use Rattle.oi_recovery.specs.Recovery.{recovery_table}
use Rattle.oi_recovery.specs.declared.hit.Hit.{Hit}
use Rattle.oi_recovery.specs.declared.hit.Hit.TheVariants.{AbortDone, ResetDone, Lost as ByLoss, ReplacementPast, Aborted, Ended}
use Rattle.oi_recovery.specs.declared.stand.Next.{Next}
use Rattle.oi_recovery.specs.declared.stand.Next.TheVariants.{Stay, Wait, Answer, Host}
use Rattle.oi_recovery.specs.declared.stand.Stand.{Stand}
use Rattle.oi_recovery.specs.declared.stand.Stand.TheVariants.{Waiting as StandsWaiting, Live as StandsLive}
use Rattle.oi_session_laws.specs.Stays.{fate_at}

-- an entry decides a submission by the table
pub record Row (C : SessionConfig) (m : Meanings) (e : Event) (id : ℕ) (t : Task) (outcome : Outcome) : Type 0 where
  pub stand : Stand
  pub stands : Stands t.fate stand
  pub hit : Hit
  pub befalls : Befalls C m e id t hit
  pub gives : Gives e t (recovery_table stand hit C.tries) outcome

-- where it is done behind an entry, it was so before, or the entry decides it
pub record Turns (C : SessionConfig) (m : Meanings) (e : Event) (id : ℕ) (t u : Task) : Type 0 where
  pub turned : (outcome : Outcome) (n : ℕ) → u.fate ≡ Done outcome n → (t.fate ≡ Done outcome n) ⊎ Row C m e id t outcome

-- each, by id from k on
abbrev pub AreTurned : SessionConfig → Meanings → Event → ℕ → List Task → List Task → Type 0
AreTurned C m e k [] [] = Unit {0}
AreTurned C m e k [] (u ∷ us) = ⊥
AreTurned C m e k (t ∷ ts) [] = ⊥
AreTurned C m e k (t ∷ ts) (u ∷ us) = Turns C m e k t u × AreTurned C m e (k + 1) ts us

-- lists

stays : (C : SessionConfig) (m : Meanings) (e : Event) (id : ℕ) (t : Task) → Turns C m e id t t
stays C m e id t = record { turned = λ outcome n is. inl is }

turned-stays : (C : SessionConfig) (m : Meanings) (e : Event) (k : ℕ) (ts : List Task) → AreTurned C m e k ts ts
turned-stays C m e k [] = tt
turned-stays C m e k (t ∷ ts) = (stays C m e k t, turned-stays C m e (k + 1) ts)

turned-map : (C : SessionConfig) (m : Meanings) (e : Event) (f : Task → Task) → ((id : ℕ) (t : Task) → Turns C m e id t (f t)) → (k : ℕ) (ts : List Task) → AreTurned C m e k ts (map f ts)
turned-map C m e f turns k [] = tt
turned-map C m e f turns k (t ∷ ts) = (turns k t, turned-map C m e f turns (k + 1) ts)

turned-from : (C : SessionConfig) (m : Meanings) (e : Event) (f : ℕ → Task → Task) → ((id : ℕ) (t : Task) → Turns C m e id t (f id t)) → (k : ℕ) (ts : List Task) → AreTurned C m e k ts (map_from k f ts)
turned-from C m e f turns k [] = tt
turned-from C m e f turns k (t ∷ ts) = (turns k t, turned-from C m e f turns (k + 1) ts)

turned-at : (C : SessionConfig) (m : Meanings) (e : Event) (f : Task → Task) (id : ℕ) → ((t : Task) → Turns C m e id t (f t)) → (k i : ℕ) → id ≡ k + i → (ts : List Task) → AreTurned C m e k ts (changed i f ts)
turned-at C m e f id turns k i same [] = tt
turned-at C m e f id turns k zero same (t ∷ ts) =
    let it : id ≡ k = omega (arith, same) in (subst (λ (n : ℕ). Turns C m e n t (f t)) it (turns t), turned-stays C m e (k + 1) ts)
turned-at C m e f id turns k (suc i) same (t ∷ ts) = (stays C m e k t, turned-at C m e f id turns (k + 1) i (omega (arith, same)) ts)

turned-if : (C : SessionConfig) (m : Meanings) (e : Event) (b : Bool) (k : ℕ) (ts us vs : List Task) → (b ≡ true → AreTurned C m e k ts us) → AreTurned C m e k ts vs
    → AreTurned C m e k ts (if b then us else vs)
turned-if C m e true k ts us vs p q = p refl
turned-if C m e false k ts us vs p q = q

turns_if : (C : SessionConfig) (m : Meanings) (e : Event) (b : Bool) (id : ℕ) (t u v : Task) → (b ≡ true → Turns C m e id t u) → Turns C m e id t v → Turns C m e id t (if b then u else v)
turns_if C m e true id t u v p q = p refl
turns_if C m e false id t u v p q = q

-- what befalls a submission

row_of : (C : SessionConfig) (m : Meanings) (e : Event) (id : ℕ) (t : Task) (outcome : Outcome) (stand : Stand) (hit : Hit) (next : Next)
    → Stands t.fate stand → Befalls C m e id t hit → recovery_table stand hit C.tries ≡ next → Gives e t next outcome → Row C m e id t outcome
row_of C m e id t outcome stand hit next stands befalls is gives = record {
  stand = stand;
  stands = stands;
  hit = hit;
  befalls = befalls;
  gives = subst (λ (n : Next). Gives e t n outcome) (sym is) gives;
}

-- the outcome of a fate that is done
same_outcome : (a b : Outcome) (i j : ℕ) → Done a i ≡ Done b j → b ≡ a
same_outcome a b i j is = cc

turns_by : (C : SessionConfig) (m : Meanings) (e : Event) (at id : ℕ) (t : Task) (stand : Stand) (hit : Hit) (next : Next)
    → Stands t.fate stand → Befalls C m e id t hit → recovery_table stand hit C.tries ≡ next → Turns C m e id t (moved_by at t next)
turns_by C m e at id t stand hit (Wait tries) stands befalls is = record { turned = λ outcome n done. absurd cc }
turns_by C m e at id t stand hit (Host code) stands befalls is = record {
  turned = λ outcome n done. inr (row_of C m e id t outcome stand hit (Host code) stands befalls is (same_outcome (ByHost code) outcome at n done));
}
turns_by C m e at id t stand hit Stay stands befalls is = stays C m e id t
turns_by C m e at id t stand hit Answer stands befalls is = stays C m e id t

hit_turns : (C : SessionConfig) (m : Meanings) (e : Event) (at id : ℕ) (hit : Hit) (t : Task) (f : Fate) → t.fate ≡ f → Befalls C m e id t hit → Turns C m e id t (hit_in C.tries at hit t f)
hit_turns C m e at id hit t (Waiting tries) is befalls =
    turns_by C m e at id t (StandsWaiting tries) hit _ (subst (λ (f : Fate). Stands f (StandsWaiting tries)) (sym is) refl) befalls refl
hit_turns C m e at id hit t (Live generation tag tries) is befalls =
    turns_by C m e at id t (StandsLive tries) hit _ (subst (λ (f : Fate). Stands f (StandsLive tries)) (sym is) refl) befalls refl
hit_turns C m e at id hit t (Done outcome n) is befalls = stays C m e id t

turns_hit : (C : SessionConfig) (m : Meanings) (e : Event) (at id : ℕ) (hit : Hit) (t : Task) → Befalls C m e id t hit → Turns C m e id t (hit_by C.tries at hit t)
turns_hit C m e at id hit t befalls = hit_turns C m e at id hit t t.fate refl befalls

-- a reply

live_stands : (tag : ℕ) (f : Fate) → is_live_on tag f ≡ true → Stands f (StandsLive (tries_of f))
live_stands tag (Waiting tries) live = absurd cc
live_stands tag (Live generation t tries) live = refl
live_stands tag (Done outcome at) live = absurd cc

-- `v` is the submission with all data of the try
turns_settled : (C : SessionConfig) (m : Meanings) (e : Event) (at id : ℕ) (t v : Task) (r : ReplyData) (stand : Stand) (hit : Hit) (next : Next)
    → v.fate ≡ t.fate → Stands t.fate stand → Befalls C m e id t hit → recovery_table stand hit C.tries ≡ next
    → IsAnswer e t (Answered r.status r.residual r.sense v.got) → Turns C m e id t (settled at r v next)
turns_settled C m e at id t v r stand hit Stay same stands befalls is answer = record { turned = λ outcome n done. inl (subst (λ (f : Fate). f ≡ Done outcome n) same done) }
turns_settled C m e at id t v r stand hit (Wait tries) same stands befalls is answer = record { turned = λ outcome n done. absurd cc }
turns_settled C m e at id t v r stand hit Answer same stands befalls is answer = record {
  turned = λ outcome n done.
      inr (row_of C m e id t outcome stand hit Answer stands befalls is
      (subst (λ (o : Outcome). IsAnswer e t o) (sym (same_outcome (Answered r.status r.residual r.sense v.got) outcome at n done)) answer));
}
turns_settled C m e at id t v r stand hit (Host code) same stands befalls is answer = record {
  turned = λ outcome n done. inr (row_of C m e id t outcome stand hit (Host code) stands befalls is (same_outcome (ByHost code) outcome at n done));
}

turns_response : (C : SessionConfig) (m : Meanings) (e : Event) (at id : ℕ) (h : ResponseHeader) (payload : List ℕ)
    → ((t : Task) (hit : Hit) → Brings m (ScsiResponse h) payload id t hit → Befalls C m e id t hit) → ((t : Task) (outcome : Outcome) → IsAnswerOf (ScsiResponse h) payload t outcome → IsAnswer e t outcome)
    → holder h.tag.0 m.busy ≡ Some id → (t : Task) → Turns C m e id t (got_response C.tries at (aim_of m.handler id t) h payload t)
turns_response C m e at id h payload brought answers holds t =
    turns_if C m e (is_live_on h.tag.0 t.fate) id t _ t
    (λ live.
    turns_settled C m e at id t t (scsi_reply h payload) (StandsLive (tries_of t.fate)) (reply_hit m id t t.got (scsi_reply h payload)) _ refl (live_stands h.tag.0 t.fate live)
    (brought t _ ((holds, live), refl)) refl (answers t _ refl))
    (stays C m e id t)

-- data alone leave where it stands
with_data : (C : SessionConfig) (m : Meanings) (e : Event) (id : ℕ) (payload : List ℕ) (t : Task) → Turns C m e id t (with_piece payload t)
with_data C m e id payload t = record { turned = λ outcome n is. inl is }

turns_data : (C : SessionConfig) (m : Meanings) (e : Event) (at id : ℕ) (h : DataInHeader) (payload : List ℕ)
    → ((t : Task) (hit : Hit) → Brings m (DataIn h) payload id t hit → Befalls C m e id t hit) → ((t : Task) (outcome : Outcome) → IsAnswerOf (DataIn h) payload t outcome → IsAnswer e t outcome)
    → holder h.tag.0 m.busy ≡ Some id → (t : Task) → Turns C m e id t (got_data C.tries at (aim_of m.handler id t) h payload t)
turns_data C m e at id h payload brought answers holds t =
    turns_if C m e (is_live_on h.tag.0 t.fate) id t _ t
    (λ live. turns_if C m e h.ends id t _ (with_piece payload t)
    (λ ends.
    turns_settled C m e at id t (with_piece payload t) (data_reply h) (StandsLive (tries_of t.fate)) (reply_hit m id t (t.got ++ payload) (data_reply h)) _ refl (live_stands h.tag.0 t.fate live)
    (brought t _ ((holds, live), ends, refl)) refl (answers t _ refl))
    (with_data C m e id payload t))
    (stays C m e id t)

-- the submission in use of a tag
turned-under : (C : SessionConfig) (m : Meanings) (e : Event) (f : ℕ → Task → Task) (o : Option ℕ) → ((id : ℕ) → o ≡ Some id → (t : Task) → Turns C m e id t (f id t)) → (ts : List Task)
    → AreTurned C m e 0 ts (option_map_or (λ id. changed id (f id) ts) o ts)
turned-under C m e f None turns ts = turned-stays C m e 0 ts
turned-under C m e f (Some id) turns ts = turned-at C m e (f id) id (turns id refl) 0 id (omega arith) ts

-- the error handler's request

equal_from : (a b : ℕ) → nat_eq a b ≡ true → a ≡ b
equal_from a b is = grind (arith, nat_tests, is)

turned_carried : (C : SessionConfig) (m : Meanings) (e : Event) (at : ℕ) (handler : Handler) → ((id : ℕ) (t : Task) (hit : Hit) → CarriedOut handler id t hit → Befalls C m e id t hit) → (ts : List Task)
    → AreTurned C m e 0 ts (carried_out C.tries at handler ts)
turned_carried C m e at (Aborting id tag since) brought ts =
    turned-at C m e _ id (λ t. turns_hit C m e at id AbortDone t (brought id t AbortDone (refl, refl))) 0 id (omega arith) ts
turned_carried C m e at (ResettingLun lun tag since) brought ts =
    turned-map C m e (reset_by C.tries at lun)
    (λ id t. turns_if C m e (t.command.lun == lun) id t _ t (λ is. turns_hit C m e at id ResetDone t (brought id t ResetDone (equal_from t.command.lun lun is, refl))) (stays C m e id t)) 0 ts
turned_carried C m e at (ResettingTarget tag since) brought ts = turned-map C m e _ (λ id t. turns_hit C m e at id ResetDone t (brought id t ResetDone refl)) 0 ts
turned_carried C m e at handler brought ts = turned-stays C m e 0 ts

turned_heard : (C : SessionConfig) (m : Meanings) (e : Event) (at : ℕ) (head : Header) (payload : List ℕ)
    → ((id : ℕ) (t : Task) (hit : Hit) → Brings m head payload id t hit → Befalls C m e id t hit) → ((t : Task) (outcome : Outcome) → IsAnswerOf head payload t outcome → IsAnswer e t outcome)
    → (ts : List Task) → AreTurned C m e 0 ts (tasks_heard C.tries at m.handler m.busy head payload ts)
turned_heard C m e at (DataIn h) payload brought answers ts =
    turned-under C m e (λ k t. got_data C.tries at (aim_of m.handler k t) h payload t) (holder h.tag.0 m.busy) (λ id holds t. turns_data C m e at id h payload (brought id) answers holds t) ts
turned_heard C m e at (ScsiResponse h) payload brought answers ts =
    turned-under C m e (λ k t. got_response C.tries at (aim_of m.handler k t) h payload t) (holder h.tag.0 m.busy) (λ id holds t. turns_response C m e at id h payload (brought id) answers holds t) ts
turned_heard C m e at (TaskResponse h) payload brought answers ts =
    turned-if C m e (sent_under h.tag.0 m.handler) 0 ts _ ts
    (λ sent. turned-if C m e (h.response == 0) 0 ts _ ts
    (λ zero_is. turned_carried C m e at m.handler (λ id t hit out. brought id t hit (sent, equal_from h.response 0 zero_is, out)) ts)
    (turned-stays C m e 0 ts))
    (turned-stays C m e 0 ts)
turned_heard C m e at head payload brought answers ts = turned-stays C m e 0 ts

-- each entry but one that brings a submission in

turns_issued : (C : SessionConfig) (m : Meanings) (e : Event) (id generation : ℕ) (tag : _) (t : Task) → Turns C m e id t (issued generation tag t)
turns_issued C m e id generation tag t = record { turned = λ outcome n is. absurd cc }

turns_told : (C : SessionConfig) (m : Meanings) (e : Event) (id : ℕ) (t : Task) → Turns C m e id t (told_task t)
turns_told C m e id t = record { turned = λ outcome n is. inl is }

abbrev pub comes_in : Event → Bool
comes_in (Submit id request) = true
comes_in e = false

pub turned_after : (C : SessionConfig) (at : ℕ) (m : Meanings) (e : Event) → comes_in e ≡ false
    → AreTurned C m e 0 m.tasks (tasks_step C at (accepted_in e m) m.phase m.handler m.busy e m.tasks)
turned_after C at m (Submit id request) old = absurd cc
turned_after C at m (Issue id generation tag cmdsn) old = turned-at C m _ _ id (turns_issued C m _ id generation tag) 0 id (omega arith) m.tasks
turned_after C at m (PduIn generation pdu) old =
    turned-if C m _ (accepted_in (PduIn generation pdu) m) 0 m.tasks _ m.tasks
    (λ accepted. turned_heard C m (PduIn generation pdu) at pdu.head pdu.payload (λ id t hit brings. (accepted, brings)) (λ t outcome is. is) m.tasks)
    (turned-stays C m _ 0 m.tasks)
turned_after C at m (Lost generation cause) old =
    turned-from C m _ (lost_by C.tries at m.handler (is_at_once C.replacement) C.count_disrupted)
    (λ id t. turns_hit C m (Lost generation cause) at id (ByLoss (aim_of m.handler id t) (is_at_once C.replacement) C.count_disrupted) t refl) 0 m.tasks
turned_after C at m (Tick reading) old =
    turned-if C m _ (is_overdue C.replacement reading m.phase) 0 m.tasks _ m.tasks
    (λ over. turned-map C m _ _ (λ id t. turns_hit C m (Tick reading) at id ReplacementPast t (over, refl)) 0 m.tasks)
    (turned-stays C m _ 0 m.tasks)
turned_after C at m (Abort id) old = turned-at C m _ _ id (λ t. turns_hit C m (Abort id) at id Aborted t (refl, refl)) 0 id (omega arith) m.tasks
turned_after C at m (Deliver count) old = turned-map C m _ told_task (turns_told C m _) 0 m.tasks
turned_after C at m (Terminate cause) old = turned-map C m _ _ (λ id t. turns_hit C m (Terminate cause) at id Ended t refl) 0 m.tasks
turned_after C at m e old = turned-stays C m e 0 m.tasks

-- one of them
pub found : (C : SessionConfig) (m : Meanings) (e : Event) (k i id : ℕ) → id ≡ k + i → (ts us : List Task) → AreTurned C m e k ts us → (outcome : Outcome) (n : ℕ) → fate_at i us ≡ Some (Done outcome n)
    → (fate_at i ts ≡ Some (Done outcome n)) ⊎ ((t : Task) × (slice_get ts i ≡ Some t) × Row C m e id t outcome)
found C m e k i id same [] [] turned outcome n is = absurd cc
found C m e k i id same [] (u ∷ us) turned outcome n is = absurd turned
found C m e k i id same (t ∷ ts) [] turned outcome n is = absurd turned
found C m e k zero id same (t ∷ ts) (u ∷ us) turned outcome n is = found_here (turned.0.turned outcome n (let it : u.fate ≡ Done outcome n = cc in it))
  where
    found_here : (t.fate ≡ Done outcome n) ⊎ Row C m e k t outcome → (fate_at zero (t ∷ ts) ≡ Some (Done outcome n)) ⊎ ((x : Task) × (slice_get (t ∷ ts) zero ≡ Some x) × Row C m e id x outcome)
    found_here (inl was) = inl (ap (λ (f : Fate). Some f) was)
    found_here (inr row) = let it : k ≡ id = omega (arith, same) in inr (t, refl, subst (λ (i : ℕ). Row C m e i t outcome) it row)
found C m e k (suc i) id same (t ∷ ts) (u ∷ us) turned outcome n is = found C m e (k + 1) i id (omega (arith, same)) ts us turned.1 outcome n is
