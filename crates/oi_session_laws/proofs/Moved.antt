-- What an entry makes of each submission.
use Rattle.std.proofs.Common.{◌≡◌, ◌≤◌, ◌<◌, ◌+◌, ◌-◌, ◌==◌, ◌&&◌, ℕ, suc, zero, Bool, true, false, not, List, [], ◌∷◌, ◌++◌, length, map, ap, subst, sym, refl, arith, nat_lt, get_or, Option, Some, None, slice_get, if◌then◌else◌}
use Rattle.std.proofs.lemmas.Bool.Decides.{nat_tests}
use Rattle.std.proofs.lemmas.List.Quantifiers.{position-Some}
use Rattle.std.proofs.lemmas.Option.{get_or_from_slice_get, slice_get-get_or}
use Rattle.std.specs.Option.{option_map_or}
use Rattle.oi_history.specs.Commands.{command_of}
use Rattle.oi_history.specs.Courses.{is_at_once, is_fail_fast, is_overdue}
use Rattle.oi_history.specs.Handling.{aim_of, sent_under}
use Rattle.oi_history.specs.Meanings.{Meanings}
use Rattle.oi_history.specs.Owing.{live_on_lun, sendable}
use Rattle.oi_history.specs.Permitted.{IsNextCommand}
use Rattle.oi_history.specs.Recovering.{answered_by, carried_out, failed, got_data, got_response, hit_by, hit_in, map_from, moved_by, reset_by, tasks_heard, tasks_step, waits_again}
use Rattle.oi_history.specs.Tags.{holder}
use Rattle.oi_history.specs.Tasks.{changed, data_reply, fresh_task, is_done, is_live_on, is_waiting, issued, scsi_reply, settled, told_task, tries_of, with_piece}
use Rattle.oi_history.specs.declared.allocated.Allocated.{Allocated}
use Rattle.oi_history.specs.declared.command.Command.{Command}
use Rattle.oi_history.specs.Standing.{HasTries}
use Rattle.oi_history.specs.declared.config.SessionConfig.{SessionConfig}
use Rattle.oi_history.specs.declared.event.Event.{Event}
use Rattle.oi_history.specs.declared.event.Event.TheVariants.{Submit, PduIn, Deliver, Issue, Lost, Tick, Abort, Terminate}
use Rattle.oi_history.specs.declared.fate.Fate.{Fate}
use Rattle.oi_history.specs.declared.fate.Fate.TheVariants.{Waiting, Live, Done}
use Rattle.oi_history.specs.declared.fate.Outcome.{Outcome}
use Rattle.oi_history.specs.declared.phase.Handler.{Handler}
use Rattle.oi_history.specs.declared.phase.Handler.TheVariants.{Aborting, ResettingLun, ResettingTarget}
use Rattle.oi_history.specs.declared.reply.ReplyData.{ReplyData}
use Rattle.oi_history.specs.declared.task.Task.{Task}
use Rattle.oi_pdu.specs.declared.header.DataIn.{DataIn as DataInHeader}
use Rattle.oi_pdu.specs.declared.header.Header.{Header}
use Rattle.oi_pdu.specs.declared.header.Header.TheVariants.{ScsiResponse, DataIn, TaskResponse}
use Rattle.oi_pdu.specs.declared.header.ScsiResponse.{ScsiResponse as ResponseHeader}
use Rattle.oi_recovery.specs.Recovery.{is_busy, is_free, lost, missing, recovery_table, replied, waits_on}
use Rattle.oi_recovery.specs.declared.hit.Aim.{Aim}
use Rattle.oi_recovery.specs.declared.hit.Aim.TheVariants.{Free, Abort as ByAbort, Reset as ByReset}
use Rattle.oi_recovery.specs.declared.hit.Hit.{Hit}
use Rattle.oi_recovery.specs.declared.hit.Hit.TheVariants.{Reply, AbortDone, ResetDone, Lost as ByLoss, ReplacementPast, Aborted, Ended}
use Rattle.oi_recovery.specs.declared.hit.Residual.{Residual}
use Rattle.oi_recovery.specs.declared.host_code.HostCode.{HostCode}
use Rattle.oi_recovery.specs.declared.host_code.HostCode.TheVariants.{BadTarget, Disrupted, Error, FailFast as FailsFast}
use Rattle.oi_recovery.specs.declared.stand.Next.{Next}
use Rattle.oi_recovery.specs.declared.stand.Next.TheVariants.{Stay, Wait, Answer, Host}
use Rattle.oi_recovery.specs.declared.stand.Stand.TheVariants.{Waiting as StandsWaiting, Live as StandsLive}

-- an entry hands out what is done; an entry takes the tag
abbrev pub hands_out : Event → Bool
hands_out (Deliver count) = true
hands_out e = false

abbrev pub takes : ℕ → Event → Bool
takes n (Issue id generation tag cmdsn) = tag.0 == n
takes n e = false

-- one that is live is so on this connection; a command is sent on it
abbrev pub IsLiveOn : ℕ → Fate → Type 0
IsLiveOn last (Live generation tag tries) = generation ≡ last
IsLiveOn last f = Unit {0}

abbrev pub IsIssuedOn : ℕ → Event → Type 0
IsIssuedOn last (Issue id generation tag cmdsn) = generation ≡ last
IsIssuedOn last e = Unit {0}

-- one submission before an entry and behind it: what is done stays, only a command makes it live, and its tries are counted
pub record Moves (e : Event) (a : ℕ) (t u : Task) : Type 0 where
  pub done : (outcome : Outcome) (at : ℕ) → t.fate ≡ Done outcome at → u.fate ≡ Done outcome at
  pub told : hands_out e ≡ false → u.told ≡ t.told
  pub over : (tag : ℕ) → takes tag e ≡ false → is_live_on tag t.fate ≡ false → is_live_on tag u.fate ≡ false
  pub tries : 1 ≤ a → HasTries a t.fate → HasTries a u.fate
  pub last : (generation : ℕ) → IsIssuedOn generation e → IsLiveOn generation t.fate → IsLiveOn generation u.fate

-- one that came in with the entry
pub record IsNew (a : ℕ) (u : Task) : Type 0 where
  pub told : u.told ≡ false
  pub over : (tag : ℕ) → is_live_on tag u.fate ≡ false
  pub tries : 1 ≤ a → HasTries a u.fate
  pub last : (generation : ℕ) → IsLiveOn generation u.fate

abbrev pub AreNew : ℕ → List Task → Type 0
AreNew a [] = Unit {0}
AreNew a (u ∷ us) = IsNew a u × AreNew a us

abbrev pub AreMoved : Event → ℕ → List Task → List Task → Type 0
AreMoved e a [] us = AreNew a us
AreMoved e a (t ∷ ts) [] = ⊥
AreMoved e a (t ∷ ts) (u ∷ us) = Moves e a t u × AreMoved e a ts us

-- lists

stays : (e : Event) (a : ℕ) (t : Task) → Moves e a t t
stays e a t = record { done = λ outcome at is. is; told = λ quiet. refl; over = λ tag other is. is; tries = λ one has. has; last = λ generation sent on. on }

pub moved-stays : (e : Event) (a : ℕ) (ts : List Task) → AreMoved e a ts ts
moved-stays e a [] = tt
moved-stays e a (t ∷ ts) = (stays e a t, moved-stays e a ts)

moved-append : (e : Event) (a : ℕ) (ts us : List Task) → AreNew a us → AreMoved e a ts (ts ++ us)
moved-append e a [] us new = new
moved-append e a (t ∷ ts) us new = (stays e a t, moved-append e a ts us new)

moved-map : (e : Event) (a : ℕ) (f : Task → Task) → ((t : Task) → Moves e a t (f t)) → (ts : List Task) → AreMoved e a ts (map f ts)
moved-map e a f moves [] = tt
moved-map e a f moves (t ∷ ts) = (moves t, moved-map e a f moves ts)

moved-from : (e : Event) (a : ℕ) (f : ℕ → Task → Task) → ((k : ℕ) (t : Task) → Moves e a t (f k t)) → (k : ℕ) (ts : List Task) → AreMoved e a ts (map_from k f ts)
moved-from e a f moves k [] = tt
moved-from e a f moves k (t ∷ ts) = (moves k t, moved-from e a f moves (k + 1) ts)

moved-at : (e : Event) (a : ℕ) (f : Task → Task) (id : ℕ) (ts : List Task) → ((t : Task) → slice_get ts id ≡ Some t → Moves e a t (f t)) → AreMoved e a ts (changed id f ts)
moved-at e a f id [] moves = tt
moved-at e a f zero (t ∷ ts) moves = (moves t refl, moved-stays e a ts)
moved-at e a f (suc id) (t ∷ ts) moves = (stays e a t, moved-at e a f id ts (λ x there. moves x there))

moved-under : (e : Event) (a : ℕ) (f : ℕ → Task → Task) → ((k : ℕ) (t : Task) → Moves e a t (f k t)) → (o : Option ℕ) (ts : List Task)
    → AreMoved e a ts (option_map_or (λ id. changed id (f id) ts) o ts)
moved-under e a f moves None ts = moved-stays e a ts
moved-under e a f moves (Some id) ts = moved-at e a (f id) id ts (λ t there. moves id t)

moved-if : (e : Event) (a : ℕ) (b : Bool) (ts us vs : List Task) → AreMoved e a ts us → AreMoved e a ts vs → AreMoved e a ts (if b then us else vs)
moved-if e a true ts us vs m n = m
moved-if e a false ts us vs m n = n

moves_if : (e : Event) (a : ℕ) (b : Bool) (t u v : Task) → (b ≡ true → Moves e a t u) → Moves e a t v → Moves e a t (if b then u else v)
moves_if e a true t u v m n = m refl
moves_if e a false t u v m n = n

-- rows of the recovery table: where a submission waits again, it has tries left

abbrev pub MayWait : ℕ → Fate → Next → Type 0
MayWait a f (Wait tries) = 1 ≤ a → HasTries a f → tries < a
MayWait a f n = Unit {0}

may_if : (a : ℕ) (f : Fate) (b : Bool) (m n : Next) → (b ≡ true → MayWait a f m) → MayWait a f n → MayWait a f (if b then m else n)
may_if a f true m n p q = p refl
may_if a f false m n p q = q

and_first : (b c : Bool) → (b && c) ≡ true → b ≡ true
and_first true c is = refl
and_first false c is = absurd cc

and_middle : (b c d : Bool) → (b && c && d) ≡ true → c ≡ true
and_middle true true d is = refl
and_middle true false d is = absurd cc
and_middle false c d is = absurd cc

pub lt_from_test : (a b : ℕ) → nat_lt a b ≡ true → a < b
lt_from_test a b is = grind (arith, nat_tests)

waiting_row : (a k : ℕ) (hit : Hit) → MayWait a (Waiting k) (recovery_table (StandsWaiting k) hit a)
waiting_row a k (Reply response status residual size placed reads aim) = tt
waiting_row a k AbortDone = tt
waiting_row a k ResetDone = tt
waiting_row a k (ByLoss aim at_once counted) = may_if a (Waiting k) at_once (Host FailsFast) Stay (λ is. tt) tt
waiting_row a k ReplacementPast = tt
waiting_row a k Aborted = tt
waiting_row a k Ended = tt

on_loss : (a : ℕ) (f : Fate) (at_once : Bool) (n : Next) → MayWait a f n → MayWait a f (waits_on at_once n)
on_loss a f at_once n p = may_if a f at_once (Host FailsFast) n (λ is. tt) p

lost_row : (a generation : ℕ) (tag : _) (k : ℕ) (aim : Aim) (at_once counted : Bool) → MayWait a (Live generation tag k) (lost aim at_once counted k a)
lost_row a generation tag k ByAbort at_once counted = tt
lost_row a generation tag k ByReset at_once counted = tt
lost_row a generation tag k Free at_once false = on_loss a (Live generation tag k) at_once (Wait (k - 1)) (λ one has. omega (arith, one, has))
lost_row a generation tag k Free at_once true =
    may_if a (Live generation tag k) (nat_lt k a) (waits_on at_once (Wait k)) (Host Disrupted)
    (λ is. on_loss a (Live generation tag k) at_once (Wait k) (λ one has. lt_from_test k a is)) tt

reply_row : (a generation : ℕ) (tag : _) (k response status : ℕ) (r : Residual) (size placed : ℕ) (reads : Bool) (aim : Aim)
    → MayWait a (Live generation tag k) (replied response status r size placed reads aim k a)
reply_row a generation tag k response status r size placed reads aim =
    may_if a (Live generation tag k) (not (response == 0)) (Host Error) _ (λ is. tt)
    (may_if a (Live generation tag k) (is_busy status && nat_lt k a && is_free aim) (Wait k) _
    (λ is one has. lt_from_test k a (and_middle (is_busy status) (nat_lt k a) (is_free aim) is))
    (may_if a (Live generation tag k) (nat_lt size (missing r)) (Host BadTarget) _ (λ is. tt)
    (may_if a (Live generation tag k) _ (Host Error) Answer (λ is. tt) tt)))

live_row : (a generation : ℕ) (tag : _) (k : ℕ) (hit : Hit) → MayWait a (Live generation tag k) (recovery_table (StandsLive k) hit a)
live_row a generation tag k (Reply response status residual size placed reads aim) = reply_row a generation tag k response status residual size placed reads aim
live_row a generation tag k AbortDone = tt
live_row a generation tag k ResetDone = tt
live_row a generation tag k (ByLoss aim at_once counted) = lost_row a generation tag k aim at_once counted
live_row a generation tag k ReplacementPast = tt
live_row a generation tag k Aborted = tt
live_row a generation tag k Ended = tt

-- one submission

not_done : (f : Fate) (outcome : Outcome) (at : ℕ) → is_done f ≡ false → f ≡ Done outcome at → ⊥
not_done f outcome at off is = let on : is_done f ≡ true = ap is_done is in absurd cc

fails : (e : Event) (a at : ℕ) (code : HostCode) (t : Task) → is_done t.fate ≡ false → Moves e a t (failed at code t)
fails e a at code t off = record {
  done = λ outcome n is. absurd (not_done t.fate outcome n off is);
  told = λ quiet. refl;
  over = λ tag other is. refl;
  tries = λ one has. tt;
  last = λ generation sent on. tt;
}

waits : (e : Event) (a tries : ℕ) (t : Task) → is_done t.fate ≡ false → (1 ≤ a → HasTries a t.fate → tries < a) → Moves e a t (waits_again tries t)
waits e a tries t off fewer = record {
  done = λ outcome n is. absurd (not_done t.fate outcome n off is);
  told = λ quiet. refl;
  over = λ tag other is. refl;
  tries = λ one has. fewer one has;
  last = λ generation sent on. tt;
}

moves_by : (e : Event) (a at : ℕ) (t : Task) (n : Next) → is_done t.fate ≡ false → MayWait a t.fate n → Moves e a t (moved_by at t n)
moves_by e a at t (Wait tries) off may = waits e a tries t off may
moves_by e a at t (Host code) off may = fails e a at code t off
moves_by e a at t Stay off may = stays e a t
moves_by e a at t Answer off may = stays e a t

hit_moves : (e : Event) (a at : ℕ) (hit : Hit) (t : Task) (f : Fate) → t.fate ≡ f → Moves e a t (hit_in a at hit t f)
hit_moves e a at hit t (Waiting tries) is =
    moves_by e a at t _ (ap is_done is) (subst (λ (f : Fate). MayWait a f (recovery_table (StandsWaiting tries) hit a)) (sym is) (waiting_row a tries hit))
hit_moves e a at hit t (Live generation tag tries) is =
    moves_by e a at t _ (ap is_done is) (subst (λ (f : Fate). MayWait a f (recovery_table (StandsLive tries) hit a)) (sym is) (live_row a generation tag tries hit))
hit_moves e a at hit t (Done outcome n) is = stays e a t

moves_hit : (e : Event) (a at : ℕ) (hit : Hit) (t : Task) → Moves e a t (hit_by a at hit t)
moves_hit e a at hit t = hit_moves e a at hit t t.fate refl

answers : (e : Event) (a at : ℕ) (r : ReplyData) (t : Task) (n : Next) → is_done t.fate ≡ false → MayWait a t.fate n → Moves e a t (settled at r t n)
answers e a at r t Stay off may = stays e a t
answers e a at r t (Wait tries) off may = waits e a tries t off may
answers e a at r t Answer off may = record {
  done = λ outcome n is. absurd (not_done t.fate outcome n off is);
  told = λ quiet. refl;
  over = λ tag other is. refl;
  tries = λ one has. tt;
  last = λ generation sent on. tt;
}
answers e a at r t (Host code) off may = fails e a at code t off

live_not_done : (tag : ℕ) (f : Fate) → is_live_on tag f ≡ true → is_done f ≡ false
live_not_done tag (Waiting tries) is = refl
live_not_done tag (Live generation t tries) is = refl
live_not_done tag (Done outcome at) is = absurd cc

live_may : (a tag : ℕ) (f : Fate) (hit : Hit) → is_live_on tag f ≡ true → MayWait a f (recovery_table (StandsLive (tries_of f)) hit a)
live_may a tag (Waiting tries) hit is = absurd cc
live_may a tag (Live generation t tries) hit is = live_row a generation t tries hit
live_may a tag (Done outcome at) hit is = absurd cc

moves_answered : (e : Event) (a at tag : ℕ) (aim : Aim) (r : ReplyData) (t : Task) → is_live_on tag t.fate ≡ true → Moves e a t (answered_by a at aim r t)
moves_answered e a at tag aim r t live = answers e a at r t _ (live_not_done tag t.fate live)
    (live_may a tag t.fate (Reply r.response r.status r.residual t.command.length (length t.got) t.command.reads aim) live)

-- a piece of data leaves where it stands
from_piece : (e : Event) (a : ℕ) (payload : List ℕ) (t u : Task) → Moves e a (with_piece payload t) u → Moves e a t u
from_piece e a payload t u m = record { done = m.done; told = m.told; over = m.over; tries = m.tries; last = m.last }

moves_data : (e : Event) (a at : ℕ) (aim : Aim) (h : DataInHeader) (payload : List ℕ) (t : Task) → Moves e a t (got_data a at aim h payload t)
moves_data e a at aim h payload t =
    moves_if e a (is_live_on h.tag.0 t.fate) t _ t
    (λ live. from_piece e a payload t _ (moves_if e a h.ends (with_piece payload t) _ (with_piece payload t)
    (λ ends. moves_answered e a at h.tag.0 aim (data_reply h) (with_piece payload t) live) (stays e a (with_piece payload t))))
    (stays e a t)

moves_response : (e : Event) (a at : ℕ) (aim : Aim) (h : ResponseHeader) (payload : List ℕ) (t : Task) → Moves e a t (got_response a at aim h payload t)
moves_response e a at aim h payload t =
    moves_if e a (is_live_on h.tag.0 t.fate) t _ t (λ live. moves_answered e a at h.tag.0 aim (scsi_reply h payload) t live) (stays e a t)

moves_reset : (e : Event) (a at lun : ℕ) (t : Task) → Moves e a t (reset_by a at lun t)
moves_reset e a at lun t = moves_if e a (t.command.lun == lun) t _ t (λ is. moves_hit e a at ResetDone t) (stays e a t)

moved_carried : (e : Event) (a at : ℕ) (handler : Handler) (ts : List Task) → AreMoved e a ts (carried_out a at handler ts)
moved_carried e a at (Aborting id tag since) ts = moved-at e a _ id ts (λ t there. moves_hit e a at AbortDone t)
moved_carried e a at (ResettingLun lun tag since) ts = moved-map e a _ (moves_reset e a at lun) ts
moved_carried e a at (ResettingTarget tag since) ts = moved-map e a _ (moves_hit e a at ResetDone) ts
moved_carried e a at handler ts = moved-stays e a ts

moved_heard : (e : Event) (a at : ℕ) (handler : Handler) (busy : List Allocated) (head : Header) (payload : List ℕ) (ts : List Task) → AreMoved e a ts (tasks_heard a at handler busy head payload ts)
moved_heard e a at handler busy (DataIn h) payload ts =
    moved-under e a (λ k t. got_data a at (aim_of handler k t) h payload t) (λ k t. moves_data e a at (aim_of handler k t) h payload t) (holder h.tag.0 busy) ts
moved_heard e a at handler busy (ScsiResponse h) payload ts =
    moved-under e a (λ k t. got_response a at (aim_of handler k t) h payload t) (λ k t. moves_response e a at (aim_of handler k t) h payload t) (holder h.tag.0 busy) ts
moved_heard e a at handler busy (TaskResponse h) payload ts =
    moved-if e a (sent_under h.tag.0 handler) ts _ ts (moved-if e a (h.response == 0) ts _ ts (moved_carried e a at handler ts) (moved-stays e a ts)) (moved-stays e a ts)
moved_heard e a at handler busy head payload ts = moved-stays e a ts

new_task : (a at : ℕ) (b : Bool) (c : Command) → IsNew a (if b then failed at FailsFast (fresh_task c) else fresh_task c)
new_task a at true c = record { told = refl; over = λ tag. refl; tries = λ one. tt; last = λ generation. tt }
new_task a at false c = record { told = refl; over = λ tag. refl; tries = λ one. omega (arith, one); last = λ generation. tt }

-- the submission whose command goes out waits

pub sendable_waits : (depth id : ℕ) (ts : List Task) (t : Task) → sendable depth ts ≡ Some id → slice_get ts id ≡ Some t → is_waiting t.fate ≡ true
sendable_waits depth id ts t is there =
    let found = position-Some (λ (x : Task). is_waiting x.fate && nat_lt (live_on_lun x.command.lun ts) depth) ts id t is in
    let both = subst (λ (x : Task). (is_waiting x.fate && nat_lt (live_on_lun x.command.lun ts) depth) ≡ true) (get_or_from_slice_get ts id t t there) found.1 in
    and_first (is_waiting t.fate) (nat_lt (live_on_lun t.command.lun ts) depth) both

-- and it is there
pub sendable_there : (depth id : ℕ) (ts : List Task) → sendable depth ts ≡ Some id → (t : Task) × (slice_get ts id ≡ Some t)
sendable_there depth id [] is = absurd cc
sendable_there depth id (t ∷ ts) is =
    let found = position-Some (λ (x : Task). is_waiting x.fate && nat_lt (live_on_lun x.command.lun (t ∷ ts)) depth) (t ∷ ts) id t is in
    (get_or (t ∷ ts) id t, slice_get-get_or (t ∷ ts) id t found.0)

waiting_not_done : (f : Fate) → is_waiting f ≡ true → is_done f ≡ false
waiting_not_done (Waiting tries) is = refl
waiting_not_done (Live generation tag tries) is = refl
waiting_not_done (Done outcome at) is = absurd cc

one_try_more : (a : ℕ) (f : Fate) → is_waiting f ≡ true → HasTries a f → tries_of f + 1 ≤ a
one_try_more a (Waiting tries) is has = omega (arith, has)
one_try_more a (Live generation tag tries) is has = absurd cc
one_try_more a (Done outcome at) is has = absurd cc

moves_issued : (a id generation : ℕ) (tag : _) (cmdsn : ℕ) (t : Task) → is_waiting t.fate ≡ true → Moves (Issue id generation tag cmdsn) a t (issued generation tag t)
moves_issued a id generation tag cmdsn t is = record {
  done = λ outcome n same. absurd (not_done t.fate outcome n (waiting_not_done t.fate is) same);
  told = λ quiet. refl;
  over = λ n other off. other;
  tries = λ one has. one_try_more a t.fate is has;
  last = λ g sent on. sent;
}

moves_told : (count a : ℕ) (t : Task) → Moves (Deliver count) a t (told_task t)
moves_told count a t = record { done = λ outcome at is. is; told = λ quiet. absurd cc; over = λ tag other is. is; tries = λ one has. has; last = λ generation sent on. on }

pub moved_after : (C : SessionConfig) (at : ℕ) (m : Meanings) (accepted : Bool) (e : Event) → IsNextCommand C m e
    → AreMoved e C.tries m.tasks (tasks_step C at accepted m.phase m.handler m.busy e m.tasks)
moved_after C at m accepted (Submit id request) next = moved-append _ C.tries m.tasks _ (new_task C.tries at (is_fail_fast m.phase) (command_of request), tt)
moved_after C at m accepted (Issue id generation tag cmdsn) next =
    moved-at _ C.tries _ id m.tasks (λ t there. moves_issued C.tries id generation tag cmdsn t (sendable_waits C.queue_depth id m.tasks t next.0 there))
moved_after C at m accepted (PduIn generation pdu) next =
    moved-if _ C.tries accepted m.tasks _ m.tasks (moved_heard _ C.tries at m.handler m.busy pdu.head pdu.payload m.tasks) (moved-stays _ C.tries m.tasks)
moved_after C at m accepted (Lost generation cause) next =
    moved-from _ C.tries _ (λ k t. moves_hit _ C.tries at (ByLoss (aim_of m.handler k t) (is_at_once C.replacement) C.count_disrupted) t) 0 m.tasks
moved_after C at m accepted (Tick reading) next =
    moved-if _ C.tries (is_overdue C.replacement reading m.phase) m.tasks _ m.tasks (moved-map _ C.tries _ (moves_hit _ C.tries at ReplacementPast) m.tasks) (moved-stays _ C.tries m.tasks)
moved_after C at m accepted (Abort id) next = moved-at _ C.tries _ id m.tasks (λ t there. moves_hit _ C.tries at Aborted t)
moved_after C at m accepted (Deliver count) next = moved-map _ C.tries _ (moves_told count C.tries) m.tasks
moved_after C at m accepted (Terminate cause) next = moved-map _ C.tries _ (moves_hit _ C.tries at Ended) m.tasks
moved_after C at m accepted e next = moved-stays e C.tries m.tasks
