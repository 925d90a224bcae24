-- What each call of the session does is a deed.
use Rattle.std.proofs.Common.{◌≡◌, ◌≢◌, inl, inr, ◌∙◌, ◌≤◌, ◌<◌, ◌+◌, ◌==◌, ℕ, suc, zero, Bool, true, false, not, ◌&&◌, List, [], ◌∷◌, ◌++◌, Option, Some, None, length, sym, ap, subst, refl, arith, append-nil, Result, Ok, Err, if◌then◌else◌, nat_lt, slice_get}
use Rattle.std.proofs.lemmas.Bool.Decides.{nat_tests}
use Rattle.oi_base.specs.Limits.{most_pending}
use Rattle.oi_base.specs.declared.login.LoginDone.{LoginDone}
use Rattle.oi_base.specs.declared.memory.NoMemory.{NoMemory}
use Rattle.oi_drive.proofs.Going.{does_fail, does_makes, does_nothing, does_spent, does_stop, does_then, part_makes, part_same}
use Rattle.oi_drive.specs.Acts.{Does, DoesSilently, IsPart, Turns, aborted, controlled, submitted, turn_line, turned}
use Rattle.oi_drive.specs.Deeds.{Deed, aborts, aborts_at, expires, fails, followed, hands_out, hands_out_by, heeds, leaves, live_on, logs_in, loses, makes, nothing, on_link, outcome_lines, refuses, resets, submits, takes, ticks, turn_text, turns}
use Rattle.oi_drive.specs.declared.answer.Answer.{Answer}
use Rattle.oi_drive.specs.declared.answer.Answer.TheVariants.{Done, Refused, Outside, Spent}
use Rattle.oi_history.specs.Handling.{is_idle, is_live, is_spent}
use Rattle.oi_history.specs.Losses.{is_cause, is_ping_late}
use Rattle.oi_history.specs.Phases.{has_connection, is_ended, is_logged_in}
use Rattle.oi_history.specs.Tasks.{due_in, is_done as is_over}
use Rattle.oi_history.specs.declared.event.Event.{Event}
use Rattle.oi_history.specs.declared.event.Event.TheVariants.{Submit, PduIn, Deliver, Lost, Tick, Abort, Leave}
use Rattle.oi_history.specs.declared.fate.Delivered.{Delivered}
use Rattle.oi_history.specs.declared.fate.Fate.{Fate}
use Rattle.oi_history.specs.declared.fate.Fate.TheVariants.{Waiting, Live, Done as DoneFate}
use Rattle.oi_history.specs.declared.phase.End.{End as Cause}
use Rattle.oi_history.specs.declared.phase.Handler.{Handler as Work}
use Rattle.oi_history.specs.declared.phase.Handler.TheVariants.{Idle}
use Rattle.oi_history.specs.declared.config.SessionConfig.{SessionConfig}
use Rattle.oi_history.specs.declared.phase.LostCause.{LostCause}
use Rattle.oi_history.specs.declared.phase.LostCause.TheVariants.{Ping, Handler}
use Rattle.oi_history.specs.declared.task.Task.{Task}
use Rattle.oi_pdu.specs.declared.codec.Pdu.{Pdu}
use Rattle.oi_script.specs.declared.notices.Refusal.TheVariants.{Busy, Ended, Full, NotLoggedIn, LoggedIn as LoggedInAlready, TooLate, Unknown}
use Rattle.oi_scsi.specs.declared.request.Request.{Request}
use Rattle.oi_solo.specs.Calls.{Aborts, CanAbort, Delivers, HandsOut, IsBusy, Leaves, LogsIn, Loses, Receives, Resets, Submits, Ticks, Transmits, login_of, reading_of, received_of, turn_of}
use Rattle.oi_solo.specs.Limits.{spent_by}
use Rattle.oi_solo.specs.Sessions.{Session, entered, now_of, owed_of, pending_of}
use Rattle.oi_solo.specs.declared.answers.AbortRefused.{AbortRefused}
use Rattle.oi_solo.specs.declared.answers.AbortRefused.TheVariants as abort
use Rattle.oi_solo.specs.declared.answers.ControlRefused.{ControlRefused}
use Rattle.oi_solo.specs.declared.answers.ControlRefused.TheVariants as control
use Rattle.oi_solo.specs.declared.answers.Receipt.{Receipt}
use Rattle.oi_solo.specs.declared.answers.SubmitRefused.{SubmitRefused}
use Rattle.oi_solo.specs.declared.answers.SubmitRefused.TheVariants as submit
use Rattle.oi_drive.specs.declared.answer.Turn.{Turn}
use Rattle.oi_drive.specs.declared.answer.Turn.TheVariants as turn
use Rattle.oi_script.specs.Notices.{lost_text}
use Rattle.oi_script.specs.Printed.{idle_text, login_text, tx_text}
use Rattle.oi_solo.specs.declared.answers.LoginRefused.TheVariants as login
use Rattle.oi_solo.specs.declared.answers.LostDone.TheVariants as lost
use Rattle.oi_solo.specs.declared.answers.StepRefused.{StepRefused}
use Rattle.oi_solo.specs.declared.answers.StepRefused.TheVariants as step
use Rattle.oi_solo.specs.declared.answers.Transmit.{Transmit}
use Rattle.oi_solo.specs.declared.answers.Transmit.TheVariants as transmit
use Rattle.oi_solo.specs.declared.answers.Received.{Received}
use Rattle.oi_solo.specs.declared.answers.Ticked.{Ticked}
use Rattle.oi_solo.specs.declared.load.Load.{Load}

less_test : (a b : ℕ) → a < b → nat_lt a b ≡ true
less_test a b h = grind (arith, nat_tests)

least_test : (a b : ℕ) → b ≤ a → nat_lt a b ≡ false
least_test a b h = grind (arith, nat_tests)

-- a choice by tests

pub choice_true : (P : Deed → Type 0) (b : Bool) (d e : Deed) → b ≡ true → P d → P (if b then d else e)
choice_true P true d e is p = p
choice_true P false d e is p = absurd cc

pub choice_false : (P : Deed → Type 0) (b : Bool) (d e : Deed) → b ≡ false → P e → P (if b then d else e)
choice_false P false d e is p = p
choice_false P true d e is p = absurd cc

-- a request

may_submit : (request : Request) (old new : Session) (a : Answer) → is_ended (now_of old).phase ≡ false → pending_of (now_of old) < most_pending
    → Does (makes old (Submit (length (now_of old).tasks) request ∷ []) []) old [] (Ok a) new [] → Does (submits request old) old [] (Ok a) new []
may_submit request old new a on few h =
    let made = makes old (Submit (length (now_of old).tasks) request ∷ []) [] in
    let rest : Deed = if nat_lt (pending_of (now_of old)) most_pending then made else refuses Full in
    choice_false (λ d. Does d old [] (Ok a) new []) (is_ended (now_of old).phase) (refuses Ended) rest on
    (choice_true (λ d. Does d old [] (Ok a) new []) (nat_lt (pending_of (now_of old)) most_pending) made (refuses Full) (less_test (pending_of (now_of old)) most_pending few) h)

submit_all : (request : Request) (old : Session) (r : Result Receipt SubmitRefused) (new : Session) → Submits old request r new → DoesSilently (submits request old) old (submitted r) new
submit_all request old (Ok receipt) new p =
    may_submit request old new Done p.0 p.1
    (does_makes (Submit (length (now_of old).tasks) request ∷ []) [] old new [] []
    (ap (λ id. spent_by old (Submit id request ∷ [])) (sym p.2) ∙ p.4.0) (p.4.1 ∙ ap (λ id. entered old (Submit id request)) p.2) refl)
submit_all request old (Err (submit.Ended cause)) new p =
    choice_true (λ d. Does d old [] (Ok (Refused Ended)) new []) (is_ended (now_of old).phase) (refuses Ended) _ (ap is_ended p.0) (does_fail (Refused Ended) old new [] p.1)
submit_all request old (Err (submit.Full waiting)) new p =
    let made = makes old (Submit (length (now_of old).tasks) request ∷ []) [] in
    let rest : Deed = if nat_lt (pending_of (now_of old)) most_pending then made else refuses Full in
    choice_false (λ d. Does d old [] (Ok (Refused Full)) new []) (is_ended (now_of old).phase) (refuses Ended) rest p.0
    (choice_false (λ d. Does d old [] (Ok (Refused Full)) new []) (nat_lt (pending_of (now_of old)) most_pending) made (refuses Full) (least_test (pending_of (now_of old)) most_pending p.1)
    (does_fail (Refused Full) old new [] p.3))
submit_all request old (Err (submit.Spent steps kept)) new p =
    may_submit request old new Spent p.0 p.1 (does_spent (Submit (length (now_of old).tasks) request ∷ []) [] old new [] (record { steps = steps; kept = kept }) p.2.0 p.2.1)
submit_all request old (Err submit.Memory) new p = part_same (submits request old).entries old new p

pub submit_does : (request : Request) (old : Session) (r : Result Receipt SubmitRefused) (s : Result Answer NoMemory) (new : Session) → Submits old request r new → s ≡ submitted r
    → DoesSilently (submits request old) old s new
submit_does request old r s new p is = subst (λ (x : Result Answer NoMemory). DoesSilently (submits request old) old x new) (sym is) (submit_all request old r new p)

-- the error handler at rest

idle_is : (w : Work) → w ≡ Idle → is_idle w ≡ true
idle_is w is = ap is_idle is

work_is : (w : Work) → w ≢ Idle → is_idle w ≡ false
work_is Idle off = absurd (off refl)
work_is w off = refl

-- an abort

busy_test : (b c : Bool) → b ≡ true → c ≡ false → (b && not c) ≡ true
busy_test true false p q = refl
busy_test true true p q = absurd cc
busy_test false c p q = absurd cc

free_test : (b c : Bool) → (b ≡ true → c ≡ true) → (b && not c) ≡ false
free_test true c p = ap not (p refl)
free_test false c p = refl

abort_open : (id : ℕ) (old new : Session) (t : Task) (a : Answer) → CanAbort (now_of old) t.fate → Does (makes old (Abort id ∷ []) []) old [] (Ok a) new [] → Does (aborts_at (Some t) id old) old [] (Ok a) new []
abort_open id old new t a can h =
    let rest : Deed = if is_live t.fate && not (is_idle (now_of old).handler) then refuses Busy else makes old (Abort id ∷ []) [] in
    choice_false (λ d. Does d old [] (Ok a) new []) (is_over t.fate) (refuses TooLate) rest can.0
    (choice_false (λ d. Does d old [] (Ok a) new []) (is_live t.fate && not (is_idle (now_of old).handler)) (refuses Busy) (makes old (Abort id ∷ []) [])
    (free_test (is_live t.fate) (is_idle (now_of old).handler) (λ live. idle_is (now_of old).handler (can.1 live))) h)

live_open : (f : Fate) → is_live f ≡ true → is_over f ≡ false
live_open (Waiting tries) is = refl
live_open (Live generation tag tries) is = refl
live_open (DoneFate outcome at) is = absurd cc

abort_busy : (id : ℕ) (old new : Session) (t : Task) → IsBusy (now_of old) t.fate → new ≡ old → Does (aborts_at (Some t) id old) old [] (Ok (Refused Busy)) new []
abort_busy id old new t busy is =
    let rest : Deed = if is_live t.fate && not (is_idle (now_of old).handler) then refuses Busy else makes old (Abort id ∷ []) [] in
    choice_false (λ d. Does d old [] (Ok (Refused Busy)) new []) (is_over t.fate) (refuses TooLate) rest (live_open t.fate busy.0)
    (choice_true (λ d. Does d old [] (Ok (Refused Busy)) new []) (is_live t.fate && not (is_idle (now_of old).handler)) (refuses Busy) (makes old (Abort id ∷ []) [])
    (busy_test (is_live t.fate) (is_idle (now_of old).handler) busy.0 (work_is (now_of old).handler busy.1)) (does_fail (Refused Busy) old new [] is))

at_task : (id : ℕ) (old new : Session) (o : Option Task) (r : Result Answer NoMemory) → slice_get (now_of old).tasks id ≡ o → Does (aborts_at o id old) old [] r new [] → DoesSilently (aborts id old) old r new
at_task id old new o r is h = subst (λ (x : Option Task). Does (aborts_at x id old) old [] r new []) (sym is) h

none_there : (ts : List Task) (id : ℕ) → length ts ≤ id → slice_get ts id ≡ None
none_there [] id h = refl
none_there (t ∷ ts) zero h = absurd (omega (arith, h))
none_there (t ∷ ts) (suc id) h = none_there ts id (omega (arith, h))

abort_all : (id : ℕ) (old : Session) (r : Result (Unit {0}) AbortRefused) (new : Session) → Aborts old id r new → DoesSilently (aborts id old) old (aborted r) new
abort_all id old (Ok u) new p =
    at_task id old new (Some p.0.0) (Ok Done) p.0.1 (abort_open id old new p.0.0 Done p.0.2 (does_makes (Abort id ∷ []) [] old new [] [] p.1.0 p.1.1 refl))
abort_all id old (Err (abort.Unknown count)) new p =
    at_task id old new None (Ok (Refused Unknown)) (none_there (now_of old).tasks id p.0) (does_fail (Refused Unknown) old new [] p.2)
abort_all id old (Err (abort.TooLate at)) new p =
    at_task id old new (Some p.0.0) (Ok (Refused TooLate)) p.0.1
    (choice_true (λ d. Does d old [] (Ok (Refused TooLate)) new []) (is_over p.0.0.fate) (refuses TooLate) _ p.0.2.0 (does_fail (Refused TooLate) old new [] p.1))
abort_all id old (Err (abort.Busy running)) new p = at_task id old new (Some p.0.0) (Ok (Refused Busy)) p.0.1 (abort_busy id old new p.0.0 p.0.2 p.2)
abort_all id old (Err (abort.Spent steps kept)) new p =
    at_task id old new (Some p.0.0) (Ok Spent) p.0.1
    (abort_open id old new p.0.0 Spent p.0.2 (does_spent (Abort id ∷ []) [] old new [] (record { steps = steps; kept = kept }) p.1.0 p.1.1))
abort_all id old (Err abort.Memory) new p = part_same (aborts id old).entries old new p

pub abort_does : (id : ℕ) (old : Session) (r : Result (Unit {0}) AbortRefused) (s : Result Answer NoMemory) (new : Session) → Aborts old id r new → s ≡ aborted r
    → DoesSilently (aborts id old) old s new
abort_does id old r s new p is = subst (λ (x : Result Answer NoMemory). DoesSilently (aborts id old) old x new) (sym is) (abort_all id old r new p)

-- a reset

reset_open : (e : Event) (old new : Session) (a : Answer) → has_connection (now_of old).phase ≡ true → (now_of old).handler ≡ Idle → Does (makes old (e ∷ []) []) old [] (Ok a) new []
    → Does (resets e old) old [] (Ok a) new []
reset_open e old new a on idle h =
    let rest : Deed = if not (is_idle (now_of old).handler) then refuses Busy else makes old (e ∷ []) [] in
    choice_false (λ d. Does d old [] (Ok a) new []) (not (has_connection (now_of old).phase)) (refuses NotLoggedIn) rest (ap not on)
    (choice_false (λ d. Does d old [] (Ok a) new []) (not (is_idle (now_of old).handler)) (refuses Busy) (makes old (e ∷ []) []) (ap not (idle_is (now_of old).handler idle)) h)

reset_all : (e : Event) (old : Session) (r : Result (Unit {0}) ControlRefused) (new : Session) → Resets e old r new → DoesSilently (resets e old) old (controlled r) new
reset_all e old (Ok u) new p = reset_open e old new Done p.0 p.1 (does_makes (e ∷ []) [] old new [] [] p.2.0 p.2.1 refl)
reset_all e old (Err (control.NotLoggedIn phase)) new p =
    choice_true (λ d. Does d old [] (Ok (Refused NotLoggedIn)) new []) (not (has_connection (now_of old).phase)) (refuses NotLoggedIn) _ (ap not p.0) (does_fail (Refused NotLoggedIn) old new [] p.2)
reset_all e old (Err (control.Busy running)) new p =
    let rest : Deed = if not (is_idle (now_of old).handler) then refuses Busy else makes old (e ∷ []) [] in
    choice_false (λ d. Does d old [] (Ok (Refused Busy)) new []) (not (has_connection (now_of old).phase)) (refuses NotLoggedIn) rest (ap not p.0)
    (choice_true (λ d. Does d old [] (Ok (Refused Busy)) new []) (not (is_idle (now_of old).handler)) (refuses Busy) (makes old (e ∷ []) []) (ap not (work_is (now_of old).handler p.1))
    (does_fail (Refused Busy) old new [] p.3))
reset_all e old (Err (control.Spent steps kept)) new p =
    reset_open e old new Spent p.0 p.1 (does_spent (e ∷ []) [] old new [] (record { steps = steps; kept = kept }) p.2.0 p.2.1)
reset_all e old (Err control.Memory) new p = part_same (resets e old).entries old new p

pub reset_does : (e : Event) (old : Session) (r : Result (Unit {0}) ControlRefused) (s : Result Answer NoMemory) (new : Session) → Resets e old r new → s ≡ controlled r
    → DoesSilently (resets e old) old s new
reset_does e old r s new p is = subst (λ (x : Result Answer NoMemory). DoesSilently (resets e old) old x new) (sym is) (reset_all e old r new p)

-- a logout

leave_all : (old : Session) (r : Result (Unit {0}) ControlRefused) (new : Session) → Leaves old r new → DoesSilently (leaves old) old (controlled r) new
leave_all old (Ok u) new p =
    choice_true (λ d. Does d old [] (Ok Done) new []) (has_connection (now_of old).phase) (makes old (Leave ∷ []) []) (refuses NotLoggedIn) p.0 (does_makes (Leave ∷ []) [] old new [] [] p.2.0 p.2.1 refl)
leave_all old (Err (control.NotLoggedIn phase)) new p =
    choice_false (λ d. Does d old [] (Ok (Refused NotLoggedIn)) new []) (has_connection (now_of old).phase) (makes old (Leave ∷ []) []) (refuses NotLoggedIn) p.0 (does_fail (Refused NotLoggedIn) old new [] p.2)
leave_all old (Err (control.Busy running)) new p = absurd p.1
leave_all old (Err (control.Spent steps kept)) new p =
    choice_true (λ d. Does d old [] (Ok Spent) new []) (has_connection (now_of old).phase) (makes old (Leave ∷ []) []) (refuses NotLoggedIn) p.0
    (does_spent (Leave ∷ []) [] old new [] (record { steps = steps; kept = kept }) p.2.0 p.2.1)
leave_all old (Err control.Memory) new p = part_same (leaves old).entries old new p

pub leave_does : (old : Session) (r : Result (Unit {0}) ControlRefused) (s : Result Answer NoMemory) (new : Session) → Leaves old r new → s ≡ controlled r → DoesSilently (leaves old) old s new
leave_does old r s new p is = subst (λ (x : Result Answer NoMemory). DoesSilently (leaves old) old x new) (sym is) (leave_all old r new p)

-- a login

can_log_in : (done : LoginDone) (old new : Session) (out after : List ℕ) (r : Result Answer NoMemory) → has_connection (now_of old).phase ≡ false → is_ended (now_of old).phase ≡ false
    → Does (makes old (login_of ((now_of old).generation + 1) done ∷ []) (login_text ((now_of old).generation + 1))) old out r new after → Does (logs_in done old) old out r new after
can_log_in done old new out after r off on h =
    let made = makes old (login_of ((now_of old).generation + 1) done ∷ []) (login_text ((now_of old).generation + 1)) in
    let rest : Deed = if has_connection (now_of old).phase then refuses LoggedInAlready else made in
    choice_false (λ d. Does d old out r new after) (is_ended (now_of old).phase) (refuses Ended) rest on
    (choice_false (λ d. Does d old out r new after) (has_connection (now_of old).phase) (refuses LoggedInAlready) made off h)

pub login_done : (done : LoginDone) (old new : Session) (generation : ℕ) (before after : List ℕ) → LogsIn old done (Ok generation) new → after ≡ before ++ login_text generation
    → Does (logs_in done old) old before (Ok Done) new after
login_done done old new generation before after p wrote =
    can_log_in done old new before after (Ok Done) p.0.0 p.0.1
    (does_makes (login_of ((now_of old).generation + 1) done ∷ []) (login_text ((now_of old).generation + 1)) old new before after
    (ap (λ g. spent_by old (login_of g done ∷ [])) (sym p.1) ∙ p.2.0) (p.2.1 ∙ ap (λ g. entered old (login_of g done)) p.1) (wrote ∙ ap (λ g. before ++ login_text g) p.1))

pub login_part : (done : LoginDone) (old new : Session) (generation : ℕ) (out after : List ℕ) (e : NoMemory) → LogsIn old done (Ok generation) new → Does (logs_in done old) old out (Err e) new after
login_part done old new generation out after e p =
    can_log_in done old new out after (Err e) p.0.0 p.0.1
    (part_makes (login_of ((now_of old).generation + 1) done ∷ []) (login_text ((now_of old).generation + 1)) old new
    (ap (λ g. spent_by old (login_of g done ∷ [])) (sym p.1) ∙ p.2.0) (p.2.1 ∙ ap (λ g. entered old (login_of g done)) p.1))

pub login_ended : (done : LoginDone) (old new : Session) (cause : Cause) (out : List ℕ) → LogsIn old done (Err (login.Ended cause)) new → Does (logs_in done old) old out (Ok (Refused Ended)) new out
login_ended done old new cause out p =
    choice_true (λ d. Does d old out (Ok (Refused Ended)) new out) (is_ended (now_of old).phase) (refuses Ended) _ (ap is_ended p.0) (does_fail (Refused Ended) old new out p.1)

pub login_twice : (done : LoginDone) (old new : Session) (current : ℕ) (out : List ℕ) → LogsIn old done (Err (login.LoggedIn current)) new
    → Does (logs_in done old) old out (Ok (Refused LoggedInAlready)) new out
login_twice done old new current out p =
    let made = makes old (login_of ((now_of old).generation + 1) done ∷ []) (login_text ((now_of old).generation + 1)) in
    let rest : Deed = if has_connection (now_of old).phase then refuses LoggedInAlready else made in
    choice_false (λ d. Does d old out (Ok (Refused LoggedInAlready)) new out) (is_ended (now_of old).phase) (refuses Ended) rest (ap is_ended p.0)
    (choice_true (λ d. Does d old out (Ok (Refused LoggedInAlready)) new out) (has_connection (now_of old).phase) (refuses LoggedInAlready) made (ap has_connection p.0)
    (does_fail (Refused LoggedInAlready) old new out p.1))

pub login_spent : (done : LoginDone) (old new : Session) (steps kept : ℕ) (out : List ℕ) → LogsIn old done (Err (login.Spent steps kept)) new → Does (logs_in done old) old out (Ok Spent) new out
login_spent done old new steps kept out p =
    can_log_in done old new out out (Ok Spent) p.0.0 p.0.1
    (does_spent (login_of ((now_of old).generation + 1) done ∷ []) (login_text ((now_of old).generation + 1)) old new out (record { steps = steps; kept = kept }) p.1.0 p.1.1)

-- the loss of a connection

both_tests : (a b : Bool) → a ≡ true → b ≡ true → (a && b) ≡ true
both_tests a b p q = rw (p, q) refl

first_off : (a b : Bool) → a ≡ false → (a && b) ≡ false
first_off a b p = rw p refl

second_off : (a b : Bool) → a ≡ true → b ≡ false → (a && b) ≡ false
second_off a b p q = rw (p, q) refl

can_lose : (g : ℕ) (cause : LostCause) (old new : Session) (before after : List ℕ) (r : Result Answer NoMemory) → is_logged_in (now_of old).phase g ≡ true → is_cause old.config (now_of old) cause ≡ true
    → Does (makes old (Lost g cause ∷ []) (lost_text g cause)) old before r new after → Does (loses g cause old) old before r new after
can_lose g cause old new before after r on holds h =
    choice_true (λ d. Does d old before r new after) (is_logged_in (now_of old).phase g && is_cause old.config (now_of old) cause) (makes old (Lost g cause ∷ []) (lost_text g cause)) nothing
    (both_tests (is_logged_in (now_of old).phase g) (is_cause old.config (now_of old) cause) on holds) h

cant_lose : (g : ℕ) (cause : LostCause) (old new : Session) (out : List ℕ) → (is_logged_in (now_of old).phase g && is_cause old.config (now_of old) cause) ≡ false → new ≡ old
    → Does (loses g cause old) old out (Ok Done) new out
cant_lose g cause old new out off is =
    choice_false (λ d. Does d old out (Ok Done) new out) (is_logged_in (now_of old).phase g && is_cause old.config (now_of old) cause) (makes old (Lost g cause ∷ []) (lost_text g cause)) nothing off
    (does_nothing old new out is)

pub lost_done : (g : ℕ) (cause : LostCause) (old new : Session) (before after : List ℕ) → Loses old g cause (Ok lost.Lost) new → after ≡ before ++ lost_text g cause
    → Does (loses g cause old) old before (Ok Done) new after
lost_done g cause old new before after p wrote =
    can_lose g cause old new before after (Ok Done) p.0 p.1 (does_makes (Lost g cause ∷ []) (lost_text g cause) old new before after p.2.0 p.2.1 wrote)

pub lost_part : (g : ℕ) (cause : LostCause) (old new : Session) (out after : List ℕ) (e : NoMemory) → Loses old g cause (Ok lost.Lost) new → Does (loses g cause old) old out (Err e) new after
lost_part g cause old new out after e p =
    can_lose g cause old new out after (Err e) p.0 p.1 (part_makes (Lost g cause ∷ []) (lost_text g cause) old new p.2.0 p.2.1)

pub lost_stale : (g : ℕ) (cause : LostCause) (old new : Session) (current : ℕ) (out : List ℕ) → Loses old g cause (Ok (lost.Stale current)) new → Does (loses g cause old) old out (Ok Done) new out
lost_stale g cause old new current out p = cant_lose g cause old new out (first_off (is_logged_in (now_of old).phase g) (is_cause old.config (now_of old) cause) p.0) p.2

pub lost_not_so : (g : ℕ) (cause : LostCause) (old new : Session) (out : List ℕ) → Loses old g cause (Ok lost.NotSo) new → Does (loses g cause old) old out (Ok Done) new out
lost_not_so g cause old new out p = cant_lose g cause old new out (second_off (is_logged_in (now_of old).phase g) (is_cause old.config (now_of old) cause) p.0 p.1) p.2

pub lost_spent : (g : ℕ) (cause : LostCause) (old new : Session) (steps kept : ℕ) (out : List ℕ) → Loses old g cause (Err (step.Spent steps kept)) new → Does (loses g cause old) old out (Ok Spent) new out
lost_spent g cause old new steps kept out p =
    can_lose g cause old new out out (Ok Spent) p.0 p.1 (does_spent (Lost g cause ∷ []) (lost_text g cause) old new out (record { steps = steps; kept = kept }) p.2.0 p.2.1)

-- a transmission

some_first : (before : List Event) (e : Event) (es : List Event) → es ≡ before ++ e ∷ [] → (x : Event) × (xs : List Event) × (es ≡ x ∷ xs)
some_first [] e es is = (e, [], is)
some_first (x ∷ xs) e es is = (x, xs ++ e ∷ [], is)

pub turn_sent : (g : ℕ) (old new : Session) (e : Event) (bytes before after : List ℕ) → Transmits old g [] (Ok (transmit.Sent e)) new bytes → after ≡ before ++ tx_text g bytes
    → Turns g old before (Ok turn.Sent) new after
turn_sent g old new e bytes before after p wrote =
    let some = some_first p.1.0 e (owed_of old) p.1.1 in (
      some,
      does_makes (turn_of old) (turn_text g old (owed_of old)) old new before after p.2 p.3
          (wrote ∙ (ap (λ (z : List ℕ). before ++ tx_text g z) p.4 ∙ ap (λ (es : List Event). before ++ turn_text g old es) (sym some.2))),
    )

pub turn_idle : (g : ℕ) (old new : Session) (bytes before after : List ℕ) → Transmits old g [] (Ok transmit.Idle) new bytes → after ≡ before ++ idle_text → Turns g old before (Ok turn.Idle) new after
turn_idle g old new bytes before after p wrote = (
  p.1,
  does_makes (turn_of old) (turn_text g old (owed_of old)) old new before after p.2 p.3 (wrote ∙ ap (λ (es : List Event). before ++ turn_text g old es) (sym p.1)),
)

does_spent_with : (es : List Event) (text : List ℕ) (old new : Session) (before after : List ℕ) (l : Load) → spent_by old es ≡ Some l → new ≡ old → after ≡ before ++ [] → Does (makes old es text) old before (Ok Spent) new after
does_spent_with es text old new before after l some is wrote =
    subst (λ (out : List ℕ). Does (makes old es text) old before (Ok Spent) new out) (sym (wrote ∙ append-nil before)) (does_spent es text old new before l some is)

pub turn_spent : (g : ℕ) (old new : Session) (bytes out : List ℕ) (steps kept : ℕ) → Transmits old g [] (Err (step.Spent steps kept)) new bytes → Turns g old out (Ok turn.Spent) new out
turn_spent g old new bytes out steps kept p = does_spent (turn_of old) (turn_text g old (owed_of old)) old new out (record { steps = steps; kept = kept }) p.1.0 p.1.1

-- by its answer
turn_by : (g : ℕ) (old new : Session) (bytes before after : List ℕ) (r : Result Transmit StepRefused) (t : Turn) → Transmits old g [] r new bytes → turned r ≡ Ok t → after ≡ before ++ turn_line t g bytes
    → Turns g old before (Ok t) new after
turn_by g old new bytes before after (Ok (transmit.Sent e)) turn.Sent p is wrote = turn_sent g old new e bytes before after p wrote
turn_by g old new bytes before after (Ok (transmit.Sent e)) turn.Idle p is wrote = absurd cc
turn_by g old new bytes before after (Ok (transmit.Sent e)) turn.Spent p is wrote = absurd cc
turn_by g old new bytes before after (Ok transmit.Idle) turn.Sent p is wrote = absurd cc
turn_by g old new bytes before after (Ok transmit.Idle) turn.Idle p is wrote = turn_idle g old new bytes before after p wrote
turn_by g old new bytes before after (Ok transmit.Idle) turn.Spent p is wrote = absurd cc
turn_by g old new bytes before after (Ok (transmit.NotLoggedIn phase)) t p is wrote = absurd cc
turn_by g old new bytes before after (Ok (transmit.Changed current)) t p is wrote = absurd cc
turn_by g old new bytes before after (Err (step.Spent steps kept)) turn.Sent p is wrote = absurd cc
turn_by g old new bytes before after (Err (step.Spent steps kept)) turn.Idle p is wrote = absurd cc
turn_by g old new bytes before after (Err (step.Spent steps kept)) turn.Spent p is wrote =
    does_spent_with (turn_of old) (turn_text g old (owed_of old)) old new before after (record { steps = steps; kept = kept }) p.1.0 p.1.1 wrote
turn_by g old new bytes before after (Err step.Memory) t p is wrote = absurd cc

pub turn_is : (g : ℕ) (old new : Session) (bytes before after : List ℕ) (r : Result Transmit StepRefused) (s : Result Turn NoMemory) (t : Turn) → Transmits old g [] r new bytes → s ≡ turned r → s ≡ Ok t
    → after ≡ before ++ turn_line t g bytes → Turns g old before (Ok t) new after
turn_is g old new bytes before after r s t p made is wrote = turn_by g old new bytes before after r t p (sym made ∙ is) wrote

-- without memory
turn_part : (g : ℕ) (old new : Session) (bytes : List ℕ) (r : Result Transmit StepRefused) → Transmits old g [] r new bytes → IsPart (turns g old).entries old new
turn_part g old new bytes (Ok (transmit.Sent e)) p = part_makes (turn_of old) (turn_text g old (owed_of old)) old new p.2 p.3
turn_part g old new bytes (Ok transmit.Idle) p = part_makes (turn_of old) (turn_text g old (owed_of old)) old new p.2 p.3
turn_part g old new bytes (Ok (transmit.NotLoggedIn phase)) p = part_same (turns g old).entries old new p.2
turn_part g old new bytes (Ok (transmit.Changed current)) p = part_same (turns g old).entries old new p.2
turn_part g old new bytes (Err (step.Spent steps kept)) p = part_same (turns g old).entries old new p.1.1
turn_part g old new bytes (Err step.Memory) p = part_same (turns g old).entries old new p.0

pub turn_broke : (g : ℕ) (old new : Session) (bytes before after : List ℕ) (r : Result Transmit StepRefused) (e : NoMemory) → Transmits old g [] r new bytes → Turns g old before (Err e) new after
turn_broke g old new bytes before after r e p = turn_part g old new bytes r p

-- into a buffer that was empty

pub turn_made : (g : ℕ) (old new : Session) (first bytes before after : List ℕ) (r : Result Transmit StepRefused) (s : Result Turn NoMemory) (t : Turn) → first ≡ [] → Transmits old g first r new bytes
    → s ≡ turned r → s ≡ Ok t → after ≡ before ++ turn_line t g bytes → Turns g old before (Ok t) new after
turn_made g old new first bytes before after r s t none p = turn_is g old new bytes before after r s t (subst (λ (z : List ℕ). Transmits old g z r new bytes) none p)

pub turn_failed : (g : ℕ) (old new : Session) (first bytes before after : List ℕ) (r : Result Transmit StepRefused) (e : NoMemory) → first ≡ [] → Transmits old g first r new bytes
    → Turns g old before (Err e) new after
turn_failed g old new first bytes before after r e none p = turn_broke g old new bytes before after r e (subst (λ (z : List ℕ). Transmits old g z r new bytes) none p)

-- what is due

due_none : (ds : List Delivered) → length ds ≡ 0 → (length ds == 0) ≡ true
due_none ds is = ap (λ n. n == 0) is

due_some : (n : ℕ) → 1 ≤ n → (n == 0) ≡ false
due_some n h = grind (arith, nat_tests)

hands_by : (b : Bool) (old new : Session) (due : List Delivered) (before after : List ℕ) → is_ended (now_of old).phase ≡ b
    → (is_ended (now_of old).phase ≡ false → spent_by old (Deliver (length due) ∷ []) ≡ None) → new ≡ entered old (Deliver (length due)) → after ≡ before ++ outcome_lines old.config.sid due
    → Does (hands_out_by b old due) old before (Ok Done) new after
hands_by true old new due before after over none is wrote = (is, wrote, refl)
hands_by false old new due before after over none is wrote = does_makes (Deliver (length due) ∷ []) (outcome_lines old.config.sid due) old new before after (none over) is wrote

handed : (old new : Session) (n : ℕ) (before after : List ℕ) → n ≡ length (due_in (now_of old).tasks) → HandsOut old n new → after ≡ before ++ outcome_lines old.config.sid (due_in (now_of old).tasks)
    → Does (hands_out old) old before (Ok Done) new after
handed old new n before after count (inl none) wrote =
    choice_true (λ d. Does d old before (Ok Done) new after) (length (due_in (now_of old).tasks) == 0) nothing _ (due_none (due_in (now_of old).tasks) (sym count ∙ none.0))
    (none.1, wrote ∙ ap (λ (ds : List Delivered). before ++ outcome_lines old.config.sid ds) (no_due (due_in (now_of old).tasks) (sym count ∙ none.0)), refl)
  where
    no_due : (ds : List Delivered) → length ds ≡ 0 → ds ≡ []
    no_due [] is = refl
    no_due (d ∷ ds) is = absurd (omega (arith, is))
handed old new n before after count (inr some) wrote =
    choice_false (λ d. Does d old before (Ok Done) new after) (length (due_in (now_of old).tasks) == 0) nothing (hands_out_by (is_ended (now_of old).phase) old (due_in (now_of old).tasks)) (due_some (length (due_in (now_of old).tasks)) (omega (arith, some.0, count)))
    (hands_by (is_ended (now_of old).phase) old new (due_in (now_of old).tasks) before after refl (λ on. ap (λ m. spent_by old (Deliver m ∷ [])) (sym count) ∙ some.1 on)
    (some.2 ∙ ap (λ m. entered old (Deliver m)) count) wrote)

pub hand_done : (old new : Session) (n : ℕ) (due : List Delivered) (before after : List ℕ) → Delivers old [] (Ok n) new due → after ≡ before ++ outcome_lines old.config.sid due
    → Does (hands_out old) old before (Ok Done) new after
hand_done old new n due before after p wrote = handed old new n before after p.0 p.1 (wrote ∙ ap (λ (ds : List Delivered). before ++ outcome_lines old.config.sid ds) p.2)

part_by : (b : Bool) (old new : Session) (due : List Delivered) → is_ended (now_of old).phase ≡ b
    → (is_ended (now_of old).phase ≡ false → spent_by old (Deliver (length due) ∷ []) ≡ None) → new ≡ entered old (Deliver (length due)) → IsPart (hands_out_by b old due).entries old new
part_by true old new due over none is = (1, is)
part_by false old new due over none is = part_makes (Deliver (length due) ∷ []) (outcome_lines old.config.sid due) old new (none over) is

handed_part : (old new : Session) (n : ℕ) → n ≡ length (due_in (now_of old).tasks) → HandsOut old n new → IsPart (hands_out old).entries old new
handed_part old new n count (inl none) = part_same (hands_out old).entries old new none.1
handed_part old new n count (inr some) =
    choice_false (λ d. IsPart d.entries old new) (length (due_in (now_of old).tasks) == 0) nothing (hands_out_by (is_ended (now_of old).phase) old (due_in (now_of old).tasks)) (due_some (length (due_in (now_of old).tasks)) (omega (arith, some.0, count)))
    (part_by (is_ended (now_of old).phase) old new (due_in (now_of old).tasks) refl (λ on. ap (λ m. spent_by old (Deliver m ∷ [])) (sym count) ∙ some.1 on)
    (some.2 ∙ ap (λ m. entered old (Deliver m)) count))

pub hand_part : (old new : Session) (n : ℕ) (due : List Delivered) (out after : List ℕ) (e : NoMemory) → Delivers old [] (Ok n) new due → Does (hands_out old) old out (Err e) new after
hand_part old new n due out after e p = handed_part old new n p.0 p.1

pub hand_spent : (old new : Session) (steps kept : ℕ) (due : List Delivered) (out : List ℕ) → Delivers old [] (Err (step.Spent steps kept)) new due → Does (hands_out old) old out (Ok Spent) new out
hand_spent old new steps kept due out p =
    choice_false (λ d. Does d old out (Ok Spent) new out) (length (due_in (now_of old).tasks) == 0) nothing (hands_out_by (is_ended (now_of old).phase) old (due_in (now_of old).tasks)) (due_some (length (due_in (now_of old).tasks)) p.1)
    (subst (λ (b : Bool). Does (hands_out_by b old (due_in (now_of old).tasks)) old out (Ok Spent) new out) (sym p.0)
    (does_spent (Deliver (length (due_in (now_of old).tasks)) ∷ []) (outcome_lines old.config.sid (due_in (now_of old).tasks)) old new out (record { steps = steps; kept = kept }) p.2.0 p.2.1))

-- the live connection

pub link_some : (o : Option ℕ) (g : ℕ) (f : ℕ → Deed) (d : Deed) (old new : Session) (before after : List ℕ) (r : Result Answer NoMemory) → o ≡ Some g → Does (f g) old before r new after
    → Does (on_link o f d) old before r new after
link_some o g f d old new before after r is h = subst (λ (x : Option ℕ). Does (on_link x f d) old before r new after) (sym is) h

pub link_none : (o : Option ℕ) (f : ℕ → Deed) (d : Deed) (old new : Session) (before after : List ℕ) (r : Result Answer NoMemory) → o ≡ None → Does d old before r new after
    → Does (on_link o f d) old before r new after
link_none o f d old new before after r is h = subst (λ (x : Option ℕ). Does (on_link x f d) old before r new after) (sym is) h

-- a PDU

silent : (out : List ℕ) → out ≡ out ++ []
silent out = sym (append-nil out)

pub take_then : (g : ℕ) (pdu : Pdu) (old mid new : Session) (before after : List ℕ) (answer : Received) (r : Result Answer NoMemory) → Receives old g pdu (Ok answer) mid
    → Does (heeds g answer mid) mid before r new after → Does (takes g pdu old) old before r new after
take_then g pdu old mid new before after answer r p h =
    does_then (makes old (PduIn g pdu ∷ []) []) (λ t. heeds g (received_of (now_of old) (now_of t) g pdu) t) old mid new before before after r
    (does_makes (PduIn g pdu ∷ []) [] old mid before before p.0.0 p.0.1 (silent before)) (subst (λ (a : Received). Does (heeds g a mid) mid before r new after) p.1 h)

pub take_spent : (g : ℕ) (pdu : Pdu) (old new : Session) (out : List ℕ) (steps kept : ℕ) → Receives old g pdu (Err (step.Spent steps kept)) new → Does (takes g pdu old) old out (Ok Spent) new out
take_spent g pdu old new out steps kept p =
    does_stop (makes old (PduIn g pdu ∷ []) []) (λ t. heeds g (received_of (now_of old) (now_of t) g pdu) t) old new out out Spent
    (does_spent (PduIn g pdu ∷ []) [] old new out (record { steps = steps; kept = kept }) p.0 p.1) refl

-- the clock

expires_by : (o : Option ℕ) (s : Session) → on_link o (λ g. if false then loses g Ping s else (if false then loses g Handler s else nothing)) nothing ≡ nothing
expires_by None s = refl
expires_by (Some g) s = refl

expires_none : (ping handler : Bool) (s : Session) → ping ≡ false → handler ≡ false → expires ping handler s ≡ nothing
expires_none ping handler s p q = rw (p, q) (expires_by (live_on (now_of s).phase) s)

abbrev tick_made : ℕ → Session → Deed
tick_made now old = followed old (makes old (Tick (reading_of (now_of old) now) ∷ []) []) (λ t. expires (is_ping_late t.config (now_of t)) (is_spent (now_of t).handler) t)

abbrev tick_rest : ℕ → Session → Deed
tick_rest now old = if is_ended (now_of old).phase then nothing else tick_made now old

tick_by : (now : ℕ) (old mid new : Session) (before after : List ℕ) (ticked : Ticked) (r : Result Answer NoMemory) → nat_lt now (now_of old).clock ≡ false → Ticks old now (Ok ticked) mid
    → Does (expires ticked.ping ticked.handler mid) mid before r new after → Does (ticks now old) old before r new after
tick_by now old mid new before after ticked r on (inl over) h =
    choice_false (λ d. Does d old before r new after) (nat_lt now (now_of old).clock) (fails Outside) (tick_rest now old) on
    (choice_true (λ d. Does d old before r new after) (is_ended (now_of old).phase) nothing (tick_made now old) over.0
    (subst (λ (s : Session). Does nothing s before r new after) over.2
    (subst (λ (d : Deed). Does d mid before r new after) (expires_none ticked.ping ticked.handler mid (ap (λ (t : Ticked). t.ping) over.1) (ap (λ (t : Ticked). t.handler) over.1)) h)))
tick_by now old mid new before after ticked r on (inr goes) h =
    choice_false (λ d. Does d old before r new after) (nat_lt now (now_of old).clock) (fails Outside) (tick_rest now old) on
    (choice_false (λ d. Does d old before r new after) (is_ended (now_of old).phase) nothing (tick_made now old) goes.0
    (does_then (makes old (Tick (reading_of (now_of old) now) ∷ []) []) (λ t. expires (is_ping_late t.config (now_of t)) (is_spent (now_of t).handler) t) old mid new before before after r
    (does_makes (Tick (reading_of (now_of old) now) ∷ []) [] old mid before before goes.1.0 goes.1.1 (silent before))
    (subst (λ (b : Bool). Does (expires b (is_spent (now_of mid).handler) mid) mid before r new after) (late goes.1.1 (ap (λ (t : Ticked). t.ping) goes.2))
    (subst (λ (b : Bool). Does (expires ticked.ping b mid) mid before r new after) (ap (λ (t : Ticked). t.handler) goes.2) h))))
  where
    late : mid ≡ entered old (Tick (reading_of (now_of old) now)) → ticked.ping ≡ is_ping_late old.config (now_of mid) → ticked.ping ≡ is_ping_late mid.config (now_of mid)
    late is p = p ∙ ap (λ (C : SessionConfig). is_ping_late C (now_of mid)) (sym (ap (λ (s : Session). s.config) is))

pub tick_then : (now : ℕ) (old mid new : Session) (before after : List ℕ) (ticked : Ticked) (r : Result Answer NoMemory) → (now_of old).clock ≤ now → Ticks old now (Ok ticked) mid
    → Does (expires ticked.ping ticked.handler mid) mid before r new after → Does (ticks now old) old before r new after
tick_then now old mid new before after ticked r on p h = tick_by now old mid new before after ticked r (least_test now (now_of old).clock on) p h

pub tick_outside : (now : ℕ) (old : Session) (out : List ℕ) → now < (now_of old).clock → Does (ticks now old) old out (Ok Outside) old out
tick_outside now old out h = choice_true (λ d. Does d old out (Ok Outside) old out) (nat_lt now (now_of old).clock) (fails Outside) (tick_rest now old) (less_test now (now_of old).clock h) (does_fail Outside old old out refl)

pub tick_spent : (now : ℕ) (old new : Session) (out : List ℕ) (steps kept : ℕ) → (now_of old).clock ≤ now → Ticks old now (Err (step.Spent steps kept)) new → Does (ticks now old) old out (Ok Spent) new out
tick_spent now old new out steps kept on p =
    choice_false (λ d. Does d old out (Ok Spent) new out) (nat_lt now (now_of old).clock) (fails Outside) (tick_rest now old) (least_test now (now_of old).clock on)
    (choice_false (λ d. Does d old out (Ok Spent) new out) (is_ended (now_of old).phase) nothing (tick_made now old) p.0
    (does_stop (makes old (Tick (reading_of (now_of old) now) ∷ []) []) (λ t. expires (is_ping_late t.config (now_of t)) (is_spent (now_of t).handler) t) old new out out Spent
    (does_spent (Tick (reading_of (now_of old) now) ∷ []) [] old new out (record { steps = steps; kept = kept }) p.1.0 p.1.1) refl))
