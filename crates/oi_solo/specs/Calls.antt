-- What each call does and answers, one definition a call, one line an answer. Want of memory is free and changes nothing.
use Rattle.std.specs.Prelude.{◌≡◌, ◌≢◌, ◌⊎◌, ℕ, true, false, ◌+◌, ◌<◌, ◌≤◌, ◌++◌, ◌&&◌, List, [], ◌∷◌, Option, Some, None, Result, Ok, Err, length, max, slice_get, nat_le, if◌then◌else◌}
use Rattle.oi_base.specs.Counts.{told}
use Rattle.oi_base.specs.Limits.{most_pending}
use Rattle.oi_base.specs.declared.login.LoginDone.{LoginDone}
use Rattle.oi_history.specs.Handling.{is_live, is_spent}
use Rattle.oi_history.specs.Losses.{is_cause, is_ping_late}
use Rattle.oi_history.specs.Meanings.{Meanings}
use Rattle.oi_history.specs.Phases.{has_connection, is_ended, is_logged_in}
use Rattle.oi_history.specs.Tasks.{due_in, is_done}
use Rattle.oi_history.specs.declared.event.Event.{Event}
use Rattle.oi_history.specs.declared.event.Event.TheVariants.{Submit, PduIn, Deliver, Login, Lost, Tick, Abort, Leave, Terminate}
use Rattle.oi_history.specs.declared.fate.Delivered.{Delivered}
use Rattle.oi_history.specs.declared.fate.Fate.{Fate}
use Rattle.oi_history.specs.declared.fate.Fate.TheVariants.{Done}
use Rattle.oi_history.specs.declared.phase.End.{End}
use Rattle.oi_history.specs.declared.phase.Handler.TheVariants.{Idle as Resting}
use Rattle.oi_history.specs.declared.phase.LostCause.{LostCause}
use Rattle.oi_history.specs.declared.phase.Phase.TheVariants.{Ended, LoggedIn}
use Rattle.oi_history.specs.declared.rule.Rule.{Rule}
use Rattle.oi_history.specs.declared.task.Task.{Task}
use Rattle.oi_pdu.specs.declared.codec.Pdu.{Pdu}
use Rattle.oi_pdu.specs.declared.header.Header.{Header}
use Rattle.oi_pdu.specs.declared.header.Header.TheVariants.{Async}
use Rattle.oi_scsi.specs.declared.request.Request.{Request}
use Rattle.oi_solo.specs.Limits.{spent_by}
use Rattle.oi_solo.specs.Sessions.{Session, entered, entered_all, now_of, owed_of, pending_of, releases, sent_bytes}
use Rattle.oi_solo.specs.declared.answers.AbortRefused.{AbortRefused}
use Rattle.oi_solo.specs.declared.answers.AbortRefused.TheVariants.{Unknown, TooLate, Busy as AbortBusy, Spent as AbortSpent, Memory as AbortMemory}
use Rattle.oi_solo.specs.declared.answers.AlreadyEnded.{AlreadyEnded}
use Rattle.oi_solo.specs.declared.answers.ControlRefused.{ControlRefused}
use Rattle.oi_solo.specs.declared.answers.ControlRefused.TheVariants.{NotLoggedIn as ControlWithout, Busy as ControlBusy, Spent as ControlSpent, Memory as ControlMemory}
use Rattle.oi_solo.specs.declared.answers.LoginRefused.{LoginRefused}
use Rattle.oi_solo.specs.declared.answers.LoginRefused.TheVariants.{Ended as LoginEnded, LoggedIn as LoginTwice, Spent as LoginSpent, Memory as LoginMemory}
use Rattle.oi_solo.specs.declared.answers.LostDone.{LostDone}
use Rattle.oi_solo.specs.declared.answers.LostDone.TheVariants.{Stale as LostStale, NotSo, Lost as IsLost}
use Rattle.oi_solo.specs.declared.answers.Receipt.{Receipt}
use Rattle.oi_solo.specs.declared.answers.Received.{Received}
use Rattle.oi_solo.specs.declared.answers.Received.TheVariants.{Stale, Broken, Asked, Applied}
use Rattle.oi_solo.specs.declared.answers.StepRefused.{StepRefused}
use Rattle.oi_solo.specs.declared.answers.StepRefused.TheVariants.{Spent as StepSpent, Memory as StepMemory}
use Rattle.oi_solo.specs.declared.answers.SubmitRefused.{SubmitRefused}
use Rattle.oi_solo.specs.declared.answers.SubmitRefused.TheVariants.{Ended as SubmitEnded, Full, Spent as SubmitSpent, Memory as SubmitMemory}
use Rattle.oi_solo.specs.declared.answers.Ticked.{Ticked}
use Rattle.oi_solo.specs.declared.answers.Transmit.{Transmit}
use Rattle.oi_solo.specs.declared.answers.Transmit.TheVariants.{NotLoggedIn, Changed, Idle, Sent}

-- one entry is made; or it would pass the limits of a half, whose numbers are told, and nothing changes
abbrev pub Enters : Session → Event → Session → Type 0
Enters old e new = (spent_by old (e ∷ []) ≡ None) × (new ≡ entered old e)

abbrev pub IsSpent : Session → List Event → ℕ → ℕ → Session → Type 0
IsSpent old es steps kept new = (spent_by old es ≡ Some (record { steps = steps; kept = kept })) × (new ≡ old)

abbrev pub Submits : Session → Request → Result Receipt SubmitRefused → Session → Type 0
Submits old request (Ok receipt) new =
    (is_ended (now_of old).phase ≡ false) × (pending_of (now_of old) < most_pending) × (receipt.id ≡ length (now_of old).tasks) × (receipt.number ≡ length old.history)
    × Enters old (Submit receipt.id request) new
Submits old request (Err (SubmitEnded cause)) new = ((now_of old).phase ≡ Ended cause) × (new ≡ old)
Submits old request (Err (Full waiting)) new =
    (is_ended (now_of old).phase ≡ false) × (most_pending ≤ pending_of (now_of old)) × (waiting ≡ told (pending_of (now_of old))) × (new ≡ old)
Submits old request (Err (SubmitSpent steps kept)) new =
    (is_ended (now_of old).phase ≡ false) × (pending_of (now_of old) < most_pending) × IsSpent old (Submit (length (now_of old).tasks) request ∷ []) steps kept new
Submits old request (Err SubmitMemory) new = new ≡ old

abbrev pub login_of : ℕ → LoginDone → Event
login_of generation done = Login generation done.params done.cmdsn done.max done.exp_stat

abbrev pub CanLogIn : Meanings → Type 0
CanLogIn m = (has_connection m.phase ≡ false) × (is_ended m.phase ≡ false)

abbrev pub LogsIn : Session → LoginDone → Result ℕ LoginRefused → Session → Type 0
LogsIn old done (Ok generation) new = CanLogIn (now_of old) × (generation ≡ (now_of old).generation + 1) × Enters old (login_of generation done) new
LogsIn old done (Err (LoginEnded cause)) new = ((now_of old).phase ≡ Ended cause) × (new ≡ old)
LogsIn old done (Err (LoginTwice current)) new = ((now_of old).phase ≡ LoggedIn current) × (new ≡ old)
LogsIn old done (Err (LoginSpent steps kept)) new = CanLogIn (now_of old) × IsSpent old (login_of ((now_of old).generation + 1) done ∷ []) steps kept new
LogsIn old done (Err LoginMemory) new = new ≡ old

-- a transmission: first all ended tags are released, then what is owed is sent, where something is
abbrev pub turn_of : Session → List Event
turn_of s = releases (now_of s) ++ owed_of s

-- the last of what is owed is the entry that sends
abbrev pub Sends : Session → Event → Type 0
Sends s e = (before : List Event) × (owed_of s ≡ before ++ e ∷ [])

abbrev pub IsOn : Session → ℕ → Type 0
IsOn s generation = is_logged_in (now_of s).phase generation ≡ true

abbrev pub Transmits : Session → ℕ → List ℕ → Result Transmit StepRefused → Session → List ℕ → Type 0
Transmits old generation before (Ok (NotLoggedIn phase)) new after =
    (has_connection (now_of old).phase ≡ false) × (phase ≡ (now_of old).phase) × (new ≡ old) × (after ≡ before)
Transmits old generation before (Ok (Changed current)) new after =
    ((now_of old).phase ≡ LoggedIn current) × (current ≢ generation) × (new ≡ old) × (after ≡ before)
Transmits old generation before (Ok Idle) new after =
    IsOn old generation × (owed_of old ≡ []) × (spent_by old (turn_of old) ≡ None) × (new ≡ entered_all old (turn_of old)) × (after ≡ before)
Transmits old generation before (Ok (Sent e)) new after =
    IsOn old generation × Sends old e × (spent_by old (turn_of old) ≡ None) × (new ≡ entered_all old (turn_of old)) × (after ≡ before ++ sent_bytes old (turn_of old))
Transmits old generation before (Err (StepSpent steps kept)) new after = IsOn old generation × IsSpent old (turn_of old) steps kept new × (after ≡ before)
Transmits old generation before (Err StepMemory) new after = (new ≡ old) × (after ≡ before)

-- an Async Message with event 1, 2 or 3 asks to end the connection (RFC 7143, section 11.9.1)
abbrev pub asked_of : Header → Received
asked_of (Async h) = if nat_le 1 h.event && nat_le h.event 3 then Asked h.event else Applied
asked_of h = Applied

abbrev pub broken_or : Option Rule → Received → Received
broken_or (Some rule) otherwise = Broken rule
broken_or None otherwise = otherwise

-- what a PDU of a connection came to: before its entry, and after it
abbrev pub received_of : Meanings → Meanings → ℕ → Pdu → Received
received_of old new generation pdu =
    if is_logged_in old.phase generation then broken_or new.broken (asked_of pdu.head) else Stale old.generation

abbrev pub Receives : Session → ℕ → Pdu → Result Received StepRefused → Session → Type 0
Receives old generation pdu (Ok answer) new = Enters old (PduIn generation pdu) new × (answer ≡ received_of (now_of old) (now_of new) generation pdu)
Receives old generation pdu (Err (StepSpent steps kept)) new = IsSpent old (PduIn generation pdu ∷ []) steps kept new
Receives old generation pdu (Err StepMemory) new = new ≡ old

-- a connection is lost where it is the live one, for a cause that holds
abbrev pub Loses : Session → ℕ → LostCause → Result LostDone StepRefused → Session → Type 0
Loses old generation cause (Ok (LostStale current)) new = (is_logged_in (now_of old).phase generation ≡ false) × (current ≡ (now_of old).generation) × (new ≡ old)
Loses old generation cause (Ok NotSo) new = IsOn old generation × (is_cause old.config (now_of old) cause ≡ false) × (new ≡ old)
Loses old generation cause (Ok IsLost) new = IsOn old generation × (is_cause old.config (now_of old) cause ≡ true) × Enters old (Lost generation cause) new
Loses old generation cause (Err (StepSpent steps kept)) new =
    IsOn old generation × (is_cause old.config (now_of old) cause ≡ true) × IsSpent old (Lost generation cause ∷ []) steps kept new
Loses old generation cause (Err StepMemory) new = new ≡ old

-- the clock is read; one that falls is taken to stand still, and after the end no reading counts
abbrev pub reading_of : Meanings → ℕ → ℕ
reading_of m now = max now m.clock

abbrev pub Ticks : Session → ℕ → Result Ticked StepRefused → Session → Type 0
Ticks old now (Ok ticked) new =
    ((is_ended (now_of old).phase ≡ true) × (ticked ≡ record { ping = false; handler = false }) × (new ≡ old))
    ⊎ ((is_ended (now_of old).phase ≡ false) × Enters old (Tick (reading_of (now_of old) now)) new
    × (ticked ≡ record { ping = is_ping_late old.config (now_of new); handler = is_spent (now_of new).handler }))
Ticks old now (Err (StepSpent steps kept)) new = (is_ended (now_of old).phase ≡ false) × IsSpent old (Tick (reading_of (now_of old) now) ∷ []) steps kept new
Ticks old now (Err StepMemory) new = new ≡ old

-- the abort of a submission that is not done, with the error handler at rest where it is live
abbrev pub IsBusy : Meanings → Fate → Type 0
IsBusy m f = (is_live f ≡ true) × (m.handler ≢ Resting)

abbrev pub CanAbort : Meanings → Fate → Type 0
CanAbort m f = (is_done f ≡ false) × (is_live f ≡ true → m.handler ≡ Resting)

-- the entry that decided it
abbrev pub done_at : Fate → ℕ
done_at (Done outcome at) = at
done_at f = 0

abbrev pub HasFate : Session → ℕ → (Fate → Type 0) → Type 0
HasFate s id P = (t : Task) × (slice_get (now_of s).tasks id ≡ Some t) × P t.fate

abbrev pub Aborts : Session → ℕ → Result (Unit {0}) AbortRefused → Session → Type 0
Aborts old id (Ok u) new = HasFate old id (CanAbort (now_of old)) × Enters old (Abort id) new
Aborts old id (Err (Unknown submitted)) new = (length (now_of old).tasks ≤ id) × (submitted ≡ length (now_of old).tasks) × (new ≡ old)
Aborts old id (Err (TooLate at)) new = HasFate old id (λ f. (is_done f ≡ true) × (at ≡ done_at f)) × (new ≡ old)
Aborts old id (Err (AbortBusy running)) new = HasFate old id (IsBusy (now_of old)) × (running ≡ (now_of old).handler) × (new ≡ old)
Aborts old id (Err (AbortSpent steps kept)) new = HasFate old id (CanAbort (now_of old)) × IsSpent old (Abort id ∷ []) steps kept new
Aborts old id (Err AbortMemory) new = new ≡ old

-- a reset is asked for with the error handler at rest, a logout on any connection
abbrev pub Controls : (Meanings → Type 0) → (Meanings → Type 0) → Event → Session → Result (Unit {0}) ControlRefused → Session → Type 0
Controls Rests Runs e old (Ok u) new = (has_connection (now_of old).phase ≡ true) × Rests (now_of old) × Enters old e new
Controls Rests Runs e old (Err (ControlWithout phase)) new = (has_connection (now_of old).phase ≡ false) × (phase ≡ (now_of old).phase) × (new ≡ old)
Controls Rests Runs e old (Err (ControlBusy running)) new =
    (has_connection (now_of old).phase ≡ true) × Runs (now_of old) × (running ≡ (now_of old).handler) × (new ≡ old)
Controls Rests Runs e old (Err (ControlSpent steps kept)) new = (has_connection (now_of old).phase ≡ true) × Rests (now_of old) × IsSpent old (e ∷ []) steps kept new
Controls Rests Runs e old (Err ControlMemory) new = new ≡ old

abbrev pub Resets : Event → Session → Result (Unit {0}) ControlRefused → Session → Type 0
Resets e = Controls (λ m. m.handler ≡ Resting) (λ m. m.handler ≢ Resting) e

abbrev pub Leaves : Session → Result (Unit {0}) ControlRefused → Session → Type 0
Leaves = Controls (λ m. Unit {0}) (λ m. ⊥) Leave

-- all that is due is handed out; nothing makes no entry, and after the end the entries that were kept back are used
abbrev pub HandsOut : Session → ℕ → Session → Type 0
HandsOut old count new =
    ((count ≡ 0) × (new ≡ old)) ⊎ ((1 ≤ count) × (is_ended (now_of old).phase ≡ false → spent_by old (Deliver count ∷ []) ≡ None) × (new ≡ entered old (Deliver count)))

abbrev pub Delivers : Session → List Delivered → Result ℕ StepRefused → Session → List Delivered → Type 0
Delivers old before (Ok count) new after =
    (count ≡ length (due_in (now_of old).tasks)) × HandsOut old count new × (after ≡ before ++ due_in (now_of old).tasks)
Delivers old before (Err (StepSpent steps kept)) new after =
    (is_ended (now_of old).phase ≡ false) × (1 ≤ length (due_in (now_of old).tasks)) × IsSpent old (Deliver (length (due_in (now_of old).tasks)) ∷ []) steps kept new × (after ≡ before)
Delivers old before (Err StepMemory) new after = (new ≡ old) × (after ≡ before)

abbrev pub Ends : Session → End → Result (Unit {0}) AlreadyEnded → Session → Type 0
Ends old cause (Ok u) new = (is_ended (now_of old).phase ≡ false) × (new ≡ entered old (Terminate cause))
Ends old cause (Err already) new = ((now_of old).phase ≡ Ended already.cause) × (new ≡ old)
