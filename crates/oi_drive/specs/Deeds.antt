-- What a line does to a session: the entries that it adds, the text that it prints, and how it ended. A line may do several
-- things one after another; what was refused or would pass a limit of the history is followed by nothing.
use Rattle.std.specs.Prelude.{ℕ, Bool, true, false, not, ◌==◌, ◌+◌, ◌++◌, ◌&&◌, List, [], ◌∷◌, Option, Some, None, is_some, length, nat_lt, slice_get, if◌then◌else◌, suc, zero}
use Rattle.std.specs.List.{flat_map}
use Rattle.oi_base.specs.Limits.{most_pending}
use Rattle.oi_base.specs.declared.login.LoginDone.{LoginDone}
use Rattle.oi_drive.specs.declared.answer.Answer.{Answer}
use Rattle.oi_drive.specs.declared.answer.Answer.TheVariants.{Done, Refused, Outside, Spent}
use Rattle.oi_history.specs.Handling.{is_idle, is_live, is_spent}
use Rattle.oi_history.specs.Losses.{is_cause, is_ping_late}
use Rattle.oi_history.specs.Phases.{has_connection, is_ended, is_logged_in}
use Rattle.oi_history.specs.Tasks.{due_in, is_done as is_over}
use Rattle.oi_history.specs.declared.event.Event.{Event}
use Rattle.oi_history.specs.declared.event.Event.TheVariants.{Submit, PduIn, Deliver, Lost, Tick, Abort, Leave}
use Rattle.oi_history.specs.declared.fate.Delivered.{Delivered}
use Rattle.oi_history.specs.declared.phase.LostCause.{LostCause}
use Rattle.oi_history.specs.declared.phase.LostCause.TheVariants.{Broken, Ping, Handler, Asked, Cut}
use Rattle.oi_history.specs.declared.phase.Phase.{Phase}
use Rattle.oi_history.specs.declared.phase.Phase.TheVariants.{LoggedIn}
use Rattle.oi_history.specs.declared.rule.Rule.{Rule}
use Rattle.oi_history.specs.declared.task.Task.{Task}
use Rattle.oi_pdu.specs.declared.codec.Pdu.{Pdu}
use Rattle.oi_script.specs.Notices.{lost_text, stale_text, window_text}
use Rattle.oi_script.specs.Printed.{done_line, idle_text, login_text, tx_text}
use Rattle.oi_script.specs.declared.notices.Refusal.{Refusal}
use Rattle.oi_script.specs.declared.notices.Refusal.TheVariants.{Full, Unknown, TooLate, Busy, NotLoggedIn, LoggedIn as LoggedInAlready, Ended}
use Rattle.oi_scsi.specs.declared.request.Request.{Request}
use Rattle.oi_solo.specs.Calls.{login_of, reading_of, received_of, turn_of}
use Rattle.oi_solo.specs.Limits.{spent_by}
use Rattle.oi_solo.specs.Sessions.{Session, entered_all, now_of, owed_of, pending_of, sent_bytes}
use Rattle.oi_solo.specs.declared.answers.Received.{Received}
use Rattle.oi_solo.specs.declared.answers.Received.TheVariants as received
use Rattle.oi_window.specs.Numbering.{expected_of, max_of, next_of}

pub record Deed : Type 0 where
  -- the oldest first
  pub entries : List Event
  pub text : List ℕ
  pub answer : Answer

abbrev pub says : List ℕ → Deed
says text = record { entries = []; text = text; answer = Done }

abbrev pub nothing : Deed
nothing = says []

abbrev pub fails : Answer → Deed
fails answer = record { entries = []; text = []; answer = answer }

abbrev pub refuses : Refusal → Deed
refuses word = fails (Refused word)

-- entries that are made together, with their text, where they pass no limit
abbrev pub makes : Session → List Event → List ℕ → Deed
makes s es text = if is_some (spent_by s es) then fails Spent else record { entries = es; text = text; answer = Done }

-- nothing follows
abbrev pub stops : Answer → Bool
stops Done = false
stops a = true

abbrev pub joined : Deed → Deed → Deed
joined d e = record { entries = d.entries ++ e.entries; text = d.text ++ e.text; answer = e.answer }

abbrev pub if_done : Answer → Deed → Deed → Deed
if_done Done d e = joined d e
if_done a d e = d

-- a deed, and a further one behind it
abbrev pub followed : Session → Deed → (Session → Deed) → Deed
followed s d f = if_done d.answer d (f (entered_all s d.entries))

abbrev pub submits : Request → Session → Deed
submits request s =
    if is_ended (now_of s).phase then refuses Ended
    else (if nat_lt (pending_of (now_of s)) most_pending then makes s (Submit (length (now_of s).tasks) request ∷ []) [] else refuses Full)

abbrev pub logs_in : LoginDone → Session → Deed
logs_in done s =
    if is_ended (now_of s).phase then refuses Ended
    else (if has_connection (now_of s).phase then refuses LoggedInAlready
    else makes s (login_of ((now_of s).generation + 1) done ∷ []) (login_text ((now_of s).generation + 1)))

-- one transmission
abbrev pub turn_text : ℕ → Session → List Event → List ℕ
turn_text g s [] = idle_text
turn_text g s (e ∷ es) = tx_text g (sent_bytes s (turn_of s))

abbrev pub turns : ℕ → Session → Deed
turns g s = makes s (turn_of s) (turn_text g s (owed_of s))

-- behind a transmission that sent something
abbrev pub if_sent : List Event → Deed → Deed
if_sent [] d = nothing
if_sent (e ∷ es) d = d

-- the generation of the live connection
abbrev pub live_on : Phase → Option ℕ
live_on (LoggedIn g) = Some g
live_on p = None

abbrev pub on_link : Option ℕ → (ℕ → Deed) → Deed → Deed
on_link (Some g) f otherwise = f g
on_link None f otherwise = otherwise

-- up to n transmissions, until nothing is left to send; without a connection nothing is done
abbrev pub sends : ℕ → Session → Deed
sends zero s = nothing
sends (suc n) s = on_link (live_on (now_of s).phase) (λ g. followed s (turns g s) (λ t. if_sent (owed_of s) (sends n t))) nothing

-- the loss of the connection with this generation, where it is the live one and the cause holds
abbrev pub loses : ℕ → LostCause → Session → Deed
loses g cause s =
    if is_logged_in (now_of s).phase g && is_cause s.config (now_of s) cause then makes s (Lost g cause ∷ []) (lost_text g cause) else nothing

abbrev pub cuts : Session → Deed
cuts s = on_link (live_on (now_of s).phase) (λ g. loses g Cut s) (refuses NotLoggedIn)

-- what a PDU came to
abbrev pub heeds : ℕ → Received → Session → Deed
heeds g (received.Stale current) s = says (stale_text current)
heeds g (received.Broken rule) s = loses g (Broken rule) s
heeds g (received.Asked event) s = loses g (Asked event) s
heeds g received.Applied s = nothing

abbrev pub takes : ℕ → Pdu → Session → Deed
takes g pdu s = followed s (makes s (PduIn g pdu ∷ []) []) (λ t. heeds g (received_of (now_of s) (now_of t) g pdu) t)

abbrev pub takes_all : ℕ → List Pdu → Session → Deed
takes_all g [] s = nothing
takes_all g (pdu ∷ pdus) s = followed s (takes g pdu s) (λ t. takes_all g pdus t)

-- a stream that can't be followed further loses its connection, by this rule
abbrev pub ends_stream : ℕ → Option Rule → Session → Deed
ends_stream g (Some rule) s = loses g (Broken rule) s
ends_stream g None s = nothing

abbrev pub receives : ℕ → List Pdu → Option Rule → Session → Deed
receives g pdus fault s = followed s (takes_all g pdus s) (λ t. ends_stream g fault t)

-- a ping, or else an error handler, that is past its time loses the connection
abbrev pub expires : Bool → Bool → Session → Deed
expires ping handler s =
    on_link (live_on (now_of s).phase) (λ g. if ping then loses g Ping s else (if handler then loses g Handler s else nothing)) nothing

-- the clock does not go back
abbrev pub ticks : ℕ → Session → Deed
ticks now s =
    if nat_lt now (now_of s).clock then fails Outside
    else (if is_ended (now_of s).phase then nothing else followed s (makes s (Tick (reading_of (now_of s) now) ∷ []) []) (λ t. expires (is_ping_late t.config (now_of t)) (is_spent (now_of t).handler) t))

abbrev pub aborts_at : Option Task → ℕ → Session → Deed
aborts_at None id s = refuses Unknown
aborts_at (Some t) id s =
    if is_over t.fate then refuses TooLate
    else (if is_live t.fate && not (is_idle (now_of s).handler) then refuses Busy else makes s (Abort id ∷ []) [])

abbrev pub aborts : ℕ → Session → Deed
aborts id s = aborts_at (slice_get (now_of s).tasks id) id s

abbrev pub resets : Event → Session → Deed
resets e s =
    if not (has_connection (now_of s).phase) then refuses NotLoggedIn
    else (if not (is_idle (now_of s).handler) then refuses Busy else makes s (e ∷ []) [])

abbrev pub leaves : Session → Deed
leaves s = if has_connection (now_of s).phase then makes s (Leave ∷ []) [] else refuses NotLoggedIn

abbrev pub shows_window : Session → Deed
shows_window s = says (window_text (next_of (now_of s).window) (expected_of (now_of s).window) (max_of (now_of s).window))

abbrev pub due_of_session : Session → List Delivered
due_of_session s = due_in (now_of s).tasks

abbrev pub outcome_lines : ℕ → List Delivered → List ℕ
outcome_lines sid ds = flat_map (λ d. done_line sid d.id d.outcome) ds

-- all that is due is handed out; behind the end of a session no limit counts
abbrev pub hands_out_by : Bool → Session → List Delivered → Deed
hands_out_by true s due = record { entries = Deliver (length due) ∷ []; text = outcome_lines s.config.sid due; answer = Done }
hands_out_by false s due = makes s (Deliver (length due) ∷ []) (outcome_lines s.config.sid due)

abbrev pub hands_out : Session → Deed
hands_out s = if length (due_of_session s) == 0 then nothing else hands_out_by (is_ended (now_of s).phase) s (due_of_session s)
