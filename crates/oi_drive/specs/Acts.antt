-- What an action leaves: the entries and the text of a deed, and its answer; without memory a first part of the entries.
use Rattle.std.specs.Prelude.{◌≡◌, ℕ, ◌++◌, List, [], ◌∷◌, Result, Ok, Err, take}
use Rattle.oi_base.specs.declared.memory.NoMemory.{NoMemory}
use Rattle.oi_drive.specs.Deeds.{Deed, turns}
use Rattle.oi_drive.specs.declared.answer.Answer.{Answer}
use Rattle.oi_drive.specs.declared.answer.Answer.TheVariants.{Done, Refused, Spent}
use Rattle.oi_drive.specs.declared.answer.Turn.{Turn}
use Rattle.oi_drive.specs.declared.answer.Turn.TheVariants as turn
use Rattle.oi_history.specs.declared.event.Event.{Event}
use Rattle.oi_script.specs.declared.notices.Refusal.TheVariants.{Busy, Ended, Full, NotLoggedIn, TooLate, Unknown}
use Rattle.oi_script.specs.Printed.{idle_text, tx_text}
use Rattle.oi_solo.specs.Sessions.{Session, entered_all, owed_of}
use Rattle.oi_solo.specs.declared.answers.AbortRefused.{AbortRefused}
use Rattle.oi_solo.specs.declared.answers.AbortRefused.TheVariants as abort
use Rattle.oi_solo.specs.declared.answers.ControlRefused.{ControlRefused}
use Rattle.oi_solo.specs.declared.answers.ControlRefused.TheVariants as control
use Rattle.oi_solo.specs.declared.answers.Receipt.{Receipt}
use Rattle.oi_solo.specs.declared.answers.StepRefused.{StepRefused}
use Rattle.oi_solo.specs.declared.answers.StepRefused.TheVariants as step
use Rattle.oi_solo.specs.declared.answers.SubmitRefused.{SubmitRefused}
use Rattle.oi_solo.specs.declared.answers.SubmitRefused.TheVariants as submit
use Rattle.oi_solo.specs.declared.answers.Transmit.{Transmit}
use Rattle.oi_solo.specs.declared.answers.Transmit.TheVariants as transmit

abbrev pub IsPart : List Event → Session → Session → Type 0
IsPart es old new = (count : ℕ) × (new ≡ entered_all old (take count es))

abbrev pub Does : Deed → Session → List ℕ → Result Answer NoMemory → Session → List ℕ → Type 0
Does d old before (Ok answer) new after = (new ≡ entered_all old d.entries) × (after ≡ before ++ d.text) × (answer ≡ d.answer)
Does d old before (Err e) new after = IsPart d.entries old new

-- without a text
abbrev pub DoesSilently : Deed → Session → Result Answer NoMemory → Session → Type 0
DoesSilently d old result new = Does d old [] result new []

-- one transmission: it sent something, or nothing was left to send
abbrev pub Turns : ℕ → Session → List ℕ → Result Turn NoMemory → Session → List ℕ → Type 0
Turns g old before (Ok turn.Sent) new after = ((e : Event) × (es : List Event) × (owed_of old ≡ e ∷ es)) × Does (turns g old) old before (Ok Done) new after
Turns g old before (Ok turn.Idle) new after = (owed_of old ≡ []) × Does (turns g old) old before (Ok Done) new after
Turns g old before (Ok turn.Spent) new after = Does (turns g old) old before (Ok Spent) new after
Turns g old before (Err e) new after = Does (turns g old) old before (Err e) new after

abbrev pub no_memory : NoMemory
no_memory = record {}

-- the answer to a request
abbrev pub submitted : Result Receipt SubmitRefused → Result Answer NoMemory
submitted (Ok receipt) = Ok Done
submitted (Err (submit.Ended cause)) = Ok (Refused Ended)
submitted (Err (submit.Full waiting)) = Ok (Refused Full)
submitted (Err (submit.Spent steps kept)) = Ok Spent
submitted (Err submit.Memory) = Err no_memory

-- to an abort
abbrev pub aborted : Result (Unit {0}) AbortRefused → Result Answer NoMemory
aborted (Ok u) = Ok Done
aborted (Err (abort.Unknown count)) = Ok (Refused Unknown)
aborted (Err (abort.TooLate at)) = Ok (Refused TooLate)
aborted (Err (abort.Busy running)) = Ok (Refused Busy)
aborted (Err (abort.Spent steps kept)) = Ok Spent
aborted (Err abort.Memory) = Err no_memory

-- to a reset or a logout
abbrev pub controlled : Result (Unit {0}) ControlRefused → Result Answer NoMemory
controlled (Ok u) = Ok Done
controlled (Err (control.NotLoggedIn phase)) = Ok (Refused NotLoggedIn)
controlled (Err (control.Busy running)) = Ok (Refused Busy)
controlled (Err (control.Spent steps kept)) = Ok Spent
controlled (Err control.Memory) = Err no_memory

-- what a transmission did, without its PDU, and its line
abbrev pub turned : Result Transmit StepRefused → Result Turn NoMemory
turned (Ok (transmit.Sent e)) = Ok turn.Sent
turned (Ok transmit.Idle) = Ok turn.Idle
turned (Ok (transmit.NotLoggedIn phase)) = Err no_memory
turned (Ok (transmit.Changed current)) = Err no_memory
turned (Err (step.Spent steps kept)) = Ok turn.Spent
turned (Err step.Memory) = Err no_memory

abbrev pub turn_line : Turn → ℕ → List ℕ → List ℕ
turn_line turn.Sent g bytes = tx_text g bytes
turn_line turn.Idle g bytes = idle_text
turn_line turn.Spent g bytes = []
