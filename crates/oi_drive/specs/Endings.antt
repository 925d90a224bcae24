-- What a run of `drive` comes to: why it ended, its status, its last text.
use Rattle.std.specs.Prelude.{◌≡◌, ◌⊎◌, ◌==◌, ◌||◌, ℕ, Bool, false, true, ◌++◌, List, [], ◌∷◌, take, Option, Some, None, pos, if◌then◌else◌}
use Rattle.std.specs.List.{list_any}
use Rattle.oi_base.specs.Counts.{Rose}
use Rattle.oi_drive.specs.declared.runner.Broken.{Broken}
use Rattle.oi_drive.specs.declared.runner.Broken.TheVariants.{Memory, Read, Write}
use Rattle.oi_drive.specs.Parts.{BrokeOff}
use Rattle.oi_drive.specs.Requests.{fed_requests, input_requests, line_request, requests_in}
use Rattle.oi_drive.specs.Deeds.{hands_out}
use Rattle.oi_drive.specs.Worlds.{World, feed, input_text, input_world, one_more, unused}
use Rattle.oi_drive.specs.declared.runner.Stop.{Stop}
use Rattle.oi_drive.specs.declared.runner.Stop.TheVariants.{Asked, InputEnd, BadLine, Full}
use Rattle.oi_history.specs.Permitted.{ArePermitted}
use Rattle.oi_history.specs.Phases.{is_ended}
use Rattle.oi_history.specs.declared.config.SessionConfig.{SessionConfig}
use Rattle.oi_history.specs.declared.event.Event.TheVariants.{Terminate}
use Rattle.oi_history.specs.declared.phase.End.{End}
use Rattle.oi_history.specs.declared.phase.End.TheVariants.{Asked as ByLine, InputEnd as ByInput, Stopped}
use Rattle.oi_outside.specs.Streams.{IsFront, behind}
use Rattle.oi_script.specs.Printed.{fault_text}
use Rattle.oi_solo.specs.Sessions.{RunView, Session, entered, entered_all, now_of, run_of}

-- the settings of the replayed session, where no line gives others
abbrev pub drive_config : SessionConfig
drive_config = record {
  sid = 1;
  tries = 6;
  replacement = pos 120;
  noop_interval = 5;
  noop_timeout = 5;
  abort = 15;
  lun_reset = 30;
  target_reset = 30;
  logout = 15;
  cmds_max = 128;
  steps = 1000000;
  kept = 134217728;
  queue_depth = 1024;
  count_disrupted = true;
}

abbrev pub first_world : World
first_world = record { session = unused drive_config; links = []; begun = false; refused = false; part = []; line = 0; stop = None }

-- the end of the session; one that has ended stays as it is
abbrev pub terminated : End → Session → Session
terminated cause s = if is_ended (now_of s).phase then s else entered s (Terminate cause)

-- all that is due handed out behind it
abbrev pub closed_by : End → Session → Session
closed_by cause s = entered_all (terminated cause s) (hands_out (terminated cause s)).entries

abbrev pub closing_text : End → Session → List ℕ
closing_text cause s = (hands_out (terminated cause s)).text

abbrev pub cause_of : Option Stop → End
cause_of (Some Asked) = ByLine
cause_of (Some InputEnd) = ByInput
cause_of (Some (BadLine line)) = Stopped 7
cause_of (Some (Full line)) = Stopped 34
cause_of None = ByInput

-- a status that stopped the run comes before that of a refused line
abbrev pub status_of : Option Stop → Bool → ℕ
status_of (Some (BadLine line)) refused = 7
status_of (Some (Full line)) refused = 34
status_of o refused = if refused then 35 else 0

abbrev pub stop_text : Option Stop → List ℕ
stop_text (Some (BadLine line)) = fault_text 7 line
stop_text (Some (Full line)) = fault_text 34 line
stop_text o = []

-- what is printed behind the last line
abbrev pub end_text : World → List ℕ
end_text w = closing_text (cause_of w.stop) w.session ++ stop_text w.stop

-- the status of a run that broke
abbrev pub broken_status : Broken → ℕ
broken_status Memory = 3
broken_status Read = 30
broken_status Write = 31

-- the statuses of a replay
abbrev pub statuses : List ℕ
statuses = 0 ∷ 3 ∷ 7 ∷ 30 ∷ 31 ∷ 34 ∷ 35 ∷ []

abbrev pub is_status : ℕ → Bool
is_status status = list_any (λ s. s == status) statuses

-- the statuses behind which a failure of the last print shows
abbrev pub is_mild : ℕ → Bool
is_mild status = status == 0 || status == 35

-- behind a last print the status is that of the run; or 31, where that one is 0 or 35 and the sink failed
abbrev pub IsShown : ℕ → ℕ → ℕ → ℕ → Type 0
IsShown status0 status sink0 sink = (status ≡ status0) ⊎ ((status ≡ 31) × (is_mild status0 ≡ true) × Rose sink0 sink)

-- a last text was printed, or its print failed: that shows only in a status that was 0 or 35
pub record PutsOut (text : List ℕ) (status0 status : ℕ) (held0 held : Option (List ℕ)) (sink0 sink : ℕ) : Type 0 where
  pub exact : (Rose sink0 sink → ⊥) → (held ≡ behind held0 text) × (status ≡ status0)
  pub write : status ≡ 31 → Rose sink0 sink
  pub clean : status ≡ 0 → sink ≡ sink0
  pub refused : status ≡ 35 → sink ≡ sink0
  pub others : (n : ℕ) → status ≡ n → (n ≡ 31 → ⊥) → n ≡ status0

-- the end was entered, and what was due handed out behind it or not
abbrev pub IsEndedBy : End → Session → Session → Type 0
IsEndedBy cause old now = (now ≡ terminated cause old) ⊎ (now ≡ closed_by cause old)

-- what is left of a run whose input was read
pub record Closes (w0 : World) (session : Session) (status : ℕ) (held0 held : Option (List ℕ)) (sink0 sink : ℕ) : Type 0 where
  pub session_is : (status ≡ 3 → ⊥) → session ≡ closed_by (cause_of w0.stop) w0.session
  pub text : (Rose sink0 sink → ⊥) → (status ≡ 3 → ⊥) → held ≡ behind held0 (end_text w0)
  pub status_is : (Rose sink0 sink → ⊥) → (status ≡ 3 → ⊥) → status ≡ status_of w0.stop w0.refused
  pub fatal : (status ≡ 3 → ⊥) → (status_of w0.stop w0.refused ≡ 0 → ⊥) → (status_of w0.stop w0.refused ≡ 35 → ⊥) → status ≡ status_of w0.stop w0.refused
  pub others : (status ≡ 3 → ⊥) → (status ≡ 31 → ⊥) → status ≡ status_of w0.stop w0.refused
  pub read : status ≡ 30 → ⊥
  pub write : status ≡ 31 → Rose sink0 sink
  pub clean : status ≡ 0 → sink ≡ sink0
  pub refused : status ≡ 35 → sink ≡ sink0

-- what of its end stands, whatever failed
pub record ClosesPartly (w0 : World) (session : Session) (held0 held : Option (List ℕ)) : Type 0 where
  pub entries : IsEndedBy (cause_of w0.stop) w0.session session
  pub front : IsFront (end_text w0) held0 held

-- the last text of a run that broke; to a sink that failed nothing more is written
abbrev pub broken_text : Broken → World → List ℕ
broken_text Write w = []
broken_text b w = closing_text (Stopped (broken_status b)) w.session ++ fault_text (broken_status b) (one_more w.line)

-- what is left of a run that broke
pub record ClosesBroken (b : Broken) (w0 : World) (session : Session) (status : ℕ) (held0 held : Option (List ℕ)) (sink0 sink : ℕ) : Type 0 where
  pub entries : IsEndedBy (Stopped (broken_status b)) w0.session session
  pub front : IsFront (broken_text b w0) held0 held
  pub text : b ≡ Read → (Rose sink0 sink → ⊥) → (status ≡ 3 → ⊥) → held ≡ behind held0 (broken_text b w0)

-- the run, the text and the status that the input bytes give
abbrev pub drive_world : List ℕ → World
drive_world bytes = input_world first_world bytes

abbrev pub drive_run : List ℕ → RunView
drive_run bytes = run_of (closed_by (cause_of (drive_world bytes).stop) (drive_world bytes).session)

abbrev pub drive_text : List ℕ → List ℕ
drive_text bytes = input_text first_world bytes ++ end_text (drive_world bytes)

abbrev pub drive_status : List ℕ → ℕ
drive_status bytes = status_of (drive_world bytes).stop (drive_world bytes).refused

-- a run of a legal history that ended
pub record IsEndedRun (r : RunView) : Type 0 where
  pub session : Session
  pub is : r ≡ run_of session
  pub legal : ArePermitted session.config session.history
  pub ended : is_ended (now_of session).phase ≡ true

abbrev pub AreEnded : List RunView → Type 0
AreEnded [] = Unit {0}
AreEnded (r ∷ rs) = IsEndedRun r × AreEnded rs

-- where the source tells its bytes, no call of it or of the sink failed and memory was there, all is as the bytes say
pub record IsDrive (bytes : List ℕ) (status : ℕ) (runs : List RunView) (held0 held : Option (List ℕ)) : Type 0 where
  pub run : runs ≡ drive_run bytes ∷ []
  pub text : held ≡ behind held0 (drive_text bytes)
  pub status_is : status ≡ drive_status bytes

-- a status shows its cause
pub record HasCause (status source0 source sink0 sink : ℕ) : Type 0 where
  pub read : status ≡ 30 → Rose source0 source
  pub write : status ≡ 31 → Rose sink0 sink
  pub clean : status ≡ 0 → (source ≡ source0) × (sink ≡ sink0)
  pub refused : status ≡ 35 → (source ≡ source0) × (sink ≡ sink0)

-- a run that read its whole input: its submissions are its lines', and the text of all its lines is held; where its end broke, a part of
-- its last entries and a front of its last text stand. Only a failure of this last text changes its status
pub record IsReadWhole (left0 : Option (List ℕ)) (session : Session) (status : ℕ) (held0 held : Option (List ℕ)) (source0 source sink0 sink : ℕ) : Type 0 where
  pub entries : (bytes : List ℕ) → left0 ≡ Some bytes → IsEndedBy (cause_of (drive_world bytes).stop) (drive_world bytes).session session
  pub requests : (bytes : List ℕ) → left0 ≡ Some bytes → requests_in session.history ≡ input_requests first_world bytes
  pub text : (bytes : List ℕ) → left0 ≡ Some bytes → IsFront (end_text (drive_world bytes)) (behind held0 (input_text first_world bytes)) held
  pub status_is : (bytes : List ℕ) → left0 ≡ Some bytes → (status ≡ 3 → ⊥) → IsShown (drive_status bytes) status sink0 sink
  pub source_same : source ≡ source0

-- why a run broke off
abbrev pub FailedBy : Broken → ℕ → ℕ → ℕ → ℕ → ℕ → Type 0
FailedBy Read status source0 source sink0 sink = Rose source0 source
FailedBy Write status source0 source sink0 sink = Rose sink0 sink × (source ≡ source0)
FailedBy Memory status source0 source sink0 sink = (status ≡ 3) × (source ≡ source0)

-- a run that broke off: the lines before decide their entries and their text, of the next one a part stands, then its end
pub record IsReadPartly (broken : Broken) (left0 left : Option (List ℕ)) (session : Session) (status : ℕ) (held0 held : Option (List ℕ)) (source0 source sink0 sink : ℕ) : Type 0 where
  pub before : World
  pub printed : Option (List ℕ)
  pub broke : BrokeOff broken left0 left first_world before held0 printed
  pub entries : IsEndedBy (Stopped (broken_status broken)) before.session session
  pub requests : (count : ℕ) × (requests_in session.history ≡ fed_requests first_world broke.fed ++ take count (line_request (feed first_world broke.fed)))
  pub front : IsFront (broken_text broken before) printed held
  pub text : broken ≡ Read → (Rose sink0 sink → ⊥) → (status ≡ 3 → ⊥) → held ≡ behind printed (broken_text broken before)
  pub cause : FailedBy broken status source0 source sink0 sink
  pub status_is : (status ≡ 3 → ⊥) → status ≡ broken_status broken

-- what a run left, whatever failed
abbrev pub IsLeftBy : Option Broken → Option (List ℕ) → Option (List ℕ) → Session → ℕ → Option (List ℕ) → Option (List ℕ) → ℕ → ℕ → ℕ → ℕ → Type 0
IsLeftBy None left0 left session status held0 held source0 source sink0 sink = IsReadWhole left0 session status held0 held source0 source sink0 sink
IsLeftBy (Some b) left0 left session status held0 held source0 source sink0 sink = IsReadPartly b left0 left session status held0 held source0 source sink0 sink

pub record IsLeft (left0 left : Option (List ℕ)) (session : Session) (status : ℕ) (held0 held : Option (List ℕ)) (source0 source sink0 sink : ℕ) : Type 0 where
  pub broken : Option Broken
  pub by : IsLeftBy broken left0 left session status held0 held source0 source sink0 sink

-- of each session that was opened
abbrev pub AreLeft : Option (List ℕ) → Option (List ℕ) → List RunView → ℕ → Option (List ℕ) → Option (List ℕ) → ℕ → ℕ → ℕ → ℕ → Type 0
AreLeft left0 left [] status held0 held source0 source sink0 sink = Unit {0}
AreLeft left0 left (r ∷ rs) status held0 held source0 source sink0 sink =
    (session : Session) × (r ≡ run_of session) × IsLeft left0 left session status held0 held source0 source sink0 sink
