-- What calls enter is permitted.
use Rattle.oi_session_laws.specs.Stays.{fate_at}
use Rattle.std.proofs.Common.{◌≡◌, ◌≤◌, ◌<◌, ◌+◌, ◌^◌, ◌∙◌, ℕ, suc, zero, Bool, true, false, Option, Some, None, List, [], ◌∷◌, length, slice_get, ap, sym, refl, arith}
use Rattle.std.proofs.lemmas.Bool.{true≢false}
use Rattle.oi_history.specs.Courses.{clock_step}
use Rattle.oi_history.specs.Handling.{is_live}
use Rattle.oi_history.specs.Histories.{IsAbove}
use Rattle.oi_history.specs.Losses.{is_cause}
use Rattle.oi_history.specs.Meanings.{Meanings, meanings}
use Rattle.oi_history.specs.Permitted.{ArePermitted, GoesOn, IsPermitted}
use Rattle.oi_history.specs.Phases.{has_connection, is_ended, is_logged_in}
use Rattle.oi_history.specs.Tasks.{due_in, is_done}
use Rattle.oi_history.specs.declared.config.SessionConfig.{SessionConfig}
use Rattle.oi_history.specs.declared.event.Event.{Event}
use Rattle.oi_history.specs.declared.event.Event.TheVariants.{Submit, PduIn, Deliver, Lost, Tick, Abort, ResetLun, ResetTarget, Leave, Terminate}
use Rattle.oi_history.specs.declared.event.Numbered.{Numbered}
use Rattle.oi_history.specs.declared.fate.Fate.{Fate}
use Rattle.oi_history.specs.declared.phase.End.{End}
use Rattle.oi_history.specs.declared.phase.Handler.TheVariants.{Idle}
use Rattle.oi_history.specs.declared.phase.LostCause.{LostCause}
use Rattle.oi_history.specs.declared.phase.Phase.{Phase}
use Rattle.oi_history.specs.declared.phase.Phase.TheVariants.{First, LoggedIn, Recovering, FailFast, Ended}
use Rattle.oi_history.specs.declared.task.Task.{Task}
use Rattle.oi_base.specs.declared.login.LoginDone.{LoginDone}
use Rattle.oi_pdu.specs.declared.codec.Pdu.{Pdu}
use Rattle.oi_scsi.specs.Requests.{IsValid}
use Rattle.oi_scsi.specs.declared.request.Request.{Request}
use Rattle.oi_session_laws.proofs.Ends.{all_done_after_end}
use Rattle.oi_solo.specs.Calls.{CanAbort, HasFate, login_of, reading_of}
use Rattle.oi_solo.specs.Cores.{IsNumbered, next_entry}
use Rattle.oi_solo.specs.Sessions.{Session, now_of}

pub above : (H : List Numbered) → IsNumbered H → IsAbove (length H) H
above [] n = tt
above (x ∷ H) n = omega (arith, n.0)

pub submit_allowed : (s : Session) (id : ℕ) (request : Request) → IsNumbered s.history → id ≡ length (now_of s).tasks → IsValid request.kind → is_ended (now_of s).phase ≡ false
    → IsPermitted s.config s.history (next_entry s (Submit id request))
submit_allowed s id request n is valid going =
    record { ascends = above s.history n; comes = (is, valid, going); command = tt; numbered = tt; tagged = tt; pushed = tt; released = tt; drawn = tt; owed = tt; ticks = tt; lost = tt; login = tt; handed = tt; heeded = tt; behind = going }

pub pdu_allowed : (s : Session) (generation : ℕ) (pdu : Pdu) → IsNumbered s.history → IsPermitted s.config s.history (next_entry s (PduIn generation pdu))
pdu_allowed s generation pdu n =
    record { ascends = above s.history n; comes = tt; command = tt; numbered = tt; tagged = tt; pushed = tt; released = tt; drawn = tt; owed = tt; ticks = tt; lost = tt; login = tt; handed = tt; heeded = tt; behind = tt }

pub deliver_allowed : (s : Session) (count : ℕ) → IsNumbered s.history → count ≡ length (due_in (now_of s).tasks) → 1 ≤ count → IsPermitted s.config s.history (next_entry s (Deliver count))
deliver_allowed s count n is some =
    record { ascends = above s.history n; comes = tt; command = tt; numbered = tt; tagged = tt; pushed = tt; released = tt; drawn = tt; owed = tt; ticks = tt; lost = tt; login = tt; handed = (is, some); heeded = tt; behind = tt }

pub login_allowed : (s : Session) (generation : ℕ) (done : LoginDone) → IsNumbered s.history → generation ≡ (now_of s).generation + 1 → 1 ≤ done.params.max_send → has_connection (now_of s).phase ≡ false → is_ended (now_of s).phase ≡ false
    → IsPermitted s.config s.history (next_entry s (login_of generation done))
login_allowed s generation done n is takes without going =
    record { ascends = above s.history n; comes = tt; command = tt; numbered = tt; tagged = tt; pushed = tt; released = tt; drawn = tt; owed = tt; ticks = tt; lost = tt; login = (is, takes, without, going); handed = tt; heeded = tt; behind = going }

-- a session with a connection goes on
pub connected_goes : (p : Phase) → has_connection p ≡ true → is_ended p ≡ false
connected_goes (LoggedIn g) on = refl
connected_goes First on = absurd cc
connected_goes (Recovering since) on = absurd cc
connected_goes (FailFast since) on = absurd cc
connected_goes (Ended cause) on = absurd cc

pub live_goes : (p : Phase) (g : ℕ) → is_logged_in p g ≡ true → is_ended p ≡ false
live_goes (LoggedIn live) g on = refl
live_goes First g on = absurd cc
live_goes (Recovering since) g on = absurd cc
live_goes (FailFast since) g on = absurd cc
live_goes (Ended cause) g on = absurd cc

pub lost_allowed : (s : Session) (generation : ℕ) (cause : LostCause) → IsNumbered s.history → is_logged_in (now_of s).phase generation ≡ true → is_cause s.config (now_of s) cause ≡ true
    → IsPermitted s.config s.history (next_entry s (Lost generation cause))
lost_allowed s generation cause n on holds =
    record { ascends = above s.history n; comes = tt; command = tt; numbered = tt; tagged = tt; pushed = tt; released = tt; drawn = tt; owed = tt; ticks = tt; lost = (on, holds); login = tt; handed = tt; heeded = tt; behind = live_goes (now_of s).phase generation on }

pub tick_allowed : (s : Session) (now : ℕ) → IsNumbered s.history → (now_of s).clock ≤ now → now < 2 ^ 53 → is_ended (now_of s).phase ≡ false → IsPermitted s.config s.history (next_entry s (Tick now))
tick_allowed s now n on below going =
    record { ascends = above s.history n; comes = tt; command = tt; numbered = tt; tagged = tt; pushed = tt; released = tt; drawn = tt; owed = tt; ticks = (on, below); lost = tt; login = tt; handed = tt; heeded = tt; behind = going }

pub abort_allowed : (s : Session) (id : ℕ) (t : Task) → IsNumbered s.history → slice_get (now_of s).tasks id ≡ Some t → is_done t.fate ≡ false → (is_live t.fate ≡ true → (now_of s).handler ≡ Idle) → is_ended (now_of s).phase ≡ false
    → IsPermitted s.config s.history (next_entry s (Abort id))
abort_allowed s id t n at open-yet rests going =
    record { ascends = above s.history n; comes = tt; command = tt; numbered = tt; tagged = tt; pushed = tt; released = tt; drawn = tt; owed = tt; ticks = tt; lost = tt; login = tt; handed = tt; heeded = (t, at, open-yet, rests); behind = going }

-- a session with a submission that is not done goes on

fate_from : (ts : List Task) (id : ℕ) (t : Task) → slice_get ts id ≡ Some t → fate_at id ts ≡ Some t.fate
fate_from [] id t at = absurd cc
fate_from (x ∷ ts) zero t at = ap (λ (o : Option Task). fate_in o) at
  where
    fate_in : Option Task → Option Fate
    fate_in (Some u) = Some u.fate
    fate_in None = None
fate_from (x ∷ ts) (suc id) t at = fate_from ts id t at

goes_or_not : (s : Session) (b : Bool) (id : ℕ) (t : Task) → is_ended (now_of s).phase ≡ b → ArePermitted s.config s.history → slice_get (now_of s).tasks id ≡ Some t → is_done t.fate ≡ false → is_ended (now_of s).phase ≡ false
goes_or_not s false id t is legal at open-yet = is
goes_or_not s true id t is legal at open-yet = absurd (true≢false (sym (all_done_after_end s.config s.history legal is id t.fate (fate_from (now_of s).tasks id t at)) ∙ open-yet))

pub open_goes : (s : Session) (id : ℕ) → ArePermitted s.config s.history → HasFate s id (CanAbort (now_of s)) → is_ended (now_of s).phase ≡ false
open_goes s id legal (t, at, can) = goes_or_not s (is_ended (now_of s).phase) id t refl legal at can.0

pub aborts : (s : Session) (id : ℕ) → ArePermitted s.config s.history → IsNumbered s.history → HasFate s id (CanAbort (now_of s)) → IsPermitted s.config s.history (next_entry s (Abort id))
aborts s id legal n (t, at, can) = abort_allowed s id t n at can.0 can.1 (open_goes s id legal (t, at, can))

-- readings are small

clock_step_below : (m : Meanings) (e : Event) → GoesOn m e → m.clock < 2 ^ 53 → clock_step e m.clock < 2 ^ 53
clock_step_below m (Tick now) goes below = goes.1
clock_step_below m e goes below = below

clock_below : (C : SessionConfig) (H : List Numbered) → ArePermitted C H → (meanings C H).clock < 2 ^ 53
clock_below C [] legal = omega arith
clock_below C (n ∷ H) legal = clock_step_below (meanings C H) n.event legal.0.ticks (clock_below C H legal.1)

pub ticks : (s : Session) (now : ℕ) → ArePermitted s.config s.history → IsNumbered s.history → now < 2 ^ 53 → is_ended (now_of s).phase ≡ false
    → IsPermitted s.config s.history (next_entry s (Tick (reading_of (now_of s) now)))
ticks s now legal n below going = let clock = clock_below s.config s.history legal in tick_allowed s (reading_of (now_of s) now) n (omega (arith, clock)) (omega (arith, clock, below)) going

pub lun_allowed : (s : Session) (lun : ℕ) → IsNumbered s.history → has_connection (now_of s).phase ≡ true → (now_of s).handler ≡ Idle → IsPermitted s.config s.history (next_entry s (ResetLun lun))
lun_allowed s lun n on rests =
    record { ascends = above s.history n; comes = tt; command = tt; numbered = tt; tagged = tt; pushed = tt; released = tt; drawn = tt; owed = tt; ticks = tt; lost = tt; login = tt; handed = tt; heeded = (on, rests); behind = connected_goes (now_of s).phase on }

pub target_allowed : (s : Session) → IsNumbered s.history → has_connection (now_of s).phase ≡ true → (now_of s).handler ≡ Idle → IsPermitted s.config s.history (next_entry s ResetTarget)
target_allowed s n on rests =
    record { ascends = above s.history n; comes = tt; command = tt; numbered = tt; tagged = tt; pushed = tt; released = tt; drawn = tt; owed = tt; ticks = tt; lost = tt; login = tt; handed = tt; heeded = (on, rests); behind = connected_goes (now_of s).phase on }

pub leave_allowed : (s : Session) → IsNumbered s.history → has_connection (now_of s).phase ≡ true → IsPermitted s.config s.history (next_entry s Leave)
leave_allowed s n on =
    record { ascends = above s.history n; comes = tt; command = tt; numbered = tt; tagged = tt; pushed = tt; released = tt; drawn = tt; owed = tt; ticks = tt; lost = tt; login = tt; handed = tt; heeded = on; behind = connected_goes (now_of s).phase on }

pub end_allowed : (s : Session) (cause : End) → IsNumbered s.history → is_ended (now_of s).phase ≡ false → IsPermitted s.config s.history (next_entry s (Terminate cause))
end_allowed s cause n going =
    record { ascends = above s.history n; comes = tt; command = tt; numbered = tt; tagged = tt; pushed = tt; released = tt; drawn = tt; owed = tt; ticks = tt; lost = tt; login = tt; handed = tt; heeded = tt; behind = going }
