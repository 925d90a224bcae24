-- The course of a session: its phase, and the clock (RFC 7143, sections 7.14 and 8.1). Readings are in milliseconds.
use Rattle.std.specs.Prelude.{ℕ, ℤ, pos, negsuc, Bool, true, false, ◌==◌, if◌then◌else◌}
use Rattle.oi_history.specs.Phases.{ended_by}
use Rattle.oi_history.specs.declared.config.SessionConfig.{SessionConfig}
use Rattle.oi_history.specs.declared.event.Event.{Event}
use Rattle.oi_history.specs.declared.event.Event.TheVariants.{Login, Lost, Tick, Terminate}
use Rattle.oi_history.specs.declared.phase.Phase.{Phase}
use Rattle.oi_history.specs.declared.phase.Phase.TheVariants.{LoggedIn, Recovering, FailFast}
use Rattle.oi_timers.specs.Timers.{is_replacement_past}

-- the last reading
abbrev pub clock_step : Event → ℕ → ℕ
clock_step (Tick now) before = now
clock_step e before = before

-- no time is left for a replacement connection
abbrev pub is_at_once : ℤ → Bool
is_at_once (pos seconds) = seconds == 0
is_at_once (negsuc n) = false

abbrev pub without_connection : ℤ → ℕ → Phase
without_connection replacement now = if is_at_once replacement then FailFast now else Recovering now

-- the time for a replacement connection is over at this reading
abbrev pub is_overdue : ℤ → ℕ → Phase → Bool
is_overdue replacement now (Recovering since) = is_replacement_past since replacement now
is_overdue replacement now p = false

abbrev pub given_up : ℤ → ℕ → Phase → Phase
given_up replacement now (Recovering since) = if is_replacement_past since replacement now then FailFast since else Recovering since
given_up replacement now p = p

abbrev pub is_fail_fast : Phase → Bool
is_fail_fast (FailFast since) = true
is_fail_fast p = false

-- by the last reading before the entry
abbrev pub phase_step : SessionConfig → ℕ → Event → Phase → Phase
phase_step C now (Login generation params cmdsn max exp_stat) p = LoggedIn generation
phase_step C now (Lost generation cause) p = without_connection C.replacement now
phase_step C now (Tick reading) p = given_up C.replacement reading p
phase_step C now (Terminate cause) p = ended_by cause p
phase_step C now e p = p
