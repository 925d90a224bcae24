-- The phase of a session (RFC 7143, section 8.3), and the generation of its connection.
use Rattle.std.specs.Prelude.{ℕ, Bool, true, false, ◌==◌}
use Rattle.oi_history.specs.declared.event.Event.{Event}
use Rattle.oi_history.specs.declared.event.Event.TheVariants.{Login}
use Rattle.oi_history.specs.declared.phase.End.{End}
use Rattle.oi_history.specs.declared.phase.Phase.{Phase}
use Rattle.oi_history.specs.declared.phase.Phase.TheVariants.{LoggedIn, Ended}

-- an end is for good, and a first cause stays
abbrev pub ended_by : End → Phase → Phase
ended_by cause (Ended first) = Ended first
ended_by cause p = Ended cause

abbrev pub generation_after : Event → ℕ → ℕ
generation_after (Login generation params cmdsn max exp_stat) g = generation
generation_after e g = g

abbrev pub is_ended : Phase → Bool
is_ended (Ended cause) = true
is_ended p = false

-- in the full feature phase of some connection
abbrev pub has_connection : Phase → Bool
has_connection (LoggedIn generation) = true
has_connection p = false

-- in the full feature phase of this connection
abbrev pub is_logged_in : Phase → ℕ → Bool
is_logged_in (LoggedIn generation) g = generation == g
is_logged_in p g = false
