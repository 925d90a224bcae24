-- Pings: NOP-Outs that ask for an answer (RFC 7143, section 11.18).
use Rattle.std.specs.Prelude.{ℕ, Option, Some, None, ◌==◌, ◌&&◌, not, if◌then◌else◌}
use Rattle.oi_timers.specs.Timers.{past}
use Rattle.oi_timers.specs.declared.pings.PingDue.{PingDue}
use Rattle.oi_timers.specs.declared.pings.PingDue.TheVariants.{TimedOut, Send, Nothing}

-- what is due: an outstanding ping that is too old, or a ping after the target was silent for the interval, unless that is 0
abbrev pub ping_due : ℕ → Option ℕ → ℕ → ℕ → ℕ → PingDue
ping_due heard (Some sent) interval timeout now = if past sent timeout now then TimedOut else Nothing
ping_due heard None interval timeout now = if not (interval == 0) && past heard interval now then Send else Nothing
