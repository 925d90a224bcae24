-- The numbering of commands (RFC 7143, section 4.2.2.1).
use Rattle.std.specs.Prelude.{ℕ, Bool, ◌==◌, ◌||◌, if◌then◌else◌}
use Rattle.oi_base.specs.Serials.{less, predecessor, successor}
use Rattle.oi_window.specs.Raised.{raised}
use Rattle.oi_window.specs.declared.window.Window.{Window}

-- the CmdSN of the next command, and ExpCmdSN and MaxCmdSN as the target told them last
abbrev pub next_of : Window → ℕ
next_of w = w.next.0

abbrev pub expected_of : Window → ℕ
expected_of w = w.expected.0

abbrev pub max_of : Window → ℕ
max_of w = w.max.0

-- the window at the beginning of a connection
abbrev pub window_at : ℕ → ℕ → Window
window_at next max = record { next = record { 0 = next }; expected = record { 0 = next }; max = record { 0 = max } }

-- the target takes the next command
abbrev pub is_open : Window → Bool
is_open w = next_of w == max_of w || less (next_of w) (max_of w)

-- after a PDU with these ExpCmdSN and MaxCmdSN: where MaxCmdSN comes before ExpCmdSN - 1, both are ignored
abbrev pub window_after : ℕ → ℕ → Window → Window
window_after exp max w =
    if less max (predecessor exp) then w
    else record w { expected = record { 0 = raised (expected_of w) exp }; max = record { 0 = raised (max_of w) max } }

-- after a command
abbrev pub window_advanced : Window → Window
window_advanced w = record w { next = record { 0 = successor (next_of w) } }
