-- Timers. Times are in milliseconds.
use Rattle.std.specs.Prelude.{ℕ, ℤ, pos, negsuc, Bool, false, ◌+◌, ◌*◌, nat_le}

-- so many seconds have gone by
abbrev pub past : ℕ → ℕ → ℕ → Bool
past since seconds now = nat_le (since + 1000 * seconds) now

-- the time for a replacement connection is over; a negative one never is
abbrev pub is_replacement_past : ℕ → ℤ → ℕ → Bool
is_replacement_past since (pos seconds) now = past since seconds now
is_replacement_past since (negsuc n) now = false
