-- Limits of a pair.
use Rattle.std.specs.Prelude.{ℕ}

-- the parts that a pair's seats have together
abbrev pub all_parts : ℕ
all_parts = 65536

-- entries of one half, with the numbers that were drawn for it
abbrev pub most_entries : ℕ
most_entries = 2000000
