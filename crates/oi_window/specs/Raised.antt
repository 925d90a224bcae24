-- Serial numbers that only rise.
use Rattle.std.specs.Prelude.{ℕ, if◌then◌else◌}
use Rattle.oi_base.specs.Serials.{less}

-- a number that only rises: what is kept once a number was told
abbrev pub raised : ℕ → ℕ → ℕ
raised kept told = if less kept told then told else kept
