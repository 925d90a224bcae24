-- Serial numbers of 32 bits (RFC 1982).
use Rattle.std.specs.Prelude.{ℕ, Bool, ◌+◌, ◌-◌, ◌%◌, ◌^◌, ◌<◌, ◌&&◌, nat_lt}

-- how far b is ahead of a, going round at 2^32
abbrev pub distance : ℕ → ℕ → ℕ
distance a b = (b + 2 ^ 32 - a) % 2 ^ 32

-- a comes before b (RFC 1982, section 3.2)
abbrev pub IsBefore : ℕ → ℕ → Type 0
IsBefore a b = (0 < distance a b) × (distance a b < 2 ^ 31)

-- the same as a test
abbrev pub less : ℕ → ℕ → Bool
less a b = nat_lt 0 (distance a b) && nat_lt (distance a b) (2 ^ 31)

-- the number after a
abbrev pub successor : ℕ → ℕ
successor a = (a + 1) % 2 ^ 32

-- the number before a
abbrev pub predecessor : ℕ → ℕ
predecessor a = (a + 2 ^ 32 - 1) % 2 ^ 32
