-- Counts of faults, and numbers that a field cannot hold.
use Rattle.std.specs.Prelude.{ℕ, Bool, true, false, ◌+◌, ◌-◌, ◌^◌, ◌≤◌, min}

-- a count of faults rose; at the end of its type, where it can rise no further, it stands there
abbrev pub Rose : ℕ → ℕ → Type 0
Rose before now = min (before + 1) (2 ^ 64 - 1) ≤ now

-- a place or line as a field of 32 bits tells it: a greater one is told as the greatest
abbrev pub told : ℕ → ℕ
told n = min n (2 ^ 32 - 1)

-- the same for a field of 64 bits
abbrev pub told_long : ℕ → ℕ
told_long n = min n (2 ^ 64 - 1)

-- 1 for true, as a count takes it
abbrev pub bit : Bool → ℕ
bit true = 1
bit false = 0
