-- Clocks.
use Rattle.std.specs.Prelude.{ℕ, List, [], ◌∷◌, ◌++◌, ◌+◌, ◌-◌, ◌^◌, min, Option}
use Rattle.std.specs.Option.{option_map}

-- no clock reads 2^53 milliseconds
abbrev pub greatest_reading : ℕ
greatest_reading = 2 ^ 53 - 1

-- what is told of a clock's readings, with one more
abbrev pub with_reading : Option (List ℕ) → ℕ → Option (List ℕ)
with_reading o reading = option_map (λ readings. readings ++ reading ∷ []) o

-- a clock with a fixed step: its readings, the last one or 0, what it reads next, unless that is too great, and its step
pub record Steps : Type 0 where
  pub readings : List ℕ
  pub last : ℕ
  pub next : ℕ
  pub each : ℕ

-- it reads the greatest reading in place of a greater one
abbrev pub reading_of : Steps → ℕ
reading_of s = min s.next greatest_reading

abbrev pub after_reading : Steps → Steps
after_reading s = record s { readings = s.readings ++ reading_of s ∷ []; last = reading_of s; next = min (s.next + s.each) (2 ^ 64 - 1) }
