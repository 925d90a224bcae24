-- One digit more behind the digits of a number, as the search for the end of a number takes it.
use Rattle.std.specs.Prelude.{ℕ, Option, Some, None, ◌+◌, ◌-◌, ◌*◌, ◌==◌, ◌&&◌, nat_le, if◌then◌else◌}

-- the number n, where it is from low to high
abbrev pub in_range : ℕ → ℕ → ℕ → Option ℕ
in_range low high n = if nat_le low n && nat_le n high then Some n else None

-- a digit is a number by itself; behind a number other than 0 it makes a greater one
abbrev pub with_value : ℕ → ℕ → Option ℕ → ℕ → Option ℕ
with_value low high None d = in_range low high d
with_value low high (Some v) d = if v == 0 then None else (if nat_le (10 * v + d) high then Some (10 * v + d) else None)

abbrev pub extended : ℕ → ℕ → Option ℕ → ℕ → Option ℕ
extended low high value c = if nat_le 48 c && nat_le c 57 then with_value low high value (c - 48) else None
