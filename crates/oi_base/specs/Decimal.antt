-- Decimal numbers without sign and leading zeros.
use Rattle.std.specs.Prelude.{ℕ, List, ◌≡◌, ◌≤◌}
use Rattle.std.specs.Fmt.{decimal}

-- the text is the decimal number n
abbrev pub IsNumberOf : List ℕ → ℕ → Type 0
IsNumberOf text n = text ≡ decimal n

-- the text is a decimal number from low to high
abbrev pub IsNumber : ℕ → ℕ → List ℕ → Type 0
IsNumber low high text = (n : ℕ) × (low ≤ n) × (n ≤ high) × IsNumberOf text n
