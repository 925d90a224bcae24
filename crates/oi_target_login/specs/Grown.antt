-- What stands where memory was wanted.
use Rattle.std.specs.Prelude.{ℕ, ◌≡◌, List, length, take}

-- the bytes were only added to
abbrev pub IsGrown : List ℕ → List ℕ → Type 0
IsGrown old new = take (length old) new ≡ old
