-- Grammars put together from smaller ones.
use Rattle.std.specs.Prelude.{◌≡◌, ◌≤◌, ◌⊎◌, ℕ, Bool, true, List, ◌∷◌, ◌++◌, length}
use Rattle.std.specs.List.{list_all}

-- from low to high bytes that pass a test
abbrev pub IsRun : (ℕ → Bool) → ℕ → ℕ → List ℕ → Type 0
IsRun passes low high text = (low ≤ length text) × (length text ≤ high) × (list_all passes text ≡ true)

-- a fixed text, then a word of G
abbrev pub IsLed : List ℕ → (List ℕ → Type 0) → List ℕ → Type 0
IsLed head G text = (rest : List ℕ) × (text ≡ head ++ rest) × G rest

-- a word of A, the byte c, a word of B
abbrev pub IsJoined : (List ℕ → Type 0) → ℕ → (List ℕ → Type 0) → List ℕ → Type 0
IsJoined A c B text = (front : List ℕ) × (back : List ℕ) × (text ≡ front ++ c ∷ back) × A front × B back

-- a word of A or of B
abbrev pub IsEither : (List ℕ → Type 0) → (List ℕ → Type 0) → List ℕ → Type 0
IsEither A B text = A text ⊎ B text

-- a word of A, behind which the byte c and a word of B may stand
abbrev pub IsExtended : (List ℕ → Type 0) → ℕ → (List ℕ → Type 0) → List ℕ → Type 0
IsExtended A c B = IsEither A (IsJoined A c B)
