-- Where a text leaves a grammar: the length of its longest front with which some word of the grammar begins.
use Rattle.std.specs.Prelude.{ℕ, List, ◌++◌, ◌<◌, ◌≤◌, length, take}

-- some word of the grammar begins so
abbrev pub Begins : (List ℕ → Type 0) → List ℕ → Type 0
Begins G front = (rest : List ℕ) × G (front ++ rest)

-- the place at which the text leaves the grammar
pub record IsPlace (G : List ℕ → Type 0) (text : List ℕ) (place : ℕ) : Type 0 where
  pub within : place ≤ length text
  pub begins : Begins G (take place text)
  pub longest : (n : ℕ) → place < n → n ≤ length text → Begins G (take n text) → ⊥
