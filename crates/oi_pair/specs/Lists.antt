-- Lists of entries, each with its number.
use Rattle.std.specs.Prelude.{◌≡◌, ℕ, ◌+◌, ◌<◌, ◌==◌, ◌⊎◌, nat_lt, cond, List, [], ◌∷◌, ◌++◌, length}
use Rattle.oi_base.specs.Counts.{bit}

-- x is one of them
abbrev pub Has : {A : Type 0} → List A → A → Type 0
Has [] x = ⊥
Has (y ∷ ys) x = (y ≡ x) ⊎ Has ys x

-- the list begins with this one
abbrev pub StartsWith : {A : Type 0} → List A → List A → Type 0
StartsWith {A} xs front = (rest : List A) × (xs ≡ front ++ rest)

-- the longer of two lists
abbrev pub longer : {A : Type 0} → List A → List A → List A
longer xs ys = cond (nat_lt (length xs) (length ys)) ys xs

-- the numbers of entries
abbrev pub numbers_of : {E : Type 0} → List (ℕ × E) → List ℕ
numbers_of [] = []
numbers_of (e ∷ es) = e.0 ∷ numbers_of es

-- how often a number is one of these
abbrev pub times : ℕ → List ℕ → ℕ
times k [] = 0
times k (n ∷ ns) = bit (n == k) + times k ns

-- the first numbers are some of the others, in their order
abbrev pub IsPart : List ℕ → List ℕ → Type 0
IsPart [] ns = Unit {0}
IsPart (m ∷ ms) [] = ⊥
IsPart (m ∷ ms) (n ∷ ns) = ((m ≡ n) × IsPart ms ns) ⊎ IsPart (m ∷ ms) ns

-- each of them is above k
abbrev pub AllAbove : ℕ → List ℕ → Type 0
AllAbove k [] = Unit {0}
AllAbove k (n ∷ ns) = (k < n) × AllAbove k ns

-- each of them is below those behind it
abbrev pub IsRising : List ℕ → Type 0
IsRising [] = Unit {0}
IsRising (n ∷ ns) = AllAbove n ns × IsRising ns

-- an entry that has one number in both lists is the same in both
abbrev pub Agree : {E : Type 0} → List (ℕ × E) → List (ℕ × E) → Type 0
Agree {E} xs ys = (k : ℕ) (a b : E) → Has xs (k, a) → Has ys (k, b) → a ≡ b
