-- Lists of names, each with its value.
use Rattle.std.specs.Prelude.{◌≡◌, ℕ, Bool, false, Option, Some, None, is_some, List, [], ◌∷◌, bytes_eq, if◌then◌else◌}

-- a name and its value
abbrev pub Pair : Type 0
Pair = List ℕ × List ℕ

-- the value of a name
abbrev pub value_of : List ℕ → List Pair → Option (List ℕ)
value_of name [] = None
value_of name (p ∷ ps) = if bytes_eq name p.0 then Some p.1 else value_of name ps

-- whether the name stands there
abbrev pub has_name : List ℕ → List Pair → Bool
has_name name ps = is_some (value_of name ps)

-- the pairs with this value of the name: in its place, and a new name last
abbrev pub put : List ℕ → List ℕ → List Pair → List Pair
put name value [] = (name, value) ∷ []
put name value (p ∷ ps) = if bytes_eq name p.0 then (p.0, value) ∷ ps else p ∷ put name value ps

-- no name stands twice
abbrev pub AreOnce : List Pair → Type 0
AreOnce [] = Unit {0}
AreOnce (p ∷ ps) = (has_name p.0 ps ≡ false) × AreOnce ps
