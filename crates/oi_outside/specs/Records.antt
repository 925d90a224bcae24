-- Records by path: a finite map from paths to texts, both as the bytes that they consist of.
use Rattle.std.specs.Prelude.{ℕ, Bool, List, Option}
use Rattle.std.specs.Ordering.{nat_cmp}
use Rattle.std.specs.Cmp.Lexicographic.{slice_cmp}
use Rattle.std.specs.List.Sorted.{IsStrictlySortedBy}
use Rattle.std.specs.FinMap.{FinMap, get, insert, remove, keys, contains_key}

-- each path has one text at most, and the paths stand in the order of their bytes
abbrev pub Records : Type 0
Records = FinMap (slice_cmp nat_cmp) (List ℕ)

-- the text at a path
abbrev pub lookup : Records → List ℕ → Option (List ℕ)
lookup records path = get records path

-- there is a text at the path
abbrev pub has_path : Records → List ℕ → Bool
has_path records path = contains_key records path

-- the same records, with this text at the path
abbrev pub with_path : Records → List ℕ → List ℕ → Records
with_path records path text = insert records path text

-- the same records, with none at the path
abbrev pub without_path : Records → List ℕ → Records
without_path records path = remove records path

-- the paths that have a text, in ascending order
abbrev pub paths : Records → List (List ℕ)
paths records = keys records

-- each path is below those behind it, by the order of their bytes
abbrev pub Ascends : List (List ℕ) → Type 0
Ascends found = IsStrictlySortedBy (slice_cmp nat_cmp) found
