-- The database: node records in ascending order of their keys.
use Rattle.std.specs.Prelude.{ℕ, not, Option, List, [], ◌∷◌, map, filter, if◌then◌else◌}
use Rattle.std.specs.List.{find}
use Rattle.std.specs.List.Sorted.{IsStrictlySortedBy}
use Rattle.std.specs.Ordering.{is_eq, is_lt}
use Rattle.oi_outside.specs.Records.{Records}
use Rattle.oi_outside.specs.Stores.{told_with, told_without}
use Rattle.oi_settings.specs.Keys.{Key, key_cmp, path_text}
use Rattle.oi_settings.specs.Pairs.{put}
use Rattle.oi_settings.specs.Schema.{fresh_pairs}
use Rattle.oi_settings.specs.Texts.{Node, text_of}
use Rattle.oi_nodedb.specs.declared.filter.Filter.{Filter}
use Rattle.oi_nodedb.specs.Filters.{matches, matching}

abbrev pub keys_of : List Node → List Key
keys_of nodes = map (λ n. n.key) nodes

-- each key is below those behind it
abbrev pub Ascends : List Node → Type 0
Ascends nodes = IsStrictlySortedBy key_cmp (keys_of nodes)

-- the record with this key
abbrev pub record_at : Key → List Node → Option Node
record_at key nodes = find (λ n. is_eq (key_cmp n.key key)) nodes

-- the records with one more, in its place
abbrev pub with_record : Node → List Node → List Node
with_record node [] = node ∷ []
with_record node (n ∷ ns) = if is_lt (key_cmp n.key node.key) then n ∷ with_record node ns else node ∷ n ∷ ns

-- the fresh record of a key
abbrev pub fresh : Key → Node
fresh key = record { key = key; pairs = fresh_pairs key }

-- the record with this value of the name; every other name keeps its value and its place
abbrev pub with_value : List ℕ → List ℕ → Node → Node
with_value name value node = record { key = node.key; pairs = put name value node.pairs }

-- the same where the filter names the record
abbrev pub with_value_where : Filter → List ℕ → List ℕ → Node → Node
with_value_where f name value node = if matches f node.key then with_value name value node else node

-- the records after an update, and those of them that it changed
abbrev pub updated : Filter → List ℕ → List ℕ → List Node → List Node
updated f name value nodes = map (with_value_where f name value) nodes

abbrev pub changed : Filter → List ℕ → List ℕ → List Node → List Node
changed f name value nodes = map (with_value name value) (matching f nodes)

-- the records that a deletion leaves
abbrev pub left : Filter → List Node → List Node
left f nodes = filter (λ n. not (matches f n.key)) nodes

-- what is told, with the text of each record at its path
abbrev pub told_texts : Option Records → List Node → Option Records
told_texts o [] = o
told_texts o (n ∷ ns) = told_texts (told_with o (path_text n.key) (text_of n.pairs)) ns

-- what is told, with no text at the paths of the records
abbrev pub told_removed : Option Records → List Node → Option Records
told_removed o [] = o
told_removed o (n ∷ ns) = told_removed (told_without o (path_text n.key)) ns
