-- Which records a store holds.
use Rattle.std.specs.Prelude.{◌≡◌, ◌⊎◌, ℕ, List, ◌++◌, Option, Some, None, Result, Ok, Err, codes}
use Rattle.std.specs.Cmp.Lexicographic.{slice_cmp}
use Rattle.std.specs.List.{All, Contains}
use Rattle.std.specs.Ordering.{nat_cmp}
use Rattle.std.specs.declared.cmp.Ordering.TheVariants.{Less}
use Rattle.oi_base.specs.Counts.{told}
use Rattle.oi_outside.specs.Records.{Records, lookup}
use Rattle.oi_outside.specs.Stores.{IsToldAt}
use Rattle.oi_settings.specs.Keys.{path_text}
use Rattle.oi_settings.specs.Texts.{BadLine, IsStored, Node}
use Rattle.oi_nodedb.specs.declared.error.DbError.{DbError}
use Rattle.oi_nodedb.specs.declared.error.DbError.TheVariants.{BadRecord, StoreFault, Memory}
use Rattle.oi_nodedb.specs.Databases.{Ascends}

-- the path is one of those under which node records stand
abbrev pub IsNodePath : List ℕ → Type 0
IsNodePath path = (rest : List ℕ) × (path ≡ codes "nodes/" ++ rest)

-- the text stores this record, and the path is that of its key
abbrev pub IsRecordAt : List ℕ → List ℕ → Node → Type 0
IsRecordAt path text node = (path ≡ path_text node.key) × IsStored text node

-- the records are those of the store: each has its text at its path, and each text under a path of node records is of one
pub record IsLoaded (records : Records) (nodes : List Node) : Type 0 where
  pub each : All (λ n. (text : List ℕ) × (lookup records (path_text n.key) ≡ Some text) × IsStored text n) nodes
  pub all : (path text : List ℕ) → IsNodePath path → lookup records path ≡ Some text → (n : Node) × Contains nodes n × IsRecordAt path text n

-- the text at the path is no record's, and the line is its first bad one; or, with line 0, it is that of a record with
-- another path
abbrev pub IsBadAt : List ℕ → List ℕ → ℕ → Type 0
IsBadAt path text line =
    ((at : ℕ) × (line ≡ told at) × BadLine text at) ⊎ ((line ≡ 0) × ((n : Node) × IsStored text n × (path ≡ path_text n.key → ⊥)))

-- the first path of node records with a bad text
pub record IsFirstBad (records : Records) (path : List ℕ) (line : ℕ) : Type 0 where
  pub text : List ℕ
  pub node_path : IsNodePath path
  pub there : lookup records path ≡ Some text
  pub bad : IsBadAt path text line
  pub first : (other stored : List ℕ) → IsNodePath other → slice_cmp nat_cmp other path ≡ Less → lookup records other ≡ Some stored
      → (n : Node) × IsRecordAt other stored n

-- bytes at a path were read: the record that they store, or where they are bad
abbrev pub IsReadAs : List ℕ → List ℕ → Result Node DbError → Type 0
IsReadAs path text (Ok node) = IsRecordAt path text node
IsReadAs path text (Err (BadRecord named line)) = (named ≡ path) × IsBadAt path text line
IsReadAs path text (Err Memory) = Unit {0}
IsReadAs path text (Err other) = ⊥

-- a path was read: none where it is no path of node records or has no text; no read changes the store
abbrev pub ReadsAt : List ℕ → Result (Option Node) DbError → Option Records → Option Records → Type 0
ReadsAt path (Ok None) was is = (is ≡ was) × (IsNodePath path → IsToldAt was path None)
ReadsAt path (Ok (Some node)) was is = (is ≡ was) × IsNodePath path × ((text : List ℕ) × IsRecordAt path text node × IsToldAt was path (Some text))
ReadsAt path (Err (BadRecord named line)) was is =
    (is ≡ was) × (named ≡ path) × IsNodePath path × ((text : List ℕ) × IsBadAt path text line × IsToldAt was path (Some text))
ReadsAt path (Err StoreFault) was is = is ≡ was
ReadsAt path (Err Memory) was is = is ≡ was
ReadsAt path (Err other) was is = ⊥

-- a load gives the records of the store in the order of their keys; no load changes the store
abbrev pub Loads : Result (List Node) DbError → Option Records → Option Records → Type 0
Loads (Ok nodes) was is = (is ≡ was) × Ascends nodes × ((records : Records) → was ≡ Some records → IsLoaded records nodes)
Loads (Err (BadRecord path line)) was is = (is ≡ was) × ((records : Records) → was ≡ Some records → IsFirstBad records path line)
Loads (Err StoreFault) was is = is ≡ was
Loads (Err Memory) was is = is ≡ was
Loads (Err other) was is = ⊥
