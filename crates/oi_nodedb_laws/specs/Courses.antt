-- Calls of the database in a row.
use Rattle.std.specs.Prelude.{◌≡◌, ◌++◌, ℕ, Bool, true, false, List, [], ◌∷◌, Option, None, Result, Err}
use Rattle.std.specs.List.{All}
use Rattle.oi_names.specs.declared.session_key.SessionInfo.{SessionInfo}
use Rattle.oi_outside.specs.Records.{Records}
use Rattle.oi_settings.specs.Keys.{IsKey, Key}
use Rattle.oi_settings.specs.Schema.{fresh_pairs, row_named, table}
use Rattle.oi_settings.specs.Texts.{IsLine, IsNode, Node}
use Rattle.oi_nodedb.specs.declared.error.DbError.{DbError}
use Rattle.oi_nodedb.specs.declared.error.DbError.TheVariants.{StoreFault}
use Rattle.oi_nodedb.specs.declared.filter.Filter.{Filter}
use Rattle.oi_nodedb.specs.Answers.{Adds, Deletes, Updates}
use Rattle.oi_nodedb.specs.Databases.{Ascends, fresh}

-- records as the database keeps them: in the order of their keys, each well formed
pub record IsDatabase (nodes : List Node) : Type 0 where
  pub ascends : Ascends nodes
  pub each : All (λ n. IsNode n) nodes

-- a call that may change records: what it was given, and what it answered; an update has its name and value as bytes
pub data Call : Type 0 where
  new_record : Key → Result Bool DbError → Call
  new_marked : Key → List ℕ → List ℕ → Result Bool DbError → Call
  update : Filter → List ℕ → List ℕ → Result ℕ DbError → Call
  delete : Filter → List SessionInfo → Result ℕ DbError → Call

-- the fresh record of a key, with one more pair as its last one
abbrev pub marked : Key → List ℕ → List ℕ → Node
marked key name value = record { key = key; pairs = fresh_pairs key ++ (name, value) ∷ [] }

-- the call may be given this
abbrev pub IsAllowed : Call → Type 0
IsAllowed (new_record key answer) = IsKey key
IsAllowed (new_marked key name value answer) = IsKey key × IsLine name value × (row_named name table ≡ None)
IsAllowed (update f name value answer) = Unit {0}
IsAllowed (delete f living answer) = Unit {0}

-- what the call left of the records and of what the store tells, by its answer
abbrev pub Leaves : Call → List Node → List Node → Option Records → Option Records → Type 0
Leaves (new_record key answer) old new was is = Adds (fresh key) answer old new was is
Leaves (new_marked key name value answer) old new was is = Adds (marked key name value) answer old new was is
Leaves (update f name value answer) old new was is = Updates f name value answer old new was is
Leaves (delete f living answer) old new was is = Deletes f living answer old new was is

-- the calls were made in a row, the newest one first; each began with the records and the store that the one before it left
abbrev pub Course : List Call → List Node → List Node → Option Records → Option Records → Type 0
Course [] old new was is = (new ≡ old) × (is ≡ was)
Course (c ∷ cs) old new was is = (mid : List Node) × (told : Option Records) × Course cs old mid was told × IsAllowed c × Leaves c mid new told is

-- the answer is a fault of the store
abbrev pub is_fault : {T : Type 0} → Result T DbError → Bool
is_fault (Err StoreFault) = true
is_fault other = false

abbrev pub has_fault : Call → Bool
has_fault (new_record key answer) = is_fault answer
has_fault (new_marked key name value answer) = is_fault answer
has_fault (update f name value answer) = is_fault answer
has_fault (delete f living answer) = is_fault answer

-- no call answered a fault of the store
abbrev pub NoFaults : List Call → Type 0
NoFaults [] = Unit {0}
NoFaults (c ∷ cs) = (has_fault c ≡ false) × NoFaults cs
