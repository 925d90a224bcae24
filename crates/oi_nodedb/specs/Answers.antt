-- What the calls of the database leave in the value and in the store, and what their answers mean.
use Rattle.std.specs.Prelude.{◌≡◌, ◌<◌, ℕ, Bool, true, false, List, [], ◌∷◌, ◌++◌, ◌⊎◌, Option, Some, None, IsSome, Result, Ok, Err, length}
use Rattle.oi_base.specs.Counts.{Rose, told}
use Rattle.oi_names.specs.declared.session_key.SessionInfo.{SessionInfo}
use Rattle.oi_outside.specs.Records.{Records}
use Rattle.oi_outside.specs.Stores.{Puts, Removes, told_with}
use Rattle.oi_outside.specs.declared.store_error.StoreError.{StoreError}
use Rattle.oi_outside.specs.declared.store_error.StoreError.TheVariants.{Failed as StoreFailed, Memory as StoreMemory}
use Rattle.oi_settings.specs.Keys.{path_text}
use Rattle.oi_settings.specs.Schema.{Takes, is_open, table}
use Rattle.oi_settings.specs.Texts.{Node, text_of}
use Rattle.oi_nodedb.specs.declared.error.DbError.{DbError}
use Rattle.oi_nodedb.specs.declared.error.DbError.TheVariants.{BadName, BadValue, NoObjects, InUse, StoreFault, Memory}
use Rattle.oi_nodedb.specs.declared.filter.Filter.{Filter}
use Rattle.oi_nodedb.specs.Filters.{in_use, matches, matching}
use Rattle.oi_nodedb.specs.Databases.{changed, left, record_at, told_removed, told_texts, updated, with_record, with_value}

-- the answer that a fault of the store gives
abbrev pub answer_of : StoreError → DbError
answer_of StoreFailed = StoreFault
answer_of StoreMemory = Memory

-- the store's count of faults rose exactly where the answer is its fault
abbrev pub IsCounted : {T : Type 0} → Result T DbError → ℕ → ℕ → Type 0
IsCounted (Err StoreFault) before now = Rose before now
IsCounted other before now = now ≡ before

-- neither the records nor what the store tells changed
abbrev pub IsSame : List Node → List Node → Option Records → Option Records → Type 0
IsSame old new was is = (new ≡ old) × (is ≡ was)

-- a record of a new key comes into its place and its text to its path; where a record has the key, nothing changes
abbrev pub Adds : Node → Result Bool DbError → List Node → List Node → Option Records → Option Records → Type 0
Adds node (Ok true) old new was is = (record_at node.key old ≡ None) × (new ≡ with_record node old) × (is ≡ told_with was (path_text node.key) (text_of node.pairs))
Adds node (Ok false) old new was is = IsSome (record_at node.key old) × IsSame old new was is
Adds node (Err StoreFault) old new was is = (record_at node.key old ≡ None) × (new ≡ old) × ((is ≡ was) ⊎ (is ≡ told_with was (path_text node.key) (text_of node.pairs)))
Adds node (Err Memory) old new was is = IsSame old new was is
Adds node (Err other) old new was is = ⊥

-- an update stopped at a record, whose text the store did not take: those before it are changed
pub record StopsUpdate (f : Filter) (name value : List ℕ) (e : StoreError) (old new : List Node) (was is : Option Records) : Type 0 where
  pub front : List Node
  pub node : Node
  pub behind : List Node
  pub whole : old ≡ front ++ node ∷ behind
  pub named : matches f node.key ≡ true
  pub value_is : new ≡ updated f name value front ++ node ∷ behind
  pub store : Puts (Err e) (path_text node.key) (text_of (with_value name value node).pairs) (told_texts was (changed f name value front)) is

-- an update goes through the records in order
abbrev pub Changes : Filter → List ℕ → List ℕ → Result (Unit {0}) StoreError → List Node → List Node → Option Records → Option Records → Type 0
Changes f name value (Ok x) old new was is = (new ≡ updated f name value old) × (is ≡ told_texts was (changed f name value old))
Changes f name value (Err e) old new was is = StopsUpdate f name value e old new was is

-- the name can be updated, and the value is one of its range
abbrev pub IsSetting : List ℕ → List ℕ → Type 0
IsSetting name value = (is_open name ≡ true) × Takes table name value

-- whether an update has such a name and value; the name is looked at first
abbrev pub Checks : List ℕ → List ℕ → Result (Unit {0}) DbError → Type 0
Checks name value (Ok x) = IsSetting name value
Checks name value (Err (BadName named)) = (named ≡ name) × (is_open name ≡ false)
Checks name value (Err (BadValue named)) = (named ≡ name) × (is_open name ≡ true) × (Takes table name value → ⊥)
Checks name value (Err Memory) = Unit {0}
Checks name value (Err other) = ⊥

-- what is answered where so many records were meant
abbrev pub finished : Result (Unit {0}) StoreError → ℕ → Result ℕ DbError
finished (Ok x) meant = Ok (told meant)
finished (Err e) meant = Err (answer_of e)

-- an update: the faults in their order
abbrev pub Updates : Filter → List ℕ → List ℕ → Result ℕ DbError → List Node → List Node → Option Records → Option Records → Type 0
Updates f name value (Ok n) old new was is =
    IsSetting name value × (0 < length (matching f old)) × (n ≡ told (length (matching f old))) × (new ≡ updated f name value old) × (is ≡ told_texts was (changed f name value old))
Updates f name value (Err (BadName named)) old new was is = (named ≡ name) × (is_open name ≡ false) × IsSame old new was is
Updates f name value (Err (BadValue named)) old new was is = (named ≡ name) × (is_open name ≡ true) × (Takes table name value → ⊥) × IsSame old new was is
Updates f name value (Err NoObjects) old new was is = IsSetting name value × (matching f old ≡ []) × IsSame old new was is
Updates f name value (Err StoreFault) old new was is = IsSetting name value × StopsUpdate f name value StoreFailed old new was is
Updates f name value (Err Memory) old new was is = IsSame old new was is ⊎ (IsSetting name value × StopsUpdate f name value StoreMemory old new was is)
Updates f name value (Err other) old new was is = ⊥

-- a deletion stopped at a record, whose text the store did not take away: those before it are gone
pub record StopsDelete (f : Filter) (e : StoreError) (old new : List Node) (was is : Option Records) : Type 0 where
  pub front : List Node
  pub node : Node
  pub behind : List Node
  pub whole : old ≡ front ++ node ∷ behind
  pub named : matches f node.key ≡ true
  pub value_is : new ≡ left f front ++ node ∷ behind
  pub store : Removes (Err e) (path_text node.key) (told_removed was (matching f front)) is

-- a deletion goes through the records in order
abbrev pub Drops : Filter → Result (Unit {0}) StoreError → List Node → List Node → Option Records → Option Records → Type 0
Drops f (Ok x) old new was is = (new ≡ left f old) × (is ≡ told_removed was (matching f old))
Drops f (Err e) old new was is = StopsDelete f e old new was is

-- records match, and no living session has the identity of one
abbrev pub IsFree : Filter → List SessionInfo → List Node → Type 0
IsFree f living nodes = (0 < length (matching f nodes)) × (in_use living (matching f nodes) ≡ None)

-- a deletion: the faults in their order
abbrev pub Deletes : Filter → List SessionInfo → Result ℕ DbError → List Node → List Node → Option Records → Option Records → Type 0
Deletes f living (Ok n) old new was is =
    IsFree f living old × (n ≡ told (length (matching f old))) × (new ≡ left f old) × (is ≡ told_removed was (matching f old))
Deletes f living (Err NoObjects) old new was is = (matching f old ≡ []) × IsSame old new was is
Deletes f living (Err (InUse sid)) old new was is = (in_use living (matching f old) ≡ Some sid) × IsSame old new was is
Deletes f living (Err StoreFault) old new was is = IsFree f living old × StopsDelete f StoreFailed old new was is
Deletes f living (Err Memory) old new was is = IsSame old new was is ⊎ (IsFree f living old × StopsDelete f StoreMemory old new was is)
Deletes f living (Err other) old new was is = ⊥
