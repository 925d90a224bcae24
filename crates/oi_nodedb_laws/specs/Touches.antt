-- What calls in a row changed, and what the newest change of a path was.
use Rattle.std.specs.Prelude.{ℕ, Bool, true, false, List, [], ◌∷◌, Option, Some, None, Result, Ok, Err, bytes_eq}
use mathlib.Core.Logic.{inl, inr}
use Rattle.std.specs.List.{find}
use Rattle.oi_names.specs.declared.session_key.SessionInfo.{SessionInfo}
use Rattle.oi_outside.specs.Records.{Records}
use Rattle.oi_settings.specs.Keys.{path_text}
use Rattle.oi_settings.specs.Texts.{Node}
use Rattle.oi_nodedb.specs.declared.error.DbError.{DbError}
use Rattle.oi_nodedb.specs.declared.error.DbError.TheVariants.{StoreFault, Memory}
use Rattle.oi_nodedb.specs.declared.filter.Filter.{Filter}
use Rattle.oi_nodedb.specs.Answers.{Adds, Deletes, Updates}
use Rattle.oi_nodedb.specs.Databases.{changed, fresh, with_value}
use Rattle.oi_nodedb.specs.Filters.{matching}
use Rattle.oi_nodedb_laws.specs.Courses.{Call, Course, Leaves, marked, new_record, new_marked, update, delete}

-- what a call changed: it wrote these records, or took these away; where the store failed in the middle, it may have written, or
-- taken away, the text of one more
pub data Change : Type 0 where
  wrote : List Node → Change
  wrote_to : List Node → Node → Change
  took : List Node → Change
  took_to : List Node → Node → Change

-- a new record is written; none is where one has the key
abbrev pub added : (node : Node) (answer : Result Bool DbError) (old new : List Node) (was is : Option Records) → Adds node answer old new was is → Change
added node (Ok true) old new was is adds = wrote (node ∷ [])
added node (Err StoreFault) old new was is adds = wrote_to [] node
added node other old new was is adds = wrote []

-- an update writes each record that it means; where it stopped, those before that one, of which want of memory leaves the text alone
abbrev pub update_wrote : (f : Filter) (name value : List ℕ) (answer : Result ℕ DbError) (old new : List Node) (was is : Option Records)
    → Updates f name value answer old new was is → Change
update_wrote f name value (Ok n) old new was is updates = wrote (changed f name value old)
update_wrote f name value (Err StoreFault) old new was is updates = wrote_to (changed f name value updates.1.front) (with_value name value updates.1.node)
update_wrote f name value (Err Memory) old new was is (inl same) = wrote []
update_wrote f name value (Err Memory) old new was is (inr stops) = wrote (changed f name value stops.1.front)
update_wrote f name value other old new was is updates = wrote []

-- a deletion takes each record that it means away; where it stopped, those before that one, of which want of memory leaves the text alone
abbrev pub delete_took : (f : Filter) (living : List SessionInfo) (answer : Result ℕ DbError) (old new : List Node) (was is : Option Records)
    → Deletes f living answer old new was is → Change
delete_took f living (Ok n) old new was is deletes = took (matching f old)
delete_took f living (Err StoreFault) old new was is deletes = took_to (matching f deletes.1.front) deletes.1.node
delete_took f living (Err Memory) old new was is (inl same) = took []
delete_took f living (Err Memory) old new was is (inr stops) = took (matching f stops.1.front)
delete_took f living other old new was is deletes = took []

-- what the call changed as it was made
abbrev pub change_of : (c : Call) (old new : List Node) (was is : Option Records) → Leaves c old new was is → Change
change_of (new_record key answer) old new was is leaves = added (fresh key) answer old new was is leaves
change_of (new_marked key name value answer) old new was is leaves = added (marked key name value) answer old new was is leaves
change_of (update f name value answer) old new was is leaves = update_wrote f name value answer old new was is leaves
change_of (delete f living answer) old new was is leaves = delete_took f living answer old new was is leaves

-- the newest change of a path: none; this record was written there; the one there was taken away; or the store failed in the first of
-- these two, and the second is what was before it
pub data Touch : Type 0 where
  untouched : Touch
  holds : Node → Touch
  gone : Touch
  unsure : Touch → Touch → Touch

-- the record whose path it is
abbrev pub record_on : List ℕ → List Node → Option Node
record_on path nodes = find (λ n. bytes_eq path (path_text n.key)) nodes

-- a record that was written, or else what was before
abbrev pub if_written : Option Node → Touch → Touch
if_written None before = before
if_written (Some n) before = holds n

-- a record that was taken away, or else what was before
abbrev pub if_taken : Option Node → Touch → Touch
if_taken None before = before
if_taken (Some n) before = gone

-- the store failed here, or not
abbrev pub if_failed : Bool → Touch → Touch → Touch
if_failed false change before = before
if_failed true change before = unsure change before

-- the newest change of a path, where one more call made this change
abbrev pub touched : List ℕ → Change → Touch → Touch
touched path (wrote nodes) before = if_written (record_on path nodes) before
touched path (wrote_to nodes n) before = if_failed (bytes_eq path (path_text n.key)) (holds n) (if_written (record_on path nodes) before)
touched path (took nodes) before = if_taken (record_on path nodes) before
touched path (took_to nodes n) before = if_failed (bytes_eq path (path_text n.key)) gone (if_taken (record_on path nodes) before)

-- the newest change of a path in calls that were made in a row
abbrev pub touched_last : (path : List ℕ) (calls : List Call) (old new : List Node) (was is : Option Records) → Course calls old new was is → Touch
touched_last path [] old new was is course = untouched
touched_last path (c ∷ cs) old new was is course =
    touched path (change_of c course.0 new course.1 is course.4) (touched_last path cs old course.0 was course.1 course.2)
