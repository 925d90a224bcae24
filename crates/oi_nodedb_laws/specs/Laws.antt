-- What stands in the store and in the value behind calls in a row.
use Rattle.std.specs.Prelude.{◌≡◌, ◌⊎◌, ℕ, true, List, Option, Some, None, Ok, if◌then◌else◌}
use Rattle.std.specs.List.{All}
use Rattle.std.specs.Option.{option_map}
use Rattle.oi_outside.specs.Records.{Records}
use Rattle.oi_outside.specs.Stores.{IsToldAt, told_at}
use Rattle.oi_outside.specs.declared.store_error.StoreError.{StoreError}
use Rattle.oi_settings.specs.Keys.{path_text}
use Rattle.oi_settings.specs.Texts.{Node, text_of}
use Rattle.oi_nodedb.specs.declared.filter.Filter.{Filter}
use Rattle.oi_nodedb.specs.Answers.{StopsDelete, StopsUpdate}
use Rattle.oi_nodedb.specs.Databases.{changed, with_value}
use Rattle.oi_nodedb.specs.Filters.{matches, matching}
use Rattle.oi_nodedb.specs.Loads.{Loads}
use Rattle.oi_nodedb_laws.specs.Courses.{Call, Course, IsDatabase, NoFaults}
use Rattle.oi_nodedb_laws.specs.Touches.{Touch, untouched, holds, gone, unsure, record_on, took, touched, touched_last, wrote}

-- what a store that tells its records told at the path before, and what it tells now: the same, the text of the record that was written,
-- or none; where it failed, one of two
abbrev pub Tells : Touch → Option (Option (List ℕ)) → Option (Option (List ℕ)) → Type 0
Tells untouched before now = now ≡ before
Tells (holds n) before now = now ≡ option_map (λ text. Some (text_of n.pairs)) before
Tells gone before now = now ≡ option_map (λ text. None) before
Tells (unsure change past) before now = Tells change before now ⊎ Tells past before now

-- the record at the path before, and now; a change in which the store failed is none
abbrev pub Has : Touch → Option Node → Option Node → Type 0
Has untouched before now = now ≡ before
Has (holds n) before now = now ≡ Some n
Has gone before now = now ≡ None
Has (unsure change past) before now = Has past before now

-- the store failed in no change
abbrev pub IsSure : Touch → Type 0
IsSure (unsure change past) = ⊥
IsSure other = Unit {0}

-- the store tells at each path what the newest change of the path left there
abbrev pub StoreFollows : Type 0
StoreFollows =
    (path : List ℕ) (calls : List Call) (old new : List Node) (was is : Option Records) (course : Course calls old new was is) → IsDatabase old
    → Tells (touched_last path calls old new was is course) (told_at was path) (told_at is path)

-- the records have at each path the one that the newest change of the path left there
abbrev pub ValueFollows : Type 0
ValueFollows =
    (path : List ℕ) (calls : List Call) (old new : List Node) (was is : Option Records) (course : Course calls old new was is) → IsDatabase old
    → Has (touched_last path calls old new was is course) (record_on path old) (record_on path new)

-- where no call answered a fault of the store, the newest change of each path is known
abbrev pub SureWithoutFaults : Type 0
SureWithoutFaults =
    (path : List ℕ) (calls : List Call) (old new : List Node) (was is : Option Records) (course : Course calls old new was is) → NoFaults calls
    → IsSure (touched_last path calls old new was is course)

-- the records stay in order and well formed
abbrev pub DatabaseStays : Type 0
DatabaseStays =
    (calls : List Call) (old new : List Node) (was is : Option Records) → Course calls old new was is → IsDatabase old → IsDatabase new

-- records that a load of the store gave are those that a load gives behind the calls, where none answered a fault of the store
abbrev pub LoadedStays : Type 0
LoadedStays =
    (calls : List Call) (old new : List Node) (was is : Option Records) → Course calls old new was is → NoFaults calls → IsDatabase old
    → Loads (Ok old) was was → Loads (Ok new) is is

-- at the path of a record an update leaves the record with its new value, where it means the record, and a deletion takes it away; any
-- other record is as before
abbrev pub UpdateTouches : Type 0
UpdateTouches =
    (f : Filter) (name value : List ℕ) (nodes : List Node) (before : Touch) → IsDatabase nodes
    → All (λ n. touched (path_text n.key) (wrote (changed f name value nodes)) before ≡ if matches f n.key then holds (with_value name value n) else before) nodes

abbrev pub DeleteTouches : Type 0
DeleteTouches =
    (f : Filter) (nodes : List Node) (before : Touch) → IsDatabase nodes
    → All (λ n. touched (path_text n.key) (took (matching f nodes)) before ≡ if matches f n.key then gone else before) nodes

-- the record is here, and its text in the store
abbrev pub IsKept : List Node → Option Records → Node → Type 0
IsKept new is n = IsToldAt is (path_text n.key) (Some (text_of n.pairs)) × (record_on (path_text n.key) new ≡ Some n)

-- no record with its key is here, and no text of one in the store
abbrev pub IsNowhere : List Node → Option Records → Node → Type 0
IsNowhere new is n = IsToldAt is (path_text n.key) None × (record_on (path_text n.key) new ≡ None)

-- where an update stopped, each record before that one which it means has its new value, here and in the store
abbrev pub UpdateStops : Type 0
UpdateStops =
    (f : Filter) (name value : List ℕ) (e : StoreError) (old new : List Node) (was is : Option Records) → IsDatabase old
    → (stops : StopsUpdate f name value e old new was is)
    → All (λ n. matches f n.key ≡ true → IsKept new is (with_value name value n)) stops.front

-- where a deletion stopped, each record before that one which it means is gone, here and from the store
abbrev pub DeleteStops : Type 0
DeleteStops =
    (f : Filter) (e : StoreError) (old new : List Node) (was is : Option Records) → IsDatabase old → (stops : StopsDelete f e old new was is)
    → All (λ n. matches f n.key ≡ true → IsNowhere new is n) stops.front
