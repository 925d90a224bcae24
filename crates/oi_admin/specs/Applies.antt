-- What a command of the tool does with the records, the store and the output.
use Rattle.std.specs.Prelude.{◌≡◌, ◌<◌, ℕ, Bool, true, false, List, Option, Result, Ok, Err, length}
use Rattle.oi_base.specs.Counts.{Rose}
use Rattle.oi_names.specs.declared.session_key.SessionInfo.{SessionInfo}
use Rattle.oi_outside.specs.Records.{Records}
use Rattle.oi_outside.specs.Streams.{IsFront, behind}
use Rattle.oi_settings.specs.Keys.{Key}
use Rattle.oi_settings.specs.Texts.{Node}
use Rattle.oi_nodedb.specs.declared.error.DbError.{DbError}
use Rattle.oi_nodedb.specs.declared.error.DbError.TheVariants.{NoObjects, StoreFault, Memory as DbMemory}
use Rattle.oi_nodedb.specs.Answers.{Adds, Deletes, IsSame, Updates}
use Rattle.oi_nodedb.specs.Databases.{fresh}
use Rattle.oi_nodedb.specs.Filters.{matching}
use Rattle.oi_admin.specs.declared.command.AdminCommand.{AdminCommand}
use Rattle.oi_admin.specs.declared.command.AdminCommand.TheVariants.{Discover, List as ListRecords, Show, Update, Delete, New, Login, Logout, Sessions}
use Rattle.oi_admin.specs.declared.fault.AdminFault.{AdminFault}
use Rattle.oi_admin.specs.declared.fault.AdminFault.TheVariants.{Db, Write, Memory}
use Rattle.oi_admin.specs.Listings.{list_text, session_text, show_text}

-- the command discovers, logs in or logs out, which only a running daemon does
abbrev pub needs_daemon : AdminCommand → Bool
needs_daemon (Discover portal) = true
needs_daemon (Login filter) = true
needs_daemon (Logout filter) = true
needs_daemon other = false

-- the answer that an answer of the database gives
abbrev pub fault_of : DbError → AdminFault
fault_of DbMemory = Memory
fault_of other = Db other

abbrev pub answer_of : {T : Type 0} → Result T DbError → Result (Unit {0}) AdminFault
answer_of (Ok x) = Ok tt
answer_of (Err e) = Err (fault_of e)

-- a text was printed, of which a sink that failed has a front; nothing is printed where there is nothing to list
abbrev pub Prints : ℕ → List ℕ → Result (Unit {0}) AdminFault → Option (List ℕ) → Option (List ℕ) → Type 0
Prints entries text (Ok x) held now = (0 < entries) × (now ≡ behind held text)
Prints entries text (Err (Db NoObjects)) held now = (entries ≡ 0) × (now ≡ held)
Prints entries text (Err Write) held now = (0 < entries) × IsFront text held now
Prints entries text (Err Memory) held now = now ≡ held
Prints entries text (Err other) held now = ⊥

-- the store's count of faults rose exactly where the answer is its fault, and the sink's where it could not write
abbrev pub IsStoreCounted : Result (Unit {0}) AdminFault → ℕ → ℕ → Type 0
IsStoreCounted (Err (Db StoreFault)) before now = Rose before now
IsStoreCounted other before now = now ≡ before

abbrev pub IsSinkCounted : Result (Unit {0}) AdminFault → ℕ → ℕ → Type 0
IsSinkCounted (Err Write) before now = Rose before now
IsSinkCounted other before now = now ≡ before

-- a record was made, or not, as the database answered
abbrev pub Makes : Key → Result (Unit {0}) AdminFault → List Node → List Node → Option Records → Option Records → Type 0
Makes key result old new was is = (answer : Result Bool DbError) × (result ≡ answer_of answer) × Adds (fresh key) answer old new was is

-- a command: the records and the store, and what was printed
abbrev pub Applies : AdminCommand → List SessionInfo → Result (Unit {0}) AdminFault → List Node → List Node → Option Records → Option Records → Option (List ℕ) → Option (List ℕ) → Type 0
Applies (ListRecords filter) living result old new was is held now = IsSame old new was is × Prints (length (matching filter old)) (list_text (matching filter old)) result held now
Applies (Show filter) living result old new was is held now = IsSame old new was is × Prints (length (matching filter old)) (show_text (matching filter old)) result held now
Applies Sessions living result old new was is held now = IsSame old new was is × Prints (length living) (session_text living) result held now
Applies (Update filter name value) living result old new was is held now =
    (now ≡ held) × ((answer : Result ℕ DbError) × (result ≡ answer_of answer) × Updates filter name value answer old new was is)
Applies (Delete filter) living result old new was is held now =
    (now ≡ held) × ((answer : Result ℕ DbError) × (result ≡ answer_of answer) × Deletes filter living answer old new was is)
Applies (New key) living result old new was is held now =
    (now ≡ held) × Makes key result old new was is
Applies other living result old new was is held now = ⊥
