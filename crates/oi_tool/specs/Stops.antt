-- Why the tool stopped: its status and its last text.
use Rattle.std.specs.Prelude.{ℕ, List, [], Result, Ok, Err}
use Rattle.oi_words.specs.declared.fault.WordsFault.{WordsFault}
use Rattle.oi_words.specs.declared.fault.WordsFault.TheVariants.{Invalid, Memory as WordsMemory}
use Rattle.oi_nodedb.specs.declared.error.DbError.TheVariants.{BadName, BadValue, BadRecord, NoObjects, InUse, StoreFault, Memory as DbMemory}
use Rattle.oi_admin.specs.declared.fault.AdminFault.{AdminFault}
use Rattle.oi_admin.specs.declared.fault.AdminFault.TheVariants.{Db, Write, Memory as AdminMemory}
use Rattle.oi_tool.specs.declared.stop.Stop.{Stop}
use Rattle.oi_tool.specs.declared.stop.Stop.TheVariants.{Words, Unreadable, Nothing, InUse as Used, Store, Sink, Memory}
use Rattle.oi_tool.specs.Outcomes.{bad_record, fault_text}

abbrev pub status_of : Stop → ℕ
status_of Words = 7
status_of (Unreadable path line) = 32
status_of Nothing = 21
status_of Used = 15
status_of Store = 6
status_of Sink = 31
status_of Memory = 3

-- where the sink failed besides
abbrev pub failed_status : Stop → ℕ
failed_status Nothing = 31
failed_status Used = 31
failed_status other = status_of other

abbrev pub stop_text : Stop → List ℕ
stop_text (Unreadable path line) = (bad_record path line).text
stop_text Sink = []
stop_text other = fault_text (status_of other)

abbrev pub stop_of_words : WordsFault → Stop
stop_of_words Invalid = Words
stop_of_words WordsMemory = Memory

abbrev pub stop_of : AdminFault → Stop
stop_of (Db (BadName name)) = Words
stop_of (Db (BadValue name)) = Words
stop_of (Db (BadRecord path line)) = Unreadable path line
stop_of (Db NoObjects) = Nothing
stop_of (Db (InUse sid)) = Used
stop_of (Db StoreFault) = Store
stop_of (Db DbMemory) = Memory
stop_of Write = Sink
stop_of AdminMemory = Memory

abbrev pub stopped : Result (Unit {0}) AdminFault → Result (Unit {0}) Stop
stopped (Ok u) = Ok u
stopped (Err e) = Err (stop_of e)
