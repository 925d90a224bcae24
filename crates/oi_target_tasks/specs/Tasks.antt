-- Commands that came and were not executed yet (RFC 7143, sections 4.2.2.1, 11.3 and 11.8).
use Rattle.std.specs.Prelude.{ℕ, ◌+◌, Bool, true, false, not, ◌&&◌, ◌||◌, Option, Some, None, List, [], ◌∷◌, ◌++◌, length, min, nat_lt, ◌==◌, if◌then◌else◌}
use Rattle.std.specs.List.{find, list_any}
use Rattle.oi_base.specs.Serials.{successor}
use Rattle.oi_pdu.specs.declared.header.DataOut.{DataOut}
use Rattle.oi_pdu.specs.declared.header.ScsiCommand.{ScsiCommand}
use Rattle.oi_target_tasks.specs.declared.task.Task.{Task}
use Rattle.oi_units.specs.declared.command.UnitCommand.{UnitCommand}

-- the command as the units take it
abbrev pub unit_command : ScsiCommand → UnitCommand
unit_command h = record { lun = h.lun; cdb = h.cdb; reads = h.reads; writes = h.writes; length = h.length }

-- a command that came with its immediate data
abbrev pub new_task : ScsiCommand → List ℕ → Task
new_task h payload = record { tag = h.tag; command = unit_command h; payload = payload; transfer = 0; end = 0; asked = 0 }

-- a task of nothing
abbrev pub no_task : Task
no_task = record {
  tag = record { 0 = 0 };
  command = record { lun = []; cdb = []; reads = false; writes = false; length = 0 };
  payload = [];
  transfer = 0;
  end = 0;
  asked = 0;
}

-- its data are not complete
abbrev pub is_waiting : Task → Bool
is_waiting t = t.command.writes && nat_lt (length t.payload) t.command.length

-- it waits for data under this tag
abbrev pub waits_as : ℕ → Task → Bool
waits_as tag t = t.tag.0 == tag && is_waiting t

-- its next R2T, which asks for at most MaxBurstLength of what is missing
abbrev pub asking_by : ℕ → ℕ → Task → Task
asking_by transfer burst t = record {
  tag = t.tag;
  command = t.command;
  payload = t.payload;
  transfer = transfer;
  end = min (length t.payload + burst) t.command.length;
  asked = successor t.asked;
}

-- data that it did not ask for: another transfer tag, another place, or more than the R2T names
abbrev pub is_stray : Task → DataOut → List ℕ → Bool
is_stray t h payload = not (h.ttt == t.transfer) || not (h.offset == length t.payload) || nat_lt t.end (length t.payload + length payload)

-- with more data
abbrev pub grown : Task → List ℕ → Task
grown t payload = record { tag = t.tag; command = t.command; payload = t.payload ++ payload; transfer = t.transfer; end = t.end; asked = t.asked }

-- its R2T is answered, and more is missing
abbrev pub is_asking : Task → Bool
is_asking t = length t.payload == t.end && is_waiting t

-- none is to be executed now
abbrev pub is_stuck : List Task → Bool
is_stuck [] = true
is_stuck (t ∷ ts) = is_waiting t

-- it has this tag
abbrev pub has_tag : ℕ → Task → Bool
has_tag tag t = t.tag.0 == tag

-- one of them has this tag
abbrev pub is_busy : ℕ → List Task → Bool
is_busy tag tasks = list_any (has_tag tag) tasks

-- the one that waits for data under this tag
abbrev pub waiting_in : ℕ → List Task → Option Task
waiting_in tag tasks = find (waits_as tag) tasks

-- a task in the place of the one that waits for data under its tag
abbrev pub replaced : Task → List Task → List Task
replaced t [] = []
replaced t (x ∷ xs) = if waits_as t.tag.0 x then t ∷ xs else x ∷ replaced t xs

-- with more data; where its R2T is answered and more is missing, it asks for the next part
abbrev pub filled : ℕ → ℕ → List ℕ → Task → Task
filled transfer burst payload t = if is_asking (grown t payload) then asking_by transfer burst (grown t payload) else grown t payload

-- data come for the one that was found
abbrev pub filled_in : ℕ → ℕ → List ℕ → Option Task → List Task → List Task
filled_in transfer burst payload None tasks = tasks
filled_in transfer burst payload (Some t) tasks = replaced (filled transfer burst payload t) tasks

-- it asks for more
abbrev pub asks_for : List ℕ → Option Task → Bool
asks_for payload None = false
asks_for payload (Some t) = is_asking (grown t payload)

-- it is then
abbrev pub asked_again : ℕ → ℕ → List ℕ → Option Task → Option Task
asked_again transfer burst payload None = None
asked_again transfer burst payload (Some t) = Some (asking_by transfer burst (grown t payload))
