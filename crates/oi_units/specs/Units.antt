-- Logical units asked one command after another (SAM-5, section 5; SPC-4, sections 5.13 and 6.33).
use Rattle.std.specs.Prelude.{◌≡◌, ℕ, zero, suc, ◌*◌, Option, Some, None, List, [], ◌∷◌, ◌++◌, bytes_eq, length, replicate, slice_index, take, ◌==◌, if◌then◌else◌}
use Rattle.std.specs.List.{slice_get, slice_set}
use Rattle.std.specs.Int.{to_be_bytes, w32}
use Rattle.oi_base.specs.Limits.{block_length}
use Rattle.oi_disk.specs.Answers.{good, illegal_request}
use Rattle.oi_disk.specs.Commands.{command_of}
use Rattle.oi_disk.specs.Disks.{Served, disk_answer, lent as lent_of_disk}
use Rattle.oi_disk.specs.declared.answer.DiskAnswer.{DiskAnswer}
use Rattle.oi_reserve.specs.Access.{access_allowed, wish_of}
use Rattle.oi_reserve.specs.Outcomes.{Outcome, reserve_out}
use Rattle.oi_reserve.specs.Reports.{reserve_in, reserve_in_answer}
use Rattle.oi_reserve.specs.Tables.{empty_table}
use Rattle.oi_scsi.specs.Commands.{lun_of}
use Rattle.oi_units.specs.Replies.{conflict_answer, reply_of, reserve_answer, sendable_length}
use Rattle.oi_units.specs.declared.command.UnitCommand.{UnitCommand}
use Rattle.oi_units.specs.declared.reply.UnitReply.{UnitReply}
use Rattle.oi_units.specs.declared.unit.LogicalUnit.{LogicalUnit}

-- a target has at most eight logical units
abbrev pub most_units : ℕ
most_units = 8

-- the additional sense code of a logical unit that is not there
abbrev pub unknown_unit : ℕ
unknown_unit = 0x25

-- all blocks are zero, and nobody is registered
abbrev pub fresh_unit : ℕ → LogicalUnit
fresh_unit blocks = record { disk = replicate (block_length * blocks) 0; reservations = empty_table }

-- the numbers of so many logical units, from 0
abbrev pub unit_numbers : ℕ → List ℕ
unit_numbers zero = []
unit_numbers (suc k) = unit_numbers k ++ lun_of k

-- REPORT LUNS: the length of the numbers, four zero bytes, the numbers
abbrev pub unit_list : ℕ → List ℕ
unit_list count = to_be_bytes w32 (8 * count) ++ (0 ∷ 0 ∷ 0 ∷ 0 ∷ []) ++ unit_numbers count

-- what becomes of a command: status and sense, the data for the initiator before any cut, and the unit afterwards
pub record Asked : Type 0 where
  pub answer : DiskAnswer
  pub bytes : List ℕ
  pub unit : LogicalUnit

-- the unit stays as it is
abbrev pub told_by : LogicalUnit → DiskAnswer → List ℕ → Asked
told_by u answer bytes = record { answer = answer; bytes = bytes; unit = u }

-- the disk has served a command
abbrev pub by_disk : LogicalUnit → Served → Asked
by_disk u s = record { answer = s.answer; bytes = s.read; unit = record { disk = s.disk; reservations = u.reservations } }

-- the reservations have judged PERSISTENT RESERVE OUT
abbrev pub by_table : LogicalUnit → Outcome → Asked
by_table u o = record { answer = reserve_answer o.answer; bytes = []; unit = record { disk = u.disk; reservations = o.table } }

-- the disk, where no reservation of another nexus stands before it
abbrev pub asked_of_disk : LogicalUnit → List ℕ → List ℕ → List ℕ → Asked
asked_of_disk u nexus cdb payload =
    if access_allowed u.reservations nexus (wish_of (command_of cdb))
    then by_disk u (disk_answer u.disk cdb payload)
    else told_by u conflict_answer []

-- one of so many units, by the command's opcode: REPORT LUNS, PERSISTENT RESERVE IN and OUT, else the disk
abbrev pub asked_by : ℕ → ℕ → LogicalUnit → List ℕ → List ℕ → List ℕ → Asked
asked_by opcode count u nexus cdb payload =
    if opcode == 0xa0 then told_by u good (unit_list count)
    else (if opcode == 0x5e then told_by u (reserve_answer (reserve_in_answer cdb)) (reserve_in u.reservations cdb)
    else (if opcode == 0x5f then by_table u (reserve_out u.reservations nexus cdb payload)
    else asked_of_disk u nexus cdb payload))

abbrev pub asked : ℕ → LogicalUnit → List ℕ → List ℕ → List ℕ → Asked
asked count u nexus cdb payload = asked_by (slice_index cdb 0) count u nexus cdb payload

-- the place of a unit, where the number is in the single level form
abbrev pub place_of : List ℕ → ℕ
place_of lun = slice_index lun 1

abbrev pub unit_named : List LogicalUnit → List ℕ → Option LogicalUnit
unit_named units lun = if bytes_eq lun (lun_of (place_of lun)) then slice_get units (place_of lun) else None

-- a reply, and the units afterwards
pub record Executed : Type 0 where
  pub reply : UnitReply
  pub units : List LogicalUnit

-- the unit of the command's number serves it; without such a unit nothing changes
abbrev pub executed_on : Option LogicalUnit → List LogicalUnit → List ℕ → UnitCommand → List ℕ → Executed
executed_on None units nexus c payload = record { reply = reply_of c (illegal_request unknown_unit) []; units = units }
executed_on (Some u) units nexus c payload = record {
  reply = reply_of c (asked (length units) u nexus c.cdb payload).answer (asked (length units) u nexus c.cdb payload).bytes;
  units = slice_set units (place_of c.lun) (asked (length units) u nexus c.cdb payload).unit;
}

-- the reply to a READ that succeeds and is sent data, for which nothing has to be changed or copied; None for any other command
abbrev pub lent_reply : UnitCommand → Option (List ℕ) → Option UnitReply
lent_reply c None = None
lent_reply c (Some bytes) = if length (take (sendable_length c) bytes) == 0 then None else Some (reply_of c good bytes)

abbrev pub lent_by : LogicalUnit → List ℕ → List ℕ → Option (List ℕ)
lent_by u nexus cdb = if access_allowed u.reservations nexus (wish_of (command_of cdb)) then lent_of_disk u.disk cdb else None

abbrev pub lent_on : Option LogicalUnit → List ℕ → UnitCommand → Option UnitReply
lent_on None nexus c = None
lent_on (Some u) nexus c = lent_reply c (lent_by u nexus c.cdb)

abbrev pub lent : List LogicalUnit → List ℕ → UnitCommand → Option UnitReply
lent units nexus c = lent_on (unit_named units c.lun) nexus c

-- one command of a nexus, with the data that came for it
abbrev pub executed : List LogicalUnit → List ℕ → UnitCommand → List ℕ → Executed
executed units nexus c payload = executed_on (unit_named units c.lun) units nexus c payload

-- a command that is lent its data is executed by that
abbrev pub LentIsExecuted : Type 0
LentIsExecuted =
    (units : List LogicalUnit) (nexus : List ℕ) (c : UnitCommand) (payload : List ℕ) (r : UnitReply) → lent units nexus c ≡ Some r
    → executed units nexus c payload ≡ record { reply = r; units = units }
