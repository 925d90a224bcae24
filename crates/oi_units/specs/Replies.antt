-- The reply to a SCSI command (RFC 7143, sections 11.3.4 and 11.4): its status, its residual count and the data that are sent.
use Rattle.std.specs.Prelude.{ℕ, ◌-◌, ◌||◌, not, List, [], length, take, ◌==◌, nat_lt, if◌then◌else◌}
use Rattle.oi_base.specs.Counts.{told}
use Rattle.oi_disk.specs.Answers.{good, illegal_request}
use Rattle.oi_disk.specs.declared.answer.DiskAnswer.{DiskAnswer}
use Rattle.oi_recovery.specs.declared.hit.Residual.{Residual}
use Rattle.oi_recovery.specs.declared.hit.Residual.TheVariants.{Exact, Under, Over}
use Rattle.oi_reserve.specs.declared.answer.ReserveAnswer.{ReserveAnswer}
use Rattle.oi_reserve.specs.declared.answer.ReserveAnswer.TheVariants.{Good, Conflict, Check}
use Rattle.oi_units.specs.declared.command.UnitCommand.{UnitCommand}
use Rattle.oi_units.specs.declared.reply.UnitReply.{UnitReply}

-- the expected length, which counts as 0 where no data are to move
abbrev pub expected_length : UnitCommand → ℕ
expected_length c = if c.writes || c.reads then c.length else 0

-- what the target may send: nothing where the initiator sends
abbrev pub sendable_length : UnitCommand → ℕ
sendable_length c = if c.writes || not c.reads then 0 else c.length

-- RESERVATION CONFLICT
abbrev pub conflict_answer : DiskAnswer
conflict_answer = record { status = 0x18; sense = [] }

abbrev pub reserve_answer : ReserveAnswer → DiskAnswer
reserve_answer Good = good
reserve_answer Conflict = conflict_answer
reserve_answer (Check code) = illegal_request code

-- so many bytes were not transferred
abbrev pub missing : ℕ → Residual
missing count = if count == 0 then Exact else Under count

-- a failed command leaves its whole expected length; data that were longer than what may be sent are cut, and shorter
-- ones leave the rest of it
abbrev pub residual_of : UnitCommand → ℕ → ℕ → Residual
residual_of c status size =
    if status == 0x00
    then (if nat_lt (sendable_length c) size then Over (told (size - sendable_length c)) else missing (sendable_length c - size))
    else missing (expected_length c)

abbrev pub reply_of : UnitCommand → DiskAnswer → List ℕ → UnitReply
reply_of c answer bytes = record {
  status = answer.status;
  sense = answer.sense;
  residual = residual_of c answer.status (length bytes);
  sent = take (sendable_length c) bytes;
}
