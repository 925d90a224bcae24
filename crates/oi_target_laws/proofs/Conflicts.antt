-- What a reservation forbids is answered RESERVATION CONFLICT.
use Rattle.std.proofs.Common.{ℕ, zero, suc, Bool, true, false, not, ◌≡◌, ◌∙◌, Option, Some, None, List, [], ◌∷◌, bytes_eq, length, refl, ap, sym, if◌then◌else◌, ◌==◌}
use Rattle.std.proofs.lemmas.Bool.{eqb-true}
use Rattle.std.specs.List.{slice_get, slice_set}
use Rattle.std.specs.Prelude.{◌+◌, ◌*◌, nat_lt, slice_index, slice_range}
use Rattle.oi_base.specs.Limits.{block_length}
use Rattle.oi_disk.specs.Answers.{address_past_end, bad_field, good}
use Rattle.oi_disk.specs.Commands.{command_by, command_of}
use Rattle.oi_disk.specs.Disks.{block_count, disk_answer, overwritten, refused, sent, served_by}
use Rattle.oi_disk.specs.declared.command.Command.{Command}
use Rattle.oi_disk.specs.declared.command.Command.TheVariants.{Read, Write, Ready, Inquiry, Capacity, Sync, Unknown}
use Rattle.oi_reserve.specs.Outcomes.{reserve_out}
use Rattle.oi_reserve.specs.Reports.{reserve_in, reserve_in_answer}
use Rattle.oi_scsi.specs.Commands.{lun_of}
use Rattle.oi_target_laws.specs.Conflicts.{ConflictIsExact, ConflictsChangeNothing, conflict, is_allowed}
use Rattle.oi_units.specs.Replies.{conflict_answer, reserve_answer}
use Rattle.oi_units.specs.Units.{Asked, asked, asked_of_disk, by_disk, by_table, executed_on, place_of, told_by, unit_list, unit_named}
use Rattle.oi_units.specs.declared.command.UnitCommand.{UnitCommand}
use Rattle.oi_units.specs.declared.unit.LogicalUnit.{LogicalUnit}

none_unit : {C : Type 0} (u : LogicalUnit) → None ≡ Some u → C
none_unit u e = absurd (let n : ⊥ = cc in n)

same_unit : (u v : LogicalUnit) → Some u ≡ Some v → u ≡ v
same_unit u v e = cc

-- a unit that stays as it is
set_same : (units : List LogicalUnit) (at : ℕ) (u : LogicalUnit) → slice_get units at ≡ Some u → slice_set units at u ≡ units
set_same [] at u h = none_unit u h
set_same (x ∷ xs) zero u h = ap (λ (z : LogicalUnit). z ∷ xs) (sym (same_unit x u h))
set_same (x ∷ xs) (suc at) u h = ap (λ (z : List LogicalUnit). x ∷ z) (set_same xs at u h)

unit_stays : (units : List LogicalUnit) (lun : List ℕ) (u : LogicalUnit) → unit_named units lun ≡ Some u → slice_set units (place_of lun) u ≡ units
unit_stays units lun u h = go (bytes_eq lun (lun_of (place_of lun))) h where
  go : (b : Bool) → (if b then slice_get units (place_of lun) else None) ≡ Some u → slice_set units (place_of lun) u ≡ units
  go true e = set_same units (place_of lun) u e
  go false e = none_unit u e

-- a command that the disk knows has an opcode of its own
known_opcode : (special : ℕ) (cdb : List ℕ) → command_by special cdb ≡ Unknown → ¬ (command_of cdb ≡ Unknown) → (slice_index cdb 0 == special) ≡ false
known_opcode special cdb none known = go (slice_index cdb 0 == special) refl where
  go : (b : Bool) → (slice_index cdb 0 == special) ≡ b → (slice_index cdb 0 == special) ≡ false
  go true is = absurd (known (ap (λ (n : ℕ). command_by n cdb) (eqb-true (slice_index cdb 0) special is) ∙ none))
  go false is = is

asked_known : (count : ℕ) (u : LogicalUnit) (nexus cdb payload : List ℕ) → ¬ (command_of cdb ≡ Unknown) → asked count u nexus cdb payload ≡ asked_of_disk u nexus cdb payload
asked_known count u nexus cdb payload known =
    let opcode : ℕ = slice_index cdb 0 in
    let of_disk : Asked = asked_of_disk u nexus cdb payload in
    ap (λ (b : Bool). if b then told_by u good (unit_list count)
    else (if opcode == 0x5e then told_by u (reserve_answer (reserve_in_answer cdb)) (reserve_in u.reservations cdb)
    else (if opcode == 0x5f then by_table u (reserve_out u.reservations nexus cdb payload) else of_disk)))
    (known_opcode 0xa0 cdb refl known)
    ∙ ap (λ (b : Bool). if b then told_by u (reserve_answer (reserve_in_answer cdb)) (reserve_in u.reservations cdb)
    else (if opcode == 0x5f then by_table u (reserve_out u.reservations nexus cdb payload) else of_disk))
    (known_opcode 0x5e cdb refl known)
    ∙ ap (λ (b : Bool). if b then by_table u (reserve_out u.reservations nexus cdb payload) else of_disk) (known_opcode 0x5f cdb refl known)

-- the disk has no conflicts
no_conflict : (disk : List ℕ) (c : Command) (payload : List ℕ) → ((served_by disk c payload).answer.status == conflict) ≡ false
no_conflict disk (Read lba blocks) payload = go (nat_lt (block_count disk) (lba + blocks)) where
  go : (b : Bool)
      → ((if b then refused disk address_past_end else sent disk (slice_range disk (block_length * lba) (block_length * lba + block_length * blocks))).answer.status == conflict) ≡ false
  go true = refl
  go false = refl
no_conflict disk (Write lba blocks) payload = go (nat_lt (block_count disk) (lba + blocks)) (length payload == block_length * blocks) where
  go : (a b : Bool)
      → ((if a then refused disk address_past_end
      else (if b then record { answer = good; read = []; disk = overwritten disk (block_length * lba) payload } else refused disk bad_field)).answer.status == conflict) ≡ false
  go true b = refl
  go false true = refl
  go false false = refl
no_conflict disk Ready payload = refl
no_conflict disk Inquiry payload = refl
no_conflict disk Capacity payload = refl
no_conflict disk Sync payload = refl
no_conflict disk Unknown payload = refl

asked_status : (u : LogicalUnit) (nexus : List ℕ) (c : UnitCommand) (payload : List ℕ) (b : Bool)
    → ((if b then by_disk u (disk_answer u.disk c.cdb payload) else told_by u conflict_answer []).answer.status == conflict) ≡ not b
asked_status u nexus c payload true = no_conflict u.disk (command_of c.cdb) payload
asked_status u nexus c payload false = refl

pub conflict_is_exact : ConflictIsExact
conflict_is_exact units nexus c payload u is known =
    ap (λ (o : Option LogicalUnit). (executed_on o units nexus c payload).reply.status == conflict) is
    ∙ ap (λ (a : Asked). a.answer.status == conflict) (asked_known (length units) u nexus c.cdb payload known)
    ∙ asked_status u nexus c payload (is_allowed u nexus c)

pub conflicts_change_nothing : ConflictsChangeNothing
conflicts_change_nothing units nexus c payload u is known forbidden =
    ap (λ (o : Option LogicalUnit). (executed_on o units nexus c payload).units) is
    ∙ ap (λ (a : Asked). slice_set units (place_of c.lun) a.unit)
    (asked_known (length units) u nexus c.cdb payload known
    ∙ ap (λ (b : Bool). if b then by_disk u (disk_answer u.disk c.cdb payload) else told_by u conflict_answer []) forbidden)
    ∙ unit_stays units c.lun u is
