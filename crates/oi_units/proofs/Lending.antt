-- A command that is lent its data is executed by that.
use Rattle.std.proofs.Common.{ℕ, zero, suc, Bool, true, false, ◌≡◌, ◌∙◌, Option, Some, None, List, [], ◌∷◌, bytes_eq, length, take, refl, ap, sym, subst, if◌then◌else◌, ◌==◌}
use Rattle.std.proofs.lemmas.Bool.{eqb-true}
use Rattle.std.specs.List.{slice_get, slice_set}
use Rattle.std.specs.Prelude.{◌+◌, ◌*◌, slice_index, slice_range, nat_lt}
use Rattle.oi_base.specs.Limits.{block_length}
use Rattle.oi_disk.specs.Answers.{address_past_end, good}
use Rattle.oi_disk.specs.Commands.{command_by, command_of}
use Rattle.oi_disk.specs.Disks.{Served, block_count, disk_answer, lent_by as lent_of, refused, sent, served_by}
use Rattle.oi_disk.specs.declared.command.Command.{Command}
use Rattle.oi_disk.specs.declared.command.Command.TheVariants.{Read, Write, Ready, Inquiry, Capacity, Sync, Unknown}
use Rattle.oi_reserve.specs.Access.{access_allowed, wish_of}
use Rattle.oi_reserve.specs.Outcomes.{reserve_out}
use Rattle.oi_reserve.specs.Reports.{reserve_in, reserve_in_answer}
use Rattle.oi_scsi.specs.Commands.{lun_of}
use Rattle.oi_units.specs.Replies.{conflict_answer, reply_of, reserve_answer, sendable_length}
use Rattle.oi_units.specs.Units.{Asked, LentIsExecuted, asked, asked_of_disk, by_disk, by_table, executed_on, lent_by, lent_on, lent_reply, place_of, told_by, unit_list, unit_named}
use Rattle.oi_units.specs.declared.command.UnitCommand.{UnitCommand}
use Rattle.oi_units.specs.declared.reply.UnitReply.{UnitReply}
use Rattle.oi_units.specs.declared.unit.LogicalUnit.{LogicalUnit}

none_some : {A : Type 0} {C : Type 0} (x : A) → None ≡ Some x → C
none_some x e = absurd (let n : ⊥ = cc in n)

same : {A : Type 0} (x y : A) → Some x ≡ Some y → x ≡ y
same x y e = cc

-- a READ has an opcode of its own
not_opcode : (special : ℕ) (disk cdb bytes : List ℕ) → lent_of disk (command_by special cdb) ≡ None → (opcode : ℕ) → lent_of disk (command_by opcode cdb) ≡ Some bytes
    → (opcode == special) ≡ false
not_opcode special disk cdb bytes none opcode h = go (opcode == special) refl where
  go : (b : Bool) → (opcode == special) ≡ b → (opcode == special) ≡ false
  go true is = none_some bytes (sym none ∙ subst (λ (n : ℕ). lent_of disk (command_by n cdb) ≡ Some bytes) (eqb-true opcode special is) h)
  go false is = is

-- what it is answered
served_lent : (disk : List ℕ) (c : Command) (payload bytes : List ℕ) → lent_of disk c ≡ Some bytes → served_by disk c payload ≡ sent disk bytes
served_lent disk (Read lba blocks) payload bytes h = go (nat_lt (block_count disk) (lba + blocks)) h where
  go : (b : Bool) → (if b then None else Some (slice_range disk (block_length * lba) (block_length * lba + block_length * blocks))) ≡ Some bytes
      → (if b then refused disk address_past_end else sent disk (slice_range disk (block_length * lba) (block_length * lba + block_length * blocks))) ≡ sent disk bytes
  go true e = none_some bytes e
  go false e = ap (λ (z : List ℕ). sent disk z) (same (slice_range disk (block_length * lba) (block_length * lba + block_length * blocks)) bytes e)
served_lent disk (Write lba blocks) payload bytes h = none_some bytes h
served_lent disk Ready payload bytes h = none_some bytes h
served_lent disk Inquiry payload bytes h = none_some bytes h
served_lent disk Capacity payload bytes h = none_some bytes h
served_lent disk Sync payload bytes h = none_some bytes h
served_lent disk Unknown payload bytes h = none_some bytes h

-- the unit lends only to who may read
may_lend : (u : LogicalUnit) (nexus cdb bytes : List ℕ) → lent_by u nexus cdb ≡ Some bytes
    → (access_allowed u.reservations nexus (wish_of (command_of cdb)) ≡ true) × (lent_of u.disk (command_of cdb) ≡ Some bytes)
may_lend u nexus cdb bytes h = go (access_allowed u.reservations nexus (wish_of (command_of cdb))) refl h where
  go : (b : Bool) → access_allowed u.reservations nexus (wish_of (command_of cdb)) ≡ b → (if b then lent_of u.disk (command_of cdb) else None) ≡ Some bytes
      → (access_allowed u.reservations nexus (wish_of (command_of cdb)) ≡ true) × (lent_of u.disk (command_of cdb) ≡ Some bytes)
  go true is e = (is, e)
  go false is e = none_some bytes e

asked_lent : (count : ℕ) (u : LogicalUnit) (nexus cdb payload bytes : List ℕ) → lent_by u nexus cdb ≡ Some bytes
    → asked count u nexus cdb payload ≡ record { answer = good; bytes = bytes; unit = u }
asked_lent count u nexus cdb payload bytes h =
    let may = may_lend u nexus cdb bytes h in
    let opcode : ℕ = slice_index cdb 0 in
    let of_disk : Asked = asked_of_disk u nexus cdb payload in
    ap (λ (b : Bool). if b then told_by u good (unit_list count)
    else (if opcode == 0x5e then told_by u (reserve_answer (reserve_in_answer cdb)) (reserve_in u.reservations cdb)
    else (if opcode == 0x5f then by_table u (reserve_out u.reservations nexus cdb payload) else of_disk)))
    (not_opcode 0xa0 u.disk cdb bytes refl opcode may.1)
    ∙ ap (λ (b : Bool). if b then told_by u (reserve_answer (reserve_in_answer cdb)) (reserve_in u.reservations cdb)
    else (if opcode == 0x5f then by_table u (reserve_out u.reservations nexus cdb payload) else of_disk))
    (not_opcode 0x5e u.disk cdb bytes refl opcode may.1)
    ∙ ap (λ (b : Bool). if b then by_table u (reserve_out u.reservations nexus cdb payload) else of_disk) (not_opcode 0x5f u.disk cdb bytes refl opcode may.1)
    ∙ ap (λ (b : Bool). if b then by_disk u (disk_answer u.disk cdb payload) else told_by u conflict_answer []) may.0
    ∙ ap (λ (s : Served). by_disk u s) (served_lent u.disk (command_of cdb) payload bytes may.1)

-- a unit that stays as it is
set_same : (units : List LogicalUnit) (at : ℕ) (u : LogicalUnit) → slice_get units at ≡ Some u → slice_set units at u ≡ units
set_same [] at u h = none_some u h
set_same (x ∷ xs) zero u h = ap (λ (z : LogicalUnit). z ∷ xs) (sym (same x u h))
set_same (x ∷ xs) (suc at) u h = ap (λ (z : List LogicalUnit). x ∷ z) (set_same xs at u h)

stays : (units : List LogicalUnit) (lun : List ℕ) (u : LogicalUnit) → unit_named units lun ≡ Some u → slice_set units (place_of lun) u ≡ units
stays units lun u h = go (bytes_eq lun (lun_of (place_of lun))) h where
  go : (b : Bool) → (if b then slice_get units (place_of lun) else None) ≡ Some u → slice_set units (place_of lun) u ≡ units
  go true e = set_same units (place_of lun) u e
  go false e = none_some u e

replies_lent : (c : UnitCommand) (bytes : List ℕ) (r : UnitReply) → lent_reply c (Some bytes) ≡ Some r → reply_of c good bytes ≡ r
replies_lent c bytes r h = go (length (take (sendable_length c) bytes) == 0) h where
  go : (b : Bool) → (if b then None else Some (reply_of c good bytes)) ≡ Some r → reply_of c good bytes ≡ r
  go true e = none_some r e
  go false e = same (reply_of c good bytes) r e

unit_lent : (units : List LogicalUnit) (u : LogicalUnit) (nexus : List ℕ) (c : UnitCommand) (payload : List ℕ) (r : UnitReply) (o : Option (List ℕ))
    → unit_named units c.lun ≡ Some u → lent_by u nexus c.cdb ≡ o → lent_reply c o ≡ Some r
    → executed_on (Some u) units nexus c payload ≡ record { reply = r; units = units }
unit_lent units u nexus c payload r None is lends h = none_some r h
unit_lent units u nexus c payload r (Some bytes) is lends h =
    ap (λ (a : Asked). record { reply = reply_of c a.answer a.bytes; units = slice_set units (place_of c.lun) a.unit }) (asked_lent (length units) u nexus c.cdb payload bytes lends)
    ∙ ap (λ (z : List LogicalUnit). record { reply = reply_of c good bytes; units = z }) (stays units c.lun u is)
    ∙ ap (λ (z : UnitReply). record { reply = z; units = units }) (replies_lent c bytes r h)

named_lent : (units : List LogicalUnit) (nexus : List ℕ) (c : UnitCommand) (payload : List ℕ) (r : UnitReply) (o : Option LogicalUnit)
    → unit_named units c.lun ≡ o → lent_on o nexus c ≡ Some r → executed_on o units nexus c payload ≡ record { reply = r; units = units }
named_lent units nexus c payload r None is h = none_some r h
named_lent units nexus c payload r (Some u) is h = unit_lent units u nexus c payload r (lent_by u nexus c.cdb) is refl h

pub lent_is_executed : LentIsExecuted
lent_is_executed units nexus c payload r h = named_lent units nexus c payload r (unit_named units c.lun) refl h
