-- A command that a reservation of another nexus forbids conflicts, and no other one does (SPC-4, section 5.13).
use Rattle.std.specs.Prelude.{◌≡◌, ℕ, Bool, false, not, Some, List, ◌==◌}
use Rattle.oi_disk.specs.Commands.{command_of}
use Rattle.oi_disk.specs.declared.command.Command.TheVariants.{Unknown}
use Rattle.oi_reserve.specs.Access.{access_allowed, wish_of}
use Rattle.oi_units.specs.Units.{executed, unit_named}
use Rattle.oi_units.specs.declared.command.UnitCommand.{UnitCommand}
use Rattle.oi_units.specs.declared.unit.LogicalUnit.{LogicalUnit}

-- the status RESERVATION CONFLICT
abbrev pub conflict : ℕ
conflict = 0x18

-- the unit's reservations allow what the command wants: READ to read, WRITE and SYNCHRONIZE CACHE to write, the others nothing
abbrev pub is_allowed : LogicalUnit → List ℕ → UnitCommand → Bool
is_allowed u nexus c = access_allowed u.reservations nexus (wish_of (command_of c.cdb))

-- each command that the disk of a unit knows, a READ, WRITE and SYNCHRONIZE CACHE among them, is answered RESERVATION CONFLICT exactly
-- where the reservations do not allow it
abbrev pub ConflictIsExact : Type 0
ConflictIsExact =
    (units : List LogicalUnit) (nexus : List ℕ) (c : UnitCommand) (payload : List ℕ) (u : LogicalUnit)
    → unit_named units c.lun ≡ Some u → ¬ (command_of c.cdb ≡ Unknown)
    → ((executed units nexus c payload).reply.status == conflict) ≡ not (is_allowed u nexus c)

-- and then it changes nothing
abbrev pub ConflictsChangeNothing : Type 0
ConflictsChangeNothing =
    (units : List LogicalUnit) (nexus : List ℕ) (c : UnitCommand) (payload : List ℕ) (u : LogicalUnit)
    → unit_named units c.lun ≡ Some u → ¬ (command_of c.cdb ≡ Unknown) → is_allowed u nexus c ≡ false
    → (executed units nexus c payload).units ≡ units
