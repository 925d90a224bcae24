-- Commands of any nexuses one after another, each on the units that the one before left.
use Rattle.std.specs.Prelude.{ℕ, List, [], ◌∷◌}
use Rattle.oi_units.specs.Units.{executed}
use Rattle.oi_units.specs.declared.command.UnitCommand.{UnitCommand}
use Rattle.oi_units.specs.declared.reply.UnitReply.{UnitReply}
use Rattle.oi_units.specs.declared.unit.LogicalUnit.{LogicalUnit}

-- a command, its nexus and its data
pub record Request : Type 0 where
  pub nexus : List ℕ
  pub command : UnitCommand
  pub payload : List ℕ

-- the replies, in order
abbrev pub replies : List LogicalUnit → List Request → List UnitReply
replies units [] = []
replies units (r ∷ rs) =
    (executed units r.nexus r.command r.payload).reply ∷ replies (executed units r.nexus r.command r.payload).units rs

-- the units after them
abbrev pub units_after : List LogicalUnit → List Request → List LogicalUnit
units_after units [] = units
units_after units (r ∷ rs) = units_after (executed units r.nexus r.command r.payload).units rs
