-- Parts of lists of commands.
use Rattle.std.specs.Prelude.{◌≡◌, List, [], ◌∷◌, ◌⊎◌}
use Rattle.oi_units.specs.declared.command.UnitCommand.{UnitCommand}

-- the first commands stand among the second ones, in the same order
abbrev pub Within : List UnitCommand → List UnitCommand → Type 0
Within [] ds = Unit {0}
Within (c ∷ cs) [] = ⊥
Within (c ∷ cs) (d ∷ ds) = ((c ≡ d) × Within cs ds) ⊎ Within (c ∷ cs) ds
