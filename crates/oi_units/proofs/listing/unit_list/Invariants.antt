use Rattle.std.proofs.Common.{◌≡◌, ◌++◌, ◌*◌, ◌∷◌, []}
use Rattle.std.specs.Int.{to_be_bytes, w32}
use Rattle.oi_units.specs.Units.{unit_numbers}
use Rattle.oi_units.proofs.listing.unit_list.Given as goal

abbrev pub invariant-loop-lun : goal.invariant-loop-lun
invariant-loop-lun l = l.list.items ≡ to_be_bytes w32 (8 * l.count) ++ (0 ∷ 0 ∷ 0 ∷ 0 ∷ []) ++ unit_numbers l.lun
