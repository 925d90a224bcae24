use Rattle.std.proofs.Common.{◌≡◌, map, take}
use Rattle.std.specs.Prelude.{vec_len}
use Rattle.oi_units.specs.Units.{fresh_unit}
use Rattle.oi_units.proofs.units.Units.new.Given as goal

abbrev pub invariant-loop-count : goal.invariant-loop-count
invariant-loop-count l = (l.units.items ≡ map fresh_unit (take l.count-index l.blocks)) × (vec_len l.units ≡ l.count-index)
