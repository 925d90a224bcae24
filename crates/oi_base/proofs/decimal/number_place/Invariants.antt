use Rattle.std.proofs.Common.{take}
use Rattle.oi_base.proofs.Numbers.{Stands}
use Rattle.oi_base.proofs.decimal.number_place.Given as goal

abbrev pub invariant-loop-at : goal.invariant-loop-at
invariant-loop-at l = Stands l.low l.high (take l.at l.text) l.value
