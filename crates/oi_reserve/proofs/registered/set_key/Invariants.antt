use Rattle.std.proofs.Common.{◌≡◌, ◌++◌, map, take, drop}
use Rattle.oi_reserve.specs.Outcomes.{rekeyed}
use Rattle.oi_reserve.proofs.registered.set_key.Given as goal

abbrev pub invariant-loop-r : goal.invariant-loop-r
invariant-loop-r l = l.r-items ≡ map (rekeyed l.nexus l.key) (take l.r-index l.initial.r-items) ++ drop l.r-index l.initial.r-items
