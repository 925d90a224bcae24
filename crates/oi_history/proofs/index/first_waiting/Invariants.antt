use Rattle.std.proofs.Common.{◌-◌, length}
use Rattle.oi_history.specs.Indices.{waits_on}
use Rattle.oi_history.proofs.Firsts.{NoneBelow}
use Rattle.oi_history.proofs.index.first_waiting.Given as goal

abbrev pub invariant-loop-id : goal.invariant-loop-id
invariant-loop-id l = NoneBelow (waits_on l.lun) l.id l.tasks

abbrev pub decreases-loop-id : goal.decreases-loop-id
decreases-loop-id l = length l.tasks - l.id
