use Rattle.std.proofs.Common.{◌≡◌, ◌≤◌, ◌-◌, take}
use Rattle.oi_history.specs.Tasks.{due_from}
use Rattle.oi_history.proofs.tables.due_within.Given as goal

abbrev pub invariant-loop-id : goal.invariant-loop-id
invariant-loop-id l = (l.low ≤ l.id) × (l.out.items ≡ due_from 0 (take l.id l.tasks))

abbrev pub decreases-loop-id : goal.decreases-loop-id
decreases-loop-id l = l.end - l.id
