use Rattle.std.proofs.Common.{◌≡◌, ◌≤◌, ◌-◌, ◌++◌, map, take, drop, length}
use Rattle.oi_history.specs.Tasks.{told_task}
use Rattle.oi_history.proofs.tables.tell_within.Given as goal

abbrev pub invariant-loop-id : goal.invariant-loop-id
invariant-loop-id l = (l.low ≤ l.id) × (length l.tasks.items ≡ length l.initial.tasks.items) × (l.tasks.items ≡ map told_task (take l.id l.initial.tasks.items) ++ drop l.id l.initial.tasks.items)

abbrev pub decreases-loop-id : goal.decreases-loop-id
decreases-loop-id l = l.end - l.id
