use Rattle.std.proofs.Common.{◌≡◌, ◌≤◌, ◌-◌, count_by, take}
use Rattle.oi_history.specs.Tasks.{is_due}
use Rattle.oi_history.proofs.tables.count_due.Given as goal

abbrev pub invariant-loop-id : goal.invariant-loop-id
invariant-loop-id l = (l.low ≤ l.id) × (l.count ≤ l.id) × (l.count ≡ count_by is_due (take l.id l.tasks))

abbrev pub decreases-loop-id : goal.decreases-loop-id
decreases-loop-id l = l.end - l.id
