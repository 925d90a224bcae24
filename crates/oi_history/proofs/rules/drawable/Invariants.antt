use Rattle.std.proofs.Common.{◌≡◌, ◌≤◌, length, take}
use Rattle.oi_history.specs.Queues.{drawable}
use Rattle.oi_history.proofs.rules.drawable.Given as goal

abbrev pub invariant-loop-r : goal.invariant-loop-r
invariant-loop-r l = (l.count ≤ l.r-index) × (l.count ≡ length (drawable l.busy l.tasks (take l.r-index l.solicited)))
