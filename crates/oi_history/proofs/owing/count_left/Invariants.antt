use Rattle.std.proofs.Common.{◌≡◌, ◌≤◌, filter, length, take}
use Rattle.oi_history.specs.Releasing.{counts_left}
use Rattle.oi_history.proofs.owing.count_left.Given as goal

abbrev pub invariant-loop-r : goal.invariant-loop-r
invariant-loop-r l = (l.count ≤ l.r-index) × (l.count ≡ length (filter (counts_left l.ended.items l.busy l.tasks) (take l.r-index l.solicited)))
