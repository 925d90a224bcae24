use Rattle.std.proofs.Common.{◌≡◌, length, take}
use Rattle.oi_history.specs.Queues.{drawn}
use Rattle.oi_history.proofs.queueing.count_drawn.Given as goal

abbrev pub invariant-loop-r : goal.invariant-loop-r
invariant-loop-r l = l.count ≡ length (drawn l.params l.busy l.tasks (take l.r-index l.solicited))
