use Rattle.std.proofs.Common.{◌≡◌, ◌++◌, take}
use Rattle.std.specs.VecDeque.{deque_capacity}
use Rattle.oi_history.specs.Queues.{drawn}
use Rattle.oi_history.proofs.queueing.queue_drawn.Given as goal

abbrev pub invariant-loop-r : goal.invariant-loop-r
invariant-loop-r l = (l.queue.items ≡ l.initial.queue.items ++ drawn l.params l.busy l.tasks (take l.r-index l.solicited)) × (deque_capacity l.queue ≡ deque_capacity l.initial.queue)
