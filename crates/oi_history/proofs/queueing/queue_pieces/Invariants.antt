use Rattle.std.proofs.Common.{◌≡◌, ◌≤◌, ◌+◌, ◌++◌}
use Rattle.std.specs.VecDeque.{deque_capacity, deque_len}
use Rattle.oi_history.specs.Queues.{queued_as}
use Rattle.oi_history.proofs.queueing.queue_pieces.Given as goal

abbrev pub invariant-loop-piece : goal.invariant-loop-piece
invariant-loop-piece l =
    (l.queue.items ≡ l.initial.queue.items ++ queued_as l.id l.tag l.ttt l.yielded) × (deque_capacity l.queue ≡ deque_capacity l.initial.queue)
    × (deque_len l.queue + goal.iterator-loop-piece.remaining l.piece-iterator ≤ deque_capacity l.queue)
