use Rattle.std.proofs.Common.{◌≡◌}
use Rattle.std.specs.List.{range_with_len}
use Rattle.std.specs.VecDeque.{deque_len, deque_capacity}
use Rattle.oi_tags.proofs.tags.refill.Given as goal

abbrev pub invariant-loop-index : goal.invariant-loop-index
invariant-loop-index l = record {
  so_far : l.free.items ≡ range_with_len 0 l.index;
  counted : deque_len l.free ≡ l.index;
  room : deque_capacity l.free ≡ deque_capacity l.initial.free;
}
