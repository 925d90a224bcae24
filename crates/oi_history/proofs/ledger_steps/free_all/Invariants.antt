use Rattle.std.proofs.Common.{◌≡◌}
use Rattle.std.specs.VecDeque.{deque_capacity}
use Rattle.oi_history.specs.Tags.{fresh_tags}
use Rattle.oi_history.proofs.ledger_steps.free_all.Given as goal

abbrev pub invariant-loop-index : goal.invariant-loop-index
invariant-loop-index l = (l.free.items ≡ fresh_tags l.age l.index) × (deque_capacity l.free ≡ deque_capacity l.initial.free)
