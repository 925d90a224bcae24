use Rattle.std.proofs.Common.{◌≡◌, List}
use Rattle.oi_history.specs.Indices.{IsIndexed}
use Rattle.oi_history.specs.declared.task.Task.{Task}
use Rattle.oi_history.proofs.Indexed.{sendable_below}
use Rattle.oi_history.proofs.index.Index.sendable.Given as goal

abbrev pub invariant-loop-lun : goal.invariant-loop-lun
invariant-loop-lun l = (ts : List Task) → IsIndexed l.self ts → l.first ≡ sendable_below l.lun-index l.depth ts
