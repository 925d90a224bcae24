use Rattle.std.proofs.Common.{◌≡◌, drop, take}
use Rattle.oi_history.specs.Indices.{IsIndexed, high_over, low_over, no_low}
use Rattle.oi_history.specs.declared.index.Index.{Index}
use Rattle.oi_history.specs.declared.task.Task.{Task}
use Rattle.oi_history.proofs.index.Index.build.Given as goal

abbrev pub invariant-loop-count : goal.invariant-loop-count
invariant-loop-count l =
    IsIndexed l.self (take l.count l.tasks)
    × (low_over l.count (drop l.count l.tasks) l.self.low ≡ low_over 0 l.tasks no_low)
    × (high_over l.count (drop l.count l.tasks) l.self.high ≡ high_over 0 l.tasks 0)
