use Rattle.std.proofs.Common.{◌≡◌, map}
use Rattle.oi_history.proofs.tables.fates_of.Given as goal

abbrev pub invariant-loop-task : goal.invariant-loop-task
invariant-loop-task l = l.fates.items ≡ map (λ t. t.fate) l.yielded
