use Rattle.std.proofs.Common.{◌≡◌}
use Rattle.oi_pipe.proofs.tests.take_all.Given as goal

abbrev pub invariant-loop : goal.invariant-loop
invariant-loop g l = (l.reader.pipe ≡ l.initial.reader.pipe) × (l.reader.taken ≡ l.all.items)
