use Rattle.oi_pair.specs.Ledgers.{IsSameSeat}
use Rattle.oi_pair.proofs.tests.enter_all.Given as goal

abbrev pub invariant-loop-value : goal.invariant-loop-value
invariant-loop-value g l = IsSameSeat l.initial.seat l.seat
