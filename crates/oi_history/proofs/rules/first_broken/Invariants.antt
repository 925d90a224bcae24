use Rattle.std.proofs.Common.{◌≡◌, ◌+◌, drop}
use Rattle.oi_history.specs.Judging.{first_broken}
use Rattle.oi_history.proofs.rules.first_broken.Given as goal

abbrev pub invariant-loop-holds : goal.invariant-loop-holds
invariant-loop-holds l = (l.rule ≡ l.holds-index + 1) × (first_broken 1 l.rules ≡ first_broken l.rule (drop l.holds-index l.rules))
