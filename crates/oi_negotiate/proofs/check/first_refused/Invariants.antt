use Rattle.std.proofs.Common.{◌≡◌, take, drop}
use Rattle.oi_negotiate.specs.Negotiated.{first_refused, refused_key}
use Rattle.oi_negotiate.proofs.check.first_refused.Given as goal

abbrev pub invariant-loop-at : goal.invariant-loop-at
invariant-loop-at l = refused_key l.pairs ≡ first_refused (take l.at l.pairs) (drop l.at l.pairs)
