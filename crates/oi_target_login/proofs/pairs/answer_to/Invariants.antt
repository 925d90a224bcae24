use Rattle.std.proofs.Common.{◌≡◌, drop}
use Rattle.oi_negotiate.specs.Negotiated.{answer_to}
use Rattle.oi_target_login.proofs.pairs.answer_to.Given as goal

abbrev pub invariant-loop-pair : goal.invariant-loop-pair
invariant-loop-pair l = answer_to l.key l.pairs ≡ answer_to l.key (drop l.pair-index l.pairs)
