use Rattle.std.proofs.Common.{◌≡◌, drop}
use Rattle.oi_negotiate.specs.Negotiated.{answer_to}
use Rattle.oi_negotiate.proofs.negotiation.answer_to.Given as goal

abbrev pub invariant-loop-pair : goal.invariant-loop-pair
invariant-loop-pair l = answer_to l.name l.pairs ≡ answer_to l.name (drop l.pair-index l.pairs)
