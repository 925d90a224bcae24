use Rattle.std.proofs.Common.{◌≡◌, drop}
use Rattle.oi_history.specs.Tags.{holder}
use Rattle.oi_history.proofs.acceptance.holder_of.Given as goal

abbrev pub invariant-loop-a : goal.invariant-loop-a
invariant-loop-a l = holder l.tag.0 l.busy ≡ holder l.tag.0 (drop l.a-index l.busy)
