use Rattle.std.proofs.Common.{◌≡◌, drop}
use Rattle.oi_history.specs.Judging.{is_over}
use Rattle.oi_history.proofs.rules.is_over.Given as goal

abbrev pub invariant-loop-t : goal.invariant-loop-t
invariant-loop-t l = is_over l.ended l.tag.0 ≡ is_over (drop l.t-index l.ended) l.tag.0
