use Rattle.std.proofs.Common.{◌≡◌, drop}
use Rattle.oi_history.specs.Judging.{are_over}
use Rattle.oi_history.proofs.rules.are_among.Given as goal

abbrev pub invariant-loop-q : goal.invariant-loop-q
invariant-loop-q l = are_over l.ended.items l.queue ≡ are_over l.ended.items (drop l.q-index l.queue)
