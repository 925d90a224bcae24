use Rattle.std.proofs.Common.{◌≡◌, ◌++◌, drop}
use Rattle.oi_text.specs.Pairs.{text_of}
use Rattle.oi_login.specs.Answers.{refusals}
use Rattle.oi_login.proofs.refusals.put_refusals.Given as goal

abbrev pub invariant-loop-pair : goal.invariant-loop-pair
invariant-loop-pair l = l.out.items ++ text_of (refusals (drop l.pair-index l.pairs)) ≡ l.initial.out.items ++ text_of (refusals l.pairs)
