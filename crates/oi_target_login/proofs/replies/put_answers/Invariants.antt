use Rattle.std.proofs.Common.{◌≡◌, ◌++◌, drop}
use Rattle.oi_text.specs.Pairs.{text_of}
use Rattle.oi_target_login.specs.Answers.{answers}
use Rattle.oi_target_login.proofs.replies.put_answers.Given as goal

abbrev pub invariant-loop-pair : goal.invariant-loop-pair
invariant-loop-pair l = l.out.items ++ text_of (answers l.params (drop l.pair-index l.pairs)) ≡ l.initial.out.items ++ text_of (answers l.params l.pairs)
