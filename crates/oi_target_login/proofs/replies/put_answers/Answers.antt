use Rattle.oi_target_login.proofs.Answered.{on_pair}
use Rattle.oi_target_login.proofs.replies.put_answers.Goals as goal

pub loop-pair-preserved : goal.loop-pair-preserved
loop-pair-preserved c =
    on_pair c.args.params _ c.loop-pair.out.items _ c.args.pairs.now c.loop-pair.pair-index c.pair-item.result c.loop-pair-test.true c.pair-item.is c.in_ok-put_answer.ensures c.loop-pair.invariant
