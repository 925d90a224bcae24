use Rattle.oi_login.proofs.Refused.{on_pair}
use Rattle.oi_login.proofs.refusals.put_refusals.Goals as goal

pub loop-pair-preserved : goal.loop-pair-preserved
loop-pair-preserved c =
    on_pair _ c.loop-pair.out.items _ c.args.pairs.now c.loop-pair.pair-index c.pair-item.result c.loop-pair-test.true c.pair-item.is (rw (← c.as_slice.ensures) c.in_ok-put_refusal.ensures) c.loop-pair.invariant
