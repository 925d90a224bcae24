use Rattle.std.proofs.Common.{◌∙◌, ap, arith, length}
use Rattle.oi_history.proofs.Among.{length-fresh}
use Rattle.oi_history.proofs.Places.{fresh_tags_more}
use Rattle.oi_history.proofs.ledger_steps.free_all.Goals as goal

pub push_back_reserved-requires : goal.push_back_reserved-requires
push_back_reserved-requires c =
    omega (arith, c.requires.room, c.clear.ensures.capacity, c.loop-index.free.ok, ap length c.loop-index.invariant.0, length-fresh c.args.age c.loop-index.index, c.loop-index.invariant.1, c.loop-index-test.true)

pub loop-index-preserved : goal.loop-index-preserved
loop-index-preserved c =
    (c.push_back_reserved.ensures.items ∙ fresh_tags_more c.args.age c.loop-index.index c.loop-index.free.items c.command.result c.loop-index.invariant.0 c.command.ensures, c.push_back_reserved.ensures.capacity ∙ c.loop-index.invariant.1)
