use Rattle.std.proofs.Common.{arith, sym}
use Rattle.oi_solo.proofs.Turning.{fewer_ended, release_end, release_step}
use Rattle.oi_solo.proofs.turn.release_all.Goals as goal

pub loop-tag-smaller : goal.loop-tag-smaller
loop-tag-smaller c = let fewer = fewer_ended c.loop-tag.kept c.enter_ready.new.kept c.in-Some.tag c.loop-tag.invariant.kept (sym c.in-Some.ensures) c.enter_ready.ensures in omega (arith, fewer)

pub loop-tag-preserved : goal.loop-tag-preserved
loop-tag-preserved c = release_step c.args.kept.now c.loop-tag.kept c.enter_ready.new.kept c.in-Some.tag c.loop-tag.invariant (sym c.in-Some.ensures) c.enter_ready.ensures

pub returns : goal.returns
returns c = release_end c.args.kept.now c.loop-tag.kept c.loop-tag.invariant (sym c.in_default.ensures)
