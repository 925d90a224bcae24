use Rattle.std.proofs.Common.{◌∙◌}
use Rattle.oi_outside.proofs.Outputs.{written_more}
use Rattle.oi_outside.proofs.writing.write_all.Goals as goal

pub loop-at-preserved : goal.loop-at-preserved
loop-at-preserved g c = (
  c.in_ok-at.ensures.moved.1,
  written_more _ _ _ c.args.bytes.now c.loop-at.at c.in_ok-at.at c.in_ok-at.ensures.moved.0 c.loop-at.invariant.1 c.in_ok-at.ensures.moved.2,
  c.in_ok-at.ensures.count ∙ c.loop-at.invariant.2,
)
