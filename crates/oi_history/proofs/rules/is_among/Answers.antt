use Rattle.oi_history.proofs.Among.{among-first, among-later}
use Rattle.oi_history.proofs.rules.is_among.Goals as goal

pub returns-then-is_over : goal.returns-then-is_over
returns-then-is_over c =
    among-first c.as_slices.result.0.now c.as_slices.result.1.now c.args.ended.now.items c.args.tag.0 c.is_over.result c.as_slices.ensures.items c.is_over.ensures c.if-is_over.true

pub returns-else-is_over : goal.returns-else-is_over
returns-else-is_over c =
    among-later c.as_slices.result.0.now c.as_slices.result.1.now c.args.ended.now.items c.args.tag.0 c.is_over.result c.is_over-else-is_over.result c.as_slices.ensures.items c.is_over.ensures c.if-is_over.false c.is_over-else-is_over.ensures
