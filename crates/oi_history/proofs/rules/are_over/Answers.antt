use Rattle.oi_history.proofs.Among.{all-first, all-later}
use Rattle.oi_history.proofs.rules.are_over.Goals as goal

pub returns-then-are_among : goal.returns-then-are_among
returns-then-are_among c =
    all-later c.args.ended.now.items c.as_slices.result.0.now c.as_slices.result.1.now c.args.queue.now.items c.are_among.result c.are_among-then-are_among.result c.as_slices.ensures.items c.are_among.ensures c.if-are_among.true c.are_among-then-are_among.ensures

pub returns-else-are_among : goal.returns-else-are_among
returns-else-are_among c =
    all-first c.args.ended.now.items c.as_slices.result.0.now c.as_slices.result.1.now c.args.queue.now.items c.are_among.result c.as_slices.ensures.items c.are_among.ensures c.if-are_among.false
