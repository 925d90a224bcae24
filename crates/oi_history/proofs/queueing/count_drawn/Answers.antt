use Rattle.std.proofs.Common.{arith}
use Rattle.oi_history.proofs.Drawing.{drawn-part}
use Rattle.oi_history.proofs.queueing.count_drawn.Goals as goal

pub returns-then-more-count-clause-none : goal.returns-then-more-count-clause-none
returns-then-more-count-clause-none c =
    λ is. omega (
      arith,
      c.loop-r.invariant,
      c.count_wanted-more.ensures,
      c.if-more-count.true,
      drawn-part c.args.params c.args.busy.now c.args.tasks.now c.args.solicited.now c.loop-r.r-index (record { tag = record { 0 = 0 }; ttt = 0; offset = 0; length = 0 }) c.loop-r-test.true,
    )
