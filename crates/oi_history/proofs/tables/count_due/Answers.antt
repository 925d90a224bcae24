use Rattle.std.proofs.Common.{arith}
use Rattle.oi_history.proofs.Delivering.{count_first, count_last}
use Rattle.oi_history.proofs.tables.count_due.Goals as goal

pub loop-id-init : goal.loop-id-init
loop-id-init c = (omega arith, omega arith, count_first c.args.low c.args.high c.args.tasks.now c.requires)

pub returns : goal.returns
returns c = count_last c.args.low c.args.high c.loop-id.id c.loop-id.count c.args.tasks.now c.requires (omega (arith, c.min-end.ensures)) c.loop-id.invariant.2
