use Rattle.std.proofs.Common.{◌∙◌, arith}
use Rattle.oi_history.proofs.Delivering.{due_first, due_last}
use Rattle.oi_history.proofs.Places.{due_step}
use Rattle.oi_history.proofs.tables.due_within.Goals as goal

pub loop-id-init : goal.loop-id-init
loop-id-init c = (omega arith, c.new-out.ensures.items ∙ due_first c.args.low c.args.high c.args.tasks.now c.requires)

pub loop-id-preserved : goal.loop-id-preserved
loop-id-preserved c =
    (omega arith, due_step c.args.tasks.now c.loop-id.id c.index-tasks-id.result c.loop-id.out.items c.add_due.new.out.items (omega (arith, c.min-end.ensures)) c.index-tasks-id.is c.loop-id.invariant.1 c.in_ok-add_due.ensures.ok)

pub returns : goal.returns
returns c = due_last c.args.low c.args.high c.loop-id.id c.args.tasks.now c.loop-id.out.items c.requires (omega (arith, c.min-end.ensures)) c.loop-id.invariant.1
