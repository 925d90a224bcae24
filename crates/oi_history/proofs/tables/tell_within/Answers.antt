use Rattle.std.proofs.Common.{◌∙◌, ap, arith, refl}
use Rattle.std.proofs.Math.ListN.{length-set}
use Rattle.oi_history.specs.Tasks.{told_task}
use Rattle.oi_history.proofs.Delivering.{told_first, told_last}
use Rattle.oi_history.proofs.Places.{changed_over}
use Rattle.oi_history.proofs.tables.tell_within.Goals as goal

pub loop-id-init : goal.loop-id-init
loop-id-init c = (omega arith, refl, told_first c.args.low c.args.high c.args.tasks.now.items c.requires)

pub loop-id-preserved : goal.loop-id-preserved
loop-id-preserved c = (
  omega arith,
  length-set c.loop-id.tasks.items c.loop-id.id c.tell.new.task ∙ c.loop-id.invariant.1,
  changed_over told_task c.args.tasks.now.items c.loop-id.tasks.items c.loop-id.id c.index_mut-task.result.now c.tell.new.task (omega (arith, c.min-end.ensures)) c.loop-id.invariant.2 (c.tell.ensures ∙ ap told_task c.index_mut-task.ensures.value),
)

pub returns : goal.returns
returns c = told_last c.args.low c.args.high c.loop-id.id c.args.tasks.now.items c.loop-id.tasks.items c.requires (omega (arith, c.min-end.ensures)) c.loop-id.invariant.2
