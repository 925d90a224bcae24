-- The first one waits.
use Rattle.std.proofs.Common.{sym, ◌∙◌}
use Rattle.oi_target_tasks.proofs.Indexes.{stuck_first}
use Rattle.oi_target_tasks.proofs.tasks.Tasks.next_ready.Goals as goal

pub returns-then-is_waiting-clause-stuck : goal.returns-then-is_waiting-clause-stuck
returns-then-is_waiting-clause-stuck c =
    stuck_first c.self.inside.order.entries c.in_ok-task.field-0-0.now c.in_ok-task.task.now c.args.self.now c.in_ok-task.ensures.first c.self.view_is (sym c.is_waiting.ensures ∙ c.if-is_waiting.true)
