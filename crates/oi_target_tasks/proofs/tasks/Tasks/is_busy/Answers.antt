-- The number under the tag names the only command that may have it.
use Rattle.std.proofs.Common.{sym, ◌∙◌}
use Rattle.oi_target_tasks.proofs.Indexes.{busy_gone, busy_placed, busy_unplaced}
use Rattle.oi_target_tasks.proofs.tasks.Tasks.is_busy.Goals as goal

pub returns-in_default : goal.returns-in_default
returns-in_default c = busy_unplaced c.self.invariant c.args.self.now c.self.view_is c.args.tag (sym c.number_at.ensures ∙ c.in_default.is)

pub returns-in-Some-get : goal.returns-in-Some-get
returns-in-Some-get c =
    busy_placed c.self.invariant c.args.self.now c.self.view_is c.args.tag c.in-Some.number (sym c.number_at.ensures ∙ c.in-Some.is) c.in-Some-get.task.now c.in-Some-get.ensures.value

pub returns-in-None : goal.returns-in-None
returns-in-None c =
    busy_gone c.self.invariant c.args.self.now c.self.view_is c.args.tag c.in-Some.number (sym c.number_at.ensures ∙ c.in-Some.is) c.in-None.ensures.value
