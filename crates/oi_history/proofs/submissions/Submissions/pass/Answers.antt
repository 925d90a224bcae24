use Rattle.std.proofs.Common.{refl, rules}
use Rattle.oi_history.proofs.Tallied.{each_same, moved-if, moved-none, moved-to, moved-unless}
use Rattle.oi_history.specs.Courses.{is_overdue}
use Rattle.oi_history.specs.Recovering.{hit_by}
use Rattle.oi_recovery.specs.declared.hit.Hit.TheVariants.{ReplacementPast}
use Rattle.oi_history.proofs.submissions.Submissions.pass.Goals as goal

pub returns-then-is_overdue : goal.returns-then-is_overdue
returns-then-is_overdue c =
    moved-if c.args.self.now c.strike_each.new.self (is_overdue c.args.replacement c.args.now c.args.phase) _ _ (search rules)
    (moved-to c.args.self.now c.strike_each.new.self _ _ (each_same (hit_by c.args.self.now.allowed c.args.at ReplacementPast) 0 c.args.self.now.tasks) c.strike_each.ensures)

pub returns-else-is_overdue : goal.returns-else-is_overdue
returns-else-is_overdue c =
    moved-unless c.args.self.now c.args.self.now (is_overdue c.args.replacement c.args.now c.args.phase) _ _ (search rules)
    (moved-none c.args.self.now c.args.self.now.tasks refl)
