use Rattle.std.proofs.Common.{rules}
use Rattle.oi_history.proofs.Tallied.{each_same, moved-none, moved-to}
use Rattle.oi_history.specs.Recovering.{carried_out, hit_by, reset_by}
use Rattle.oi_recovery.specs.declared.hit.Hit.TheVariants.{ResetDone}
use Rattle.oi_history.proofs.submissions.Submissions.carry_out.Goals as goal

pub returns-in-ResettingLun : goal.returns-in-ResettingLun
returns-in-ResettingLun c = rw c.in-ResettingLun.is (moved-to c.args.self.now c.strike_each.new.self _ _ (each_same (reset_by c.args.self.now.allowed c.args.at c.in-ResettingLun.lun) 0 c.args.self.now.tasks) c.strike_each.ensures)

pub returns-in-ResettingTarget : goal.returns-in-ResettingTarget
returns-in-ResettingTarget c =
    rw c.in-ResettingTarget.is (moved-to c.args.self.now c.strike_each-in-ResettingTarget.new.self _ _ (each_same (hit_by c.args.self.now.allowed c.args.at ResetDone) 0 c.args.self.now.tasks) c.strike_each-in-ResettingTarget.ensures)

pub returns-in_default : goal.returns-in_default
returns-in_default c = moved-none c.args.self.now (carried_out c.args.self.now.allowed c.args.at c.args.handler c.args.self.now.tasks) (search rules)
