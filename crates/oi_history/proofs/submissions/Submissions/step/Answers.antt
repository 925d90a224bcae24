use Rattle.std.proofs.Common.{◌∙◌, ℕ, ap, map, refl, rules}
use Rattle.oi_history.proofs.Tallied.{each_same, moved-to, stepped, stepped-none}
use Rattle.oi_history.specs.Recovering.{hit_by, tasks_step}
use Rattle.oi_recovery.specs.declared.hit.Hit.TheVariants.{Ended}
use Rattle.oi_history.proofs.submissions.Submissions.step.Goals as goal

pub returns-else-accepted-clause-ok : goal.returns-else-accepted-clause-ok
returns-else-accepted-clause-ok c = rw (c.in-PduIn.is, c.if-accepted.false) (stepped-none c.args.self.now _ c.args.self.now.tasks refl refl)

pub returns-in-Terminate-clause-ok : goal.returns-in-Terminate-clause-ok
returns-in-Terminate-clause-ok c =
    rw c.in-Terminate.is (stepped c.args.self.now c.strike_each.new.self _ _ refl (moved-to c.args.self.now c.strike_each.new.self _ _
    (each_same (hit_by c.args.self.now.allowed c.args.at Ended) 0 c.args.self.now.tasks ∙ ap (λ (a : ℕ). map (hit_by a c.args.at Ended) c.args.self.now.tasks) c.requires.allowed) c.strike_each.ensures))

pub returns-clause-ok : goal.returns-clause-ok
returns-clause-ok c =
    stepped-none c.args.self.now c.args.event.now (tasks_step c.args.config.now c.args.at c.args.accepted c.args.phase c.args.handler c.args.busy.now c.args.event.now c.args.self.now.tasks) (search rules) (search rules)
