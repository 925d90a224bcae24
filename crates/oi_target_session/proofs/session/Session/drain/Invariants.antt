use Rattle.std.proofs.Common.{length}
use Rattle.oi_target_login.specs.Grown.{IsGrown}
use Rattle.oi_target_session.specs.Sessions.{drained}
use Rattle.oi_target_session.proofs.Drains.{Drains}
use Rattle.oi_target_session.proofs.session.Session.drain.Given as goal

abbrev pub invariant-loop-task : goal.invariant-loop-task
invariant-loop-task l = Drains l.self l.units l.out.items (drained l.fn.self l.fn.units l.fn.self.tasks) l.fn.out.items × IsGrown l.fn.out.items l.out.items

abbrev pub decreases-loop-task : goal.decreases-loop-task
decreases-loop-task l = length l.self.tasks
