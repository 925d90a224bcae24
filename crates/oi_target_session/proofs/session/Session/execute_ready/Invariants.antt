use Rattle.std.proofs.Common.{length}
use Rattle.oi_target_session.proofs.Wakes.{Wakes}
use Rattle.oi_target_session.specs.Owing.{woken}
use Rattle.oi_target_session.proofs.session.Session.execute_ready.Given as goal

abbrev pub invariant-loop-task : goal.invariant-loop-task
invariant-loop-task l = Wakes l.self l.units l.owed.items l.fn.self (woken l.fn.self.nexus l.fn.units l.fn.self.tasks) l.fn.owed.items

abbrev pub decreases-loop-task : goal.decreases-loop-task
decreases-loop-task l = length l.self.tasks
