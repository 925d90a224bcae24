use Rattle.std.proofs.Common.{refl}
use Rattle.oi_target_login.proofs.Growing.{grown_more}
use Rattle.oi_target_session.specs.Sessions.{drained}
use Rattle.oi_target_session.proofs.Drains.{drains_on}
use Rattle.oi_target_session.proofs.session.Session.drain.Goals as goal
use Rattle.oi_units.specs.Units.{executed}

pub loop-task-preserved : goal.loop-task-preserved
loop-task-preserved c = (
  drains_on c.loop-task.self c.loop-task.units c.execute.new.units c.loop-task.out.items c.execute.new.out.items
      (drained c.args.self.now c.args.units.now c.args.self.now.tasks) c.args.out.now.items c.in-Some.task c.next_ready.new.self c.execute.new.self
      (executed c.loop-task.units c.next_ready.new.self.nexus c.in-Some.task.command c.in-Some.task.payload).reply c.next_ready.new.self.nexus c.in-Some.task.payload
      refl refl c.in-Some.ensures.some.1 c.in-Some.ensures.some.0 c.in-Some.ensures.some.2 refl c.in_ok-execute.ensures.units
      c.in_ok-execute.ensures.session c.in_ok-execute.ensures.out c.loop-task.invariant.0,
  grown_more c.args.out.now.items c.loop-task.out.items _ c.execute.new.out.items c.loop-task.invariant.1 c.in_ok-execute.ensures.out,
)
