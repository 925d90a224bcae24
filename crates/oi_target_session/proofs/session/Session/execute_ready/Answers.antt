use Rattle.std.proofs.Common.{ap}
use Rattle.oi_target_session.proofs.Wakes.{wakes_on}
use Rattle.oi_target_session.specs.Owing.{woken}
use Rattle.oi_target_session.specs.Sessions.{Session}
use Rattle.oi_target_session.proofs.session.Session.execute_ready.Goals as goal

pub loop-task-preserved : goal.loop-task-preserved
loop-task-preserved c =
    wakes_on c.loop-task.self c.loop-task.units c.execute.new.self c.loop-task.owed.items c.push.new.self.items c.args.self.now
    (woken c.args.self.now.nexus c.args.units.now c.args.self.now.tasks) c.args.owed.now.items c.in-Some.task c.next_ready.new.self c.in_ok-reply.reply
    c.self.inside.nexus.bytes c.as_slice.result.now (ap (λ (s : Session). s.nexus) c.self.view_is) c.as_slice.ensures c.in-Some.ensures.some.1
    c.in-Some.ensures.some.0 c.in-Some.ensures.some.2 c.in_ok-reply.ensures.reply c.in_ok-reply.ensures.units c.in_ok-push.ensures.items c.loop-task.invariant
