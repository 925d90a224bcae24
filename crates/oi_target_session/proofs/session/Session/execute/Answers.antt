use Rattle.std.proofs.Common.{ap, sym}
use Rattle.oi_target_session.proofs.Drains.{lent_is, lent_out}
use Rattle.oi_target_session.specs.Sessions.{Session}
use Rattle.oi_target_session.proofs.session.Session.execute.Goals as goal
use Rattle.oi_units.specs.Units.{Executed}

pub returns-in-Some-clause-units : goal.returns-in-Some-clause-units
returns-in-Some-clause-units c =
    sym (ap (λ (e : Executed). e.units) (lent_is c.args.units.now c.self.inside.nexus.bytes c.args.self.now.nexus c.args.task.now.command c.args.task.now.payload _
    (ap (λ (s : Session). s.nexus) c.self.view_is) c.in-Some.ensures.some))

pub returns-in-Some-clause-out : goal.returns-in-Some-clause-out
returns-in-Some-clause-out c =
    lent_out c.args.self.now c.args.units.now c.self.inside.nexus.bytes c.args.task.now _ c.send.new.out.items c.args.out.now.items
    (ap (λ (s : Session). s.nexus) c.self.view_is) c.in-Some.ensures.some c.in-Some.ensures.size.0 c.in_ok-send.ensures.out
