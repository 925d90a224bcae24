-- What the net tells follows from what it does.
use Rattle.oi_outside.proofs.MemNets.{accept_told}
use Rattle.oi_outside.proofs.mem_net.MemNetNet.accept.Goals as goal

pub returns-clause-link : goal.returns-clause-link
returns-clause-link c =
    accept_told c.args.portal.now c.args.self.now c.takes_failing_number.new.self c.take_end.new.self c.in_ok-take_end.field-0 c.takes_failing_number.ensures.after c.in_ok-take_end.ensures.link
