-- The key's pair goes out with it.
use Rattle.std.proofs.Common.{sym}
use Rattle.oi_timers.proofs.Pairs.{Agree-taken}
use Rattle.oi_timers.proofs.agenda.Agenda.clear.Goals as goal

pub invariant_of-self : goal.invariant_of-self
invariant_of-self c = (Agree-taken c.self.inside.by_key c.remove.new.self c.self.inside.by_time c.remove-in-Some.new.self c.args.key c.in-Some.at c.self.invariant.0 c.remove-in-Some.ensures.updates c.in-Some.ensures.updates (sym c.in-Some.ensures.value), c.in-Some.ensures.ordered)
