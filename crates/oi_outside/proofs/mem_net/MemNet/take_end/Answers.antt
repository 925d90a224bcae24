-- With one end fewer, the numbers that wait are still those of dials.
use Rattle.std.proofs.Common.{length}
use Rattle.oi_outside.proofs.MemNets.{known_rest}
use Rattle.oi_outside.proofs.mem_net.MemNet.take_end.Goals as goal

pub invariant_of-self : goal.invariant_of-self
invariant_of-self c = (
  c.self.invariant.0,
  c.self.invariant.1,
  known_rest (length c.self.inside.dialled) c.in-Some.at c.self.inside.waiting.items c.take_at-read.new.ends.items c.self.invariant.2 c.take_at-read.ensures.rest,
)
