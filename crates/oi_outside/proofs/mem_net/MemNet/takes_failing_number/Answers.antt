-- The numbers that wait are those of dials.
use Rattle.std.proofs.Common.{◌<◌, length, subst}
use Rattle.std.specs.List.{All}
use Rattle.oi_outside.specs.MemNets.{FarEnd, MemNetwork}
use Rattle.oi_outside.proofs.MemNets.{known_told}
use Rattle.oi_outside.proofs.mem_net.MemNet.takes_failing_number.Goals as goal

pub returns-clause-known : goal.returns-clause-known
returns-clause-known c = known_told c.args.self.now (subst (λ (n : MemNetwork). All (λ (e : FarEnd). e.dial < length n.dialled) n.ends) c.self.view_is c.self.invariant.2)
