use Rattle.std.proofs.Common.{length}
use Rattle.oi_sendtargets.proofs.Reading.{IsReadTo}
use Rattle.oi_sendtargets.proofs.read.read_listing.Given as goal

abbrev pub invariant-loop-rest : goal.invariant-loop-rest
invariant-loop-rest l = IsReadTo l.pairs l.rest l.asked l.found.items

abbrev pub decreases-loop-rest : goal.decreases-loop-rest
decreases-loop-rest l = length l.rest
