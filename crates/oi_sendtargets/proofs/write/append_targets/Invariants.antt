use Rattle.std.proofs.Common.{◌≡◌, ◌++◌, ℕ, List, length}
use Rattle.oi_sendtargets.specs.Payloads.{payload_of}
use Rattle.oi_sendtargets.specs.Listings.{targets_of}
use Rattle.oi_sendtargets.proofs.write.append_targets.Given as goal

abbrev pub invariant-loop-rest : goal.invariant-loop-rest
invariant-loop-rest l =
    record { begun : (more : List ℕ) × (l.out.items ≡ l.fn.out.items ++ more); whole : l.out.items ++ payload_of (targets_of l.rest) ≡ l.fn.out.items ++ payload_of (targets_of l.found) }

abbrev pub decreases-loop-rest : goal.decreases-loop-rest
decreases-loop-rest l = length l.rest
