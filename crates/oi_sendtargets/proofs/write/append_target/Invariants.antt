use Rattle.std.proofs.Common.{◌≡◌, ◌++◌, take}
use Rattle.oi_text.specs.Pairs.{text_of}
use Rattle.oi_sendtargets.specs.Payloads.{target_pairs}
use Rattle.oi_sendtargets.specs.Listings.{target_at}
use Rattle.oi_sendtargets.proofs.write.append_target.Given as goal

abbrev pub invariant-loop-listed : goal.invariant-loop-listed
invariant-loop-listed l = l.out.items ≡ l.fn.out.items ++ text_of (target_pairs (target_at l.target (take l.listed-index l.found)))
