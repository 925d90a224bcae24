use Rattle.std.proofs.Common.{◌≡◌, length, take}
use Rattle.oi_base.specs.Counts.{told}
use Rattle.oi_text.specs.Pairs.{text_of}
use Rattle.oi_sendtargets.proofs.read.place_behind.Given as goal

abbrev pub invariant-loop-pair : goal.invariant-loop-pair
invariant-loop-pair l = l.place ≡ told (length (text_of (take l.pair-index l.pairs)))
