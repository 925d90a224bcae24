use Rattle.std.proofs.Common.{◌≡◌, ◌++◌, take}
use Rattle.oi_text.specs.Pairs.{text_of}
use Rattle.oi_text.proofs.pairs.write_pairs.Given as goal

abbrev pub invariant-loop-pair : goal.invariant-loop-pair
invariant-loop-pair l = l.out.items ≡ l.fn.out.items ++ text_of (take l.pair-index l.pairs)
