use Rattle.std.proofs.Common.{◌≡◌, ◌++◌, length}
use Rattle.oi_text.specs.Pairs.{text_of, ArePairs}
use Rattle.oi_text.proofs.pairs.read_pairs.Given as goal

abbrev pub invariant-loop-rest : goal.invariant-loop-rest
invariant-loop-rest l = record { whole : l.bytes ≡ text_of l.pairs.items ++ l.rest; pairs : ArePairs l.pairs.items }

abbrev pub decreases-loop-rest : goal.decreases-loop-rest
decreases-loop-rest l = length l.rest
