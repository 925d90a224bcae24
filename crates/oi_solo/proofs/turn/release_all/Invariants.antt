use Rattle.std.proofs.Common.{length}
use Rattle.oi_solo.proofs.Turning.{IsReleasing}
use Rattle.oi_solo.proofs.turn.release_all.Given as goal

abbrev pub invariant-loop-tag : goal.invariant-loop-tag
invariant-loop-tag l = IsReleasing l.initial.kept l.kept

abbrev pub decreases-loop-tag : goal.decreases-loop-tag
decreases-loop-tag l = length l.kept.ledger.now.ended
