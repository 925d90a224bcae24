use Rattle.std.proofs.Common.{take}
use Rattle.std.specs.List.{flat_map}
use Rattle.oi_stream.proofs.Streams.{SoFar}
use Rattle.oi_stream.proofs.pieces.frame_pieces.Given as goal

abbrev pub invariant-loop-piece : goal.invariant-loop-piece
invariant-loop-piece l = SoFar l.limit (flat_map (λ b. b) (take l.piece-index l.pieces)) l.fn.out.items l.out.items l.splitter
