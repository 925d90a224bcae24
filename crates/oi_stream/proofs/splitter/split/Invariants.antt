use Rattle.std.proofs.Common.{false, ◌-◌, ◌≤◌, length, take}
use Rattle.oi_stream.specs.Feeding.{GoesOn}
use Rattle.oi_stream.specs.Steps.{IsGoing, state_of}
use Rattle.oi_stream.proofs.splitter.split.Given as goal

abbrev pub invariant-loop-whole : goal.invariant-loop-whole
invariant-loop-whole l = record {
  within : l.at ≤ length l.piece;
  going : IsGoing l.part;
  so_far : GoesOn (state_of l.limit l.fn.place l.fn.part false) (state_of l.limit l.place l.part false) (take l.at l.piece) l.fn.out.items l.out.items;
}

abbrev pub decreases-loop-whole : goal.decreases-loop-whole
decreases-loop-whole l = length l.piece - l.at
