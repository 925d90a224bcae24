use Rattle.std.proofs.Common.{◌≡◌, ◌≤◌, false, length, take}
use Rattle.oi_pipe.proofs.tests.give_all.Given as goal

abbrev pub invariant-loop : goal.invariant-loop
invariant-loop g l =
    (goal.iterator-loop g).can_next l.iterator'
    × (goal.iterator-loop g).is_finite l.iterator'
    × (l.writer.pipe ≡ l.initial.writer.pipe)
    × (l.writer.closed ≡ false)
    × (l.at ≤ length l.all)
    × (l.writer.given ≡ take l.at l.all)
