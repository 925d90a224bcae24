use Rattle.std.proofs.Common.{◌≡◌}
use Rattle.oi_pair.proofs.pair.Pair.take_back_too.Given as goal

abbrev pub invariant-loop : goal.invariant-loop
invariant-loop g l =
    (l.self-inside ≡ l.initial.self-inside)
    × (l.seat-inside.seat.table_id ≡ l.initial.seat-inside.seat.table_id)
    × (l.seat-inside.seat.me ≡ l.initial.seat-inside.seat.me)
    × (l.seat-inside.parts ≡ l.initial.seat-inside.parts)
