use Rattle.std.proofs.Common.{◌≡◌, ◌≤◌, ◌-◌, ◌++◌, length, take, drop}
use Rattle.oi_history.proofs.Tallied.{IsUnderWay}
use Rattle.oi_history.specs.Blows.{blow_by}
use Rattle.oi_history.specs.Recovering.{map_from}
use Rattle.oi_history.proofs.striking.strike_all.Given as goal

abbrev pub invariant-loop-id : goal.invariant-loop-id
invariant-loop-id l =
    (l.id ≤ length l.initial.tasks.items) × (length l.tasks.items ≡ length l.initial.tasks.items)
    × (l.tasks.items ≡ map_from 0 (blow_by l.allowed l.at l.blow) (take l.id l.initial.tasks.items) ++ drop l.id l.initial.tasks.items)
    × IsUnderWay l.initial.tally l.tally (blow_by l.allowed l.at l.blow) l.initial.tasks.items l.id

abbrev pub decreases-loop-id : goal.decreases-loop-id
decreases-loop-id l = length l.initial.tasks.items - l.id
