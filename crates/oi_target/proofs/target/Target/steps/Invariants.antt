use Rattle.std.specs.Vec.Iter.{into_iter_items}
use Rattle.oi_target.specs.Steps.{steps}
use Rattle.oi_target_login.specs.Grown.{IsGrown}
use Rattle.oi_target.proofs.Walked.{StepsOn}
use Rattle.oi_target.proofs.target.Target.steps.Given as goal

abbrev pub invariant-loop-pdu : goal.invariant-loop-pdu
invariant-loop-pdu l =
    (goal.iterator-loop-pdu).can_next l.pdu-iterator
    × (goal.iterator-loop-pdu).is_finite l.pdu-iterator
    × StepsOn (steps l.self l.standing (into_iter_items l.pdu-iterator)) l.out.items (steps l.fn.self l.fn.standing l.fn.pdus.items) l.fn.out.items
    × IsGrown l.fn.out.items l.out.items
