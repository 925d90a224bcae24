use Rattle.std.specs.Vec.Iter.{into_iter_items}
use Rattle.oi_target_login.specs.Grown.{IsGrown}
use Rattle.oi_target_session.proofs.Wakes.{Pays}
use Rattle.oi_target_session.proofs.session.Session.pay.Given as goal

abbrev pub invariant-loop-reply : goal.invariant-loop-reply
invariant-loop-reply l =
    (goal.iterator-loop-reply).can_next l.reply-iterator
    × (goal.iterator-loop-reply).is_finite l.reply-iterator
    × Pays l.self l.out.items (into_iter_items l.reply-iterator) l.fn.self l.fn.owed.items l.fn.out.items
    × IsGrown l.fn.out.items l.out.items
