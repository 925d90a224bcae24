use Rattle.std.proofs.Common.{arith}
use Rattle.oi_tags.proofs.Kept.{kept_all}
use Rattle.oi_tags.proofs.tags.TagsTagPool.new.Goals as goal

pub invariant_of-result : goal.invariant_of-result
invariant_of-result c =
    kept_all 0 c.args.count _ _ _ c.refill.ensures.items (c.in_ok-states.ensures.items_if_clones_equal (λ y e. e)) (omega arith) (omega arith) (omega (arith, c.refill.ensures.room, c.in_ok-free.ensures.exact))
