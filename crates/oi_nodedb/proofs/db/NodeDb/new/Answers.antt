use Rattle.std.proofs.Common.{List, subst, sym}
use Rattle.std.specs.List.Sorted.{IsStrictlySortedBy}
use Rattle.oi_settings.specs.Texts.{Node}
use Rattle.oi_nodedb.specs.Databases.{Ascends}
use Rattle.oi_nodedb.proofs.db.NodeDb.new.Goals as goal

pub invariant_of-result : goal.invariant_of-result
unfolding IsStrictlySortedBy
invariant_of-result c = subst (λ (ns : List Node). Ascends ns) (sym c.new.ensures.items) tt
