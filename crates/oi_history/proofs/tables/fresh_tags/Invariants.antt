use Rattle.std.proofs.Common.{◌≡◌}
use Rattle.oi_history.specs.Tags.{fresh_tags}
use Rattle.oi_history.proofs.tables.fresh_tags.Given as goal

abbrev pub invariant-loop-index : goal.invariant-loop-index
invariant-loop-index l = l.tags.items ≡ fresh_tags l.age l.index
