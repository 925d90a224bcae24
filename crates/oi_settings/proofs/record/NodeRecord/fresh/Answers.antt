use Rattle.oi_settings.proofs.FreshPairs.{fresh_node}
use Rattle.oi_settings.proofs.record.NodeRecord.fresh.Goals as goal

pub invariant_of-result : goal.invariant_of-result
invariant_of-result c = rw c.in_ok-settings.ensures (fresh_node c.args.key (rw (← c.key.view_is) c.key.invariant))
