use Rattle.oi_nodedb.proofs.Outcomes.{Drops-ascends}
use Rattle.oi_nodedb.proofs.db.NodeDb.delete.Goals as goal

pub invariant_of-self : goal.invariant_of-self
invariant_of-self g c =
    Drops-ascends c.args.filter.now c.remove_all-done.result c.self.inside.records.items c.remove_all-done.new.records.items (g.R.RecordStore.records c.args.store.now)
    (g.R.RecordStore.records c.remove_all-done.new.store) c.self.invariant c.remove_all-done.ensures.drops
