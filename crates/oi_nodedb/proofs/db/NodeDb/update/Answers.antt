use Rattle.oi_nodedb.proofs.Outcomes.{Updates-named}
use Rattle.oi_nodedb.proofs.db.NodeDb.update.Goals as goal

pub returns-clause-updates : goal.returns-clause-updates
returns-clause-updates g c =
    Updates-named c.args.filter.now c.as_bytes.result.now c.args.name.now c.as_bytes-2.result.now c.args.value.now c.update_bytes.result c.args.self.now c.update_bytes.new.self
    (g.R.RecordStore.records c.args.store.now) (g.R.RecordStore.records c.update_bytes.new.store) c.as_bytes.ensures.value c.as_bytes-2.ensures.value c.update_bytes.ensures.updates
