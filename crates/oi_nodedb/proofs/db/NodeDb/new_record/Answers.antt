use Rattle.oi_nodedb.specs.Databases.{fresh}
use Rattle.oi_settings.specs.Schema.{fresh_pairs}
use Rattle.oi_nodedb.proofs.Outcomes.{Adds-ascends, Adds-same, node_is}
use Rattle.oi_nodedb.proofs.db.NodeDb.new_record.Goals as goal

pub invariant_of-self : goal.invariant_of-self
invariant_of-self g c =
    Adds-ascends c.in-Ok-fresh.record c.add.result c.self.inside.records.items c.add.new.records.items (g.R.RecordStore.records c.args.store.now) (g.R.RecordStore.records c.add.new.store)
    c.self.invariant c.add.ensures.adds

pub returns-in-Ok-fresh-clause-adds : goal.returns-in-Ok-fresh-clause-adds
returns-in-Ok-fresh-clause-adds g c =
    Adds-same c.in-Ok-fresh.record (fresh c.args.key) c.add.result c.self.inside.records.items c.args.self.now c.add.new.records.items (g.R.RecordStore.records c.args.store.now)
    (g.R.RecordStore.records c.add.new.store) (node_is c.in-Ok-fresh.record c.args.key (fresh_pairs c.args.key) c.in-Ok-fresh.ensures.0 c.in-Ok-fresh.ensures.1) c.self.view_is c.add.ensures.adds
