use Rattle.std.proofs.Common.{[], ◌∷◌, ◌++◌}
use Rattle.oi_settings.specs.Schema.{fresh_pairs}
use Rattle.oi_nodedb.proofs.Outcomes.{Adds-ascends, Adds-same, gap_same, node_is}
use Rattle.oi_nodedb.proofs.db.NodeDb.new_marked.Goals as goal

pub invariant_of-self : goal.invariant_of-self
invariant_of-self g c =
    Adds-ascends c.in-Ok-marked.record c.add.result c.self.inside.records.items c.add.new.records.items (g.R.RecordStore.records c.args.store.now) (g.R.RecordStore.records c.add.new.store)
    c.self.invariant c.add.ensures.adds

pub returns-in-Ok-marked-clause-adds : goal.returns-in-Ok-marked-clause-adds
returns-in-Ok-marked-clause-adds g c =
    Adds-same c.in-Ok-marked.record (record { key = c.args.key; pairs = fresh_pairs c.args.key ++ (c.args.name.now, c.args.value.now) ∷ [] }) c.add.result c.self.inside.records.items c.args.self.now
    c.add.new.records.items (g.R.RecordStore.records c.args.store.now) (g.R.RecordStore.records c.add.new.store)
    (node_is c.in-Ok-marked.record c.args.key (fresh_pairs c.args.key ++ (c.args.name.now, c.args.value.now) ∷ []) c.in-Ok-marked.ensures.0 c.in-Ok-marked.ensures.1) c.self.view_is c.add.ensures.adds

pub add-requires-clause-gap : goal.add-requires-clause-gap
add-requires-clause-gap g c =
    gap_same c.deref.result.now c.self.inside.records.items c.in-Err.at c.in-Ok-marked.record c.deref.ensures.value (c.in-Err.ensures.gap c.in-Ok-marked.record c.in-Ok-marked.ensures.0)
