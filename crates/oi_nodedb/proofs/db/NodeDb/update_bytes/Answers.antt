use Rattle.std.proofs.Common.{◌<◌, ◌∙◌, refl, arith}
use Rattle.oi_nodedb.specs.Answers.{finished}
use Rattle.oi_nodedb.specs.Filters.{matching}
use Rattle.oi_nodedb.proofs.Outcomes.{Changes-ascends, Updates-from, Updates-same, count_same, finished_count, none_meant, refused_update, some_meant, some_of}
use Rattle.oi_nodedb.proofs.db.NodeDb.update_bytes.Goals as goal

pub returns-in-Err-clause-updates : goal.returns-in-Err-clause-updates
returns-in-Err-clause-updates g c =
    refused_update c.args.filter.now c.args.name.now c.args.value.now c.in-Err.fault c.args.self.now (g.R.RecordStore.records c.args.store.now) c.in-Err.ensures

pub returns-then-meant-eq0-clause-updates : goal.returns-then-meant-eq0-clause-updates
returns-then-meant-eq0-clause-updates g c =
    (c.in-Ok.ensures, none_meant c.args.filter.now c.deref.result.now c.args.self.now c.count-meant.result (c.deref.ensures.value ∙ c.self.view_is) c.count-meant.ensures c.if-meant-eq0.true, (refl, refl))

pub invariant_of-self : goal.invariant_of-self
invariant_of-self g c =
    Changes-ascends c.args.filter.now c.args.name.now c.args.value.now c.change_all-done.result c.self.inside.records.items c.change_all-done.new.records.items (g.R.RecordStore.records c.args.store.now)
    (g.R.RecordStore.records c.change_all-done.new.store) c.self.invariant c.change_all-done.ensures.changes

pub returns-clause-updates : goal.returns-clause-updates
returns-clause-updates g c =
    let f = c.args.filter.now in
    let meant = c.count-meant.result in
    let some : 0 < meant = omega arith in
    let counted = some_meant f c.deref.result.now c.self.inside.records.items meant c.deref.ensures.value c.count-meant.ensures in
    Updates-same f c.args.name.now c.args.value.now c.finished.result (finished c.change_all-done.result meant) c.self.inside.records.items c.args.self.now c.change_all-done.new.records.items
    (g.R.RecordStore.records c.args.store.now) (g.R.RecordStore.records c.change_all-done.new.store) c.finished.ensures c.self.view_is
    (Updates-from f c.args.name.now c.args.value.now c.change_all-done.result meant c.self.inside.records.items c.change_all-done.new.records.items (g.R.RecordStore.records c.args.store.now)
    (g.R.RecordStore.records c.change_all-done.new.store) c.in-Ok.ensures (some_of meant (matching f c.self.inside.records.items) counted some) counted c.change_all-done.ensures.changes)

pub returns-clause-count : goal.returns-clause-count
returns-clause-count g c =
    count_same c.finished.result (finished c.change_all-done.result c.count-meant.result) (g.R.RecordStore.faults c.args.store.now) (g.R.RecordStore.faults c.change_all-done.new.store) c.finished.ensures
    (finished_count c.change_all-done.result c.count-meant.result (g.R.RecordStore.faults c.args.store.now) (g.R.RecordStore.faults c.change_all-done.new.store) c.change_all-done.ensures.count)
