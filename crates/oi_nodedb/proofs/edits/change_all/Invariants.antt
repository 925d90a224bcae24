use Rattle.std.proofs.Common.{◌≡◌, ◌++◌, take, drop, vec_len}
use Rattle.oi_nodedb.specs.Databases.{changed, told_texts, updated}
use Rattle.oi_nodedb.proofs.edits.change_all.Given as goal

-- the records before the place are changed, in the list and in the store, and no call of the store failed
abbrev pub invariant-loop-at : goal.invariant-loop-at
invariant-loop-at g l = record {
  list : l.records.items ≡ updated l.filter l.name l.value (take l.at l.fn.records.items) ++ drop l.at l.fn.records.items;
  long : vec_len l.records ≡ vec_len l.fn.records;
  store : g.R.RecordStore.records l.store ≡ told_texts (g.R.RecordStore.records l.fn.store) (changed l.filter l.name l.value (take l.at l.fn.records.items));
  faults : g.R.RecordStore.faults l.store ≡ g.R.RecordStore.faults l.fn.store;
}
