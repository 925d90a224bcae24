use Rattle.std.proofs.Common.{◌≡◌, take}
use Rattle.oi_nodedb.proofs.Loading.{IsPassed}
use Rattle.oi_nodedb.proofs.db.NodeDb.load.Given as goal

-- the records of the paths so far are there, and the store is as it was
abbrev pub invariant-loop-path : goal.invariant-loop-path
invariant-loop-path g l = record {
  passed : IsPassed (take l.path-index l.found) (g.R.RecordStore.records l.fn.store) l.db;
  store : g.R.RecordStore.records l.store ≡ g.R.RecordStore.records l.fn.store;
  faults : g.R.RecordStore.faults l.store ≡ g.R.RecordStore.faults l.fn.store;
}
