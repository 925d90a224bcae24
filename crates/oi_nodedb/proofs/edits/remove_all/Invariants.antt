use Rattle.std.proofs.Common.{◌≡◌, ◌++◌, ◌+◌, ◌≤◌, take, drop, length, vec_len}
use Rattle.oi_nodedb.specs.Databases.{left, told_removed}
use Rattle.oi_nodedb.specs.Filters.{matching}
use Rattle.oi_nodedb.proofs.edits.remove_all.Given as goal

-- of the records before the place those that are meant are gone, from the list and from the store, and no call of the
-- store failed
abbrev pub invariant-loop-at : goal.invariant-loop-at
invariant-loop-at g l = record {
  list : l.records.items ≡ left l.filter (take l.at l.fn.records.items) ++ drop l.at l.fn.records.items;
  kept : l.kept ≡ length (left l.filter (take l.at l.fn.records.items));
  behind : l.kept ≤ l.at;
  long : vec_len l.records + l.at ≡ l.kept + vec_len l.fn.records;
  store : g.R.RecordStore.records l.store ≡ told_removed (g.R.RecordStore.records l.fn.store) (matching l.filter (take l.at l.fn.records.items));
  faults : g.R.RecordStore.faults l.store ≡ g.R.RecordStore.faults l.fn.store;
}
