use Rattle.std.proofs.Common.{◌≡◌, ◌++◌, take}
use Rattle.oi_nodedb.specs.Databases.{keys_of}
use Rattle.oi_nodedb.specs.Filters.{matching}
use Rattle.oi_nodedb.proofs.db.append_keys.Given as goal

-- the keys of the records before the place are there
abbrev pub invariant-loop-record : goal.invariant-loop-record
invariant-loop-record l = l.out.items ≡ l.fn.out.items ++ keys_of (matching l.filter (take l.record-index l.records))
