use Rattle.std.proofs.Common.{◌≡◌, drop}
use Rattle.oi_nodedb.specs.Filters.{in_use, matching}
use Rattle.oi_nodedb.proofs.sessions.in_use.Given as goal

-- the records from here on tell it
abbrev pub invariant-loop-record : goal.invariant-loop-record
invariant-loop-record l = in_use l.living (matching l.filter (drop l.record-index l.records)) ≡ in_use l.living (matching l.filter l.records)
