use Rattle.std.proofs.Common.{◌≡◌, take}
use Rattle.oi_nodedb.specs.Filters.{matching}
use Rattle.oi_admin.specs.Listings.{list_text}
use Rattle.oi_admin.proofs.listing.list_text.Given as goal

-- the lines of the records before the place
abbrev pub invariant-loop-record : goal.invariant-loop-record
invariant-loop-record l = l.text.items ≡ list_text (matching l.filter (take l.record-index l.records))
