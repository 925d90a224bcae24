use Rattle.std.proofs.Common.{◌≡◌, take}
use Rattle.oi_nodedb.specs.Filters.{matching}
use Rattle.oi_admin.specs.Listings.{show_text}
use Rattle.oi_admin.proofs.listing.show_text.Given as goal

-- the lines of the records before the place
abbrev pub invariant-loop-record : goal.invariant-loop-record
invariant-loop-record l = l.text.items ≡ show_text (matching l.filter (take l.record-index l.records))
