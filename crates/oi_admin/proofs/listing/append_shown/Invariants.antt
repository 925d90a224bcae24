use Rattle.std.proofs.Common.{◌≡◌, ◌++◌, take}
use Rattle.oi_settings.specs.Texts.{lines_of}
use Rattle.oi_admin.specs.Listings.{shown_pairs}
use Rattle.oi_admin.proofs.listing.append_shown.Given as goal

-- the lines of the pairs before the place
abbrev pub invariant-loop-at : goal.invariant-loop-at
invariant-loop-at l = l.out.items ≡ l.fn.out.items ++ lines_of (shown_pairs (take l.at l.node.pairs))
