use Rattle.std.proofs.Common.{◌≡◌, take}
use Rattle.oi_admin.specs.Listings.{session_text}
use Rattle.oi_admin.proofs.listing.session_text.Given as goal

-- the lines of the sessions before the place
abbrev pub invariant-loop-session : goal.invariant-loop-session
invariant-loop-session l = l.text.items ≡ session_text (take l.session-index l.living)
