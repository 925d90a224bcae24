use Rattle.std.proofs.Common.{◌≡◌, take}
use Rattle.oi_target_session.specs.Listings.{listing_text}
use Rattle.oi_target_session.proofs.text.listing_text.Given as goal

abbrev pub invariant-loop-pair : goal.invariant-loop-pair
invariant-loop-pair l = l.text.items ≡ listing_text l.listing (take l.pair-index l.pairs)
