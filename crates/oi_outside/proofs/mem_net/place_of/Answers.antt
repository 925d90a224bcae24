-- The place is the one that the search found.
use Rattle.oi_outside.proofs.MemNets.{IsPlaceAt-position}
use Rattle.oi_outside.proofs.mem_net.place_of.Goals as goal

pub returns : goal.returns
returns c = IsPlaceAt-position c.args.portal.now c.args.ends.now c.first_place.result c.first_place.ensures
