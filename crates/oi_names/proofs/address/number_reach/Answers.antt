use Rattle.std.proofs.Common.{arith}
use Rattle.oi_names.proofs.Addresses.{number_reaches}
use Rattle.oi_names.proofs.address.number_reach.Goals as goal

pub returns : goal.returns
returns c = number_reaches c.args.low c.args.high (omega arith) c.args.text.now c.number_place-place.result c.number_place-place.ensures.place c.number_place-place.ensures.number
