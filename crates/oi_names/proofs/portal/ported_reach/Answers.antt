use Rattle.std.proofs.Common.{◌+◌, refl, arith}
use Rattle.std.specs.Fmt.{decimal}
use Rattle.oi_base.specs.Decimal.{IsNumber}
use Rattle.oi_names.specs.Portals.{IsAddress}
use Rattle.oi_names.proofs.Alphabets.{apart_address}
use Rattle.oi_names.proofs.Places.{joined_at, joined_here}
use Rattle.oi_names.proofs.portal.ported_reach.Goals as goal

pub returns-in-Some : goal.returns-in-Some
returns-in-Some c =
    joined_at IsAddress (IsNumber 1 65535) 58 apart_address c.args.text.now c.in-Some.digits.now c.args.address c.number_reach-port.result c.requires c.in-Some.ensures.0 c.in-Some.ensures.1 c.number_reach-port.ensures (c.args.address.place + 1 + c.number_reach-port.result.place) refl

pub returns-in-None : goal.returns-in-None
returns-in-None c =
    joined_here IsAddress (IsNumber 1 65535) 58 apart_address (decimal 1) (1, omega arith, omega arith, refl) c.args.text.now c.args.address c.requires c.in-None.ensures
