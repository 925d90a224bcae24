use Rattle.std.proofs.Common.{◌+◌, refl, arith}
use Rattle.std.specs.Fmt.{decimal}
use Rattle.oi_base.specs.Decimal.{IsNumber}
use Rattle.oi_names.specs.Portals.{IsEndpoint}
use Rattle.oi_names.proofs.Alphabets.{apart_endpoint}
use Rattle.oi_names.proofs.Places.{joined_at, joined_here}
use Rattle.oi_names.proofs.portal.tagged_reach.Goals as goal

pub returns-in-Some : goal.returns-in-Some
returns-in-Some c =
    joined_at IsEndpoint (IsNumber 0 65535) 44 apart_endpoint c.args.text.now c.in-Some.digits.now c.args.endpoint c.number_reach-tag.result c.requires c.in-Some.ensures.0 c.in-Some.ensures.1 c.number_reach-tag.ensures (c.args.endpoint.place + 1 + c.number_reach-tag.result.place) refl

pub returns-in-None : goal.returns-in-None
returns-in-None c =
    joined_here IsEndpoint (IsNumber 0 65535) 44 apart_endpoint (decimal 1) (1, omega arith, omega arith, refl) c.args.text.now c.args.endpoint c.requires c.in-None.ensures
