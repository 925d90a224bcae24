use Rattle.oi_base.specs.Decimal.{IsNumber}
use Rattle.oi_names.specs.Portals.{IsAddress}
use Rattle.oi_names.proofs.Alphabets.{apart_address}
use Rattle.oi_names.proofs.Places.{no_extended_none, no_extended_part, no_extended_short}
use Rattle.oi_names.proofs.portal.read_endpoint.Goals as goal

pub returns-then-not-address : goal.returns-then-not-address
returns-then-not-address c = no_extended_short IsAddress (IsNumber 1 65535) 58 apart_address c.args.text.now c.address_reach-address.result c.address_reach-address.ensures c.if-not-address.true

pub returns-in_default : goal.returns-in_default
returns-in_default c =
    no_extended_none IsAddress (IsNumber 1 65535) 58 apart_address c.args.text.now c.address_reach-address.result c.address_reach-address.ensures c.if-address-text.false c.in_default.ensures

pub returns-in_default-read_port : goal.returns-in_default-read_port
returns-in_default-read_port c =
    no_extended_part IsAddress (IsNumber 1 65535) 58 apart_address c.args.text.now c.in-Some.digits.now c.address_reach-address.result c.address_reach-address.ensures c.if-address-text.false c.in-Some.ensures.1 (λ w. c.in_default-read_port.ensures w.0 w.1 w.2 w.3)
