use Rattle.std.proofs.Common.{List, ℕ, subst}
use Rattle.oi_sendtargets.specs.Steps.{AddressAdds}
use Rattle.oi_sendtargets.proofs.Reading.{address_more}
use Rattle.oi_sendtargets.proofs.read.add_addresses.Goals as goal

pub loop-address-preserved : goal.loop-address-preserved
loop-address-preserved c =
    let old = c.loop-address.found.items in
    let new = c.add_address.new.found.items in
    let name = c.args.name.now in
    address_more name c.args.addresses.now c.loop-address.address-index c.address-item.result c.args.found.now.items old new c.loop-address-test.true c.address-item.is c.loop-address.invariant
    (subst (λ (z : List ℕ). AddressAdds name z old new) c.as_slice.ensures c.in_ok-add_address.ensures.ok)
