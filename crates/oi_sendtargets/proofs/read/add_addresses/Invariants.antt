use Rattle.std.proofs.Common.{take}
use Rattle.oi_sendtargets.specs.Listings.{AreGiven, AddressGives}
use Rattle.oi_sendtargets.specs.Steps.{values, Adds}
use Rattle.oi_sendtargets.proofs.read.add_addresses.Given as goal

abbrev pub invariant-loop-address : goal.invariant-loop-address
invariant-loop-address l = Adds (AreGiven (AddressGives l.name) (values (take l.address-index l.addresses))) l.fn.found.items l.found.items
