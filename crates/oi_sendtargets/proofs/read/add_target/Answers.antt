use Rattle.std.proofs.Common.{◌<◌, length, arith}
use Rattle.std.proofs.lemmas.Bool.Decides.{nat_tests}
use Rattle.std.proofs.lemmas.Result.{on_ok_weaker}
use Rattle.oi_sendtargets.proofs.Reading.{some_addresses}
use Rattle.oi_sendtargets.proofs.read.add_target.Goals as goal

pub returns : goal.returns
returns c =
    let some : 0 < length c.args.addresses.now = grind (arith, nat_tests) in
    record { ok = on_ok_weaker c.add_addresses.result (some_addresses c.args.asked.now c.args.name.now c.args.addresses.now c.args.found.now.items c.add_addresses.new.found.items some) c.add_addresses.ensures.ok }
