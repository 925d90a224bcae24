use Rattle.std.proofs.Common.{arith}
use Rattle.oi_drive.proofs.Calls.{tick_then}
use Rattle.oi_drive.proofs.deeds.tick.Goals as goal

pub returns-in-Ok : goal.returns-in-Ok
returns-in-Ok c =
    tick_then c.args.now c.args.solo.now c.tick.new.self c.expire.new.solo c.args.out.now.items c.expire.new.out.items c.in-Ok.ticked c.expire.result (omega arith) c.in-Ok.ensures c.expire.ensures
