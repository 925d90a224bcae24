use Rattle.oi_drive.proofs.Calls.{take_then}
use Rattle.oi_drive.proofs.deeds.take.Goals as goal

pub returns-in-Ok : goal.returns-in-Ok
returns-in-Ok c =
    take_then c.args.generation c.args.pdu c.args.solo.now c.receive.new.self c.heed.new.solo c.args.out.now.items c.heed.new.out.items c.in-Ok.received c.heed.result c.in-Ok.ensures c.heed.ensures
