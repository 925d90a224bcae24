use Rattle.std.proofs.Common.{arith, refl}
use Rattle.oi_drive.proofs.Actings.{ended_at, fed_at}
use Rattle.oi_drive.specs.Runs.{seen}
use Rattle.oi_drive.proofs.acting.recv.Goals as goal

pub returns-in-Ended : goal.returns-in-Ended
returns-in-Ended c =
    ended_at (seen c.args.run.now) c.args.run.now.links.items c.args.generation c.args.bytes.now c.args.out.now.items c.index_mut.result.now c.split.new.link c.split.new.pdus.items c.in-Ok.piece
    refl (omega (arith, c.if-at-len.false, c.len.ensures)) c.index_mut.ensures.value c.in-Ended.is c.in-Ok.ensures

pub returns-in-Fed : goal.returns-in-Fed
returns-in-Fed c =
    fed_at (seen c.args.run.now) c.args.run.now.links.items c.args.generation c.args.bytes.now c.args.out.now.items c.receive.new.out.items c.index_mut.result.now c.split.new.link c.split.new.pdus.items
    c.in-Ok.piece c.in-Fed.fault c.receive.result c.receive.new.solo refl (omega (arith, c.if-at-len.false, c.len.ensures)) c.index_mut.ensures.value c.in-Fed.is c.in-Ok.ensures c.receive.ensures
