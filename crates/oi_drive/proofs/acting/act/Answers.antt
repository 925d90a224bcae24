use Rattle.std.proofs.Common.{refl, rules, w64}
use Rattle.std.proofs.lemmas.Int.{to_z-of_z}
use Rattle.oi_drive.proofs.Actings.{line_acts, set_acts}
use Rattle.oi_drive.specs.Runs.{seen}
use Rattle.oi_script.specs.declared.line.DriveLine.TheVariants.{Send, Tick}
use Rattle.oi_drive.proofs.acting.act.Goals as goal

pub returns-in-Set : goal.returns-in-Set
returns-in-Set c =
    set_acts (seen c.args.run.now) (seen c.set.new.run) c.args.line c.in-Set.name c.args.out.now.items c.as_slice.result.now c.in-Set.value _ c.set.result c.in-Set.is c.as_slice.ensures
    (to_z-of_z w64 c.in-Set.value (search rules)) (c.set.ensures c.args.out.now.items)

pub returns-in-Send : goal.returns-in-Send
returns-in-Send c =
    line_acts (seen c.args.run.now) c.args.line (Send c.in-Send.count) c.args.out.now.items c.send.new.out.items c.send.result c.send.new.solo c.in-Send.is refl c.send.ensures

pub returns-in-Tick : goal.returns-in-Tick
returns-in-Tick c =
    line_acts (seen c.args.run.now) c.args.line (Tick c.in-Tick.now) c.args.out.now.items c.tick.new.out.items c.tick.result c.tick.new.solo c.in-Tick.is refl c.tick.ensures
