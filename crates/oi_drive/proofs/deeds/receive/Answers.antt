use Rattle.std.proofs.Common.{◌∙◌, sym}
use Rattle.oi_drive.proofs.Going.{does_on, does_stop, does_then, part_followed}
use Rattle.oi_drive.specs.Deeds.{ends_stream, takes_all}
use Rattle.oi_drive.proofs.deeds.receive.Goals as goal

pub returns-in-Err : goal.returns-in-Err
returns-in-Err c =
    part_followed (takes_all c.args.generation c.args.pdus.items c.args.solo.now) (λ t. ends_stream c.args.generation c.args.fault t) c.args.solo.now c.take_all.new.solo c.in-Err.ensures

pub returns-then-stops : goal.returns-then-stops
returns-then-stops c =
    does_stop (takes_all c.args.generation c.args.pdus.items c.args.solo.now) (λ t. ends_stream c.args.generation c.args.fault t) c.args.solo.now c.take_all.new.solo
    c.args.out.now.items c.take_all.new.out.items c.in-Ok.answer c.in-Ok.ensures (sym c.stops.ensures ∙ c.if-stops.true)

pub returns : goal.returns
returns c =
    does_then (takes_all c.args.generation c.args.pdus.items c.args.solo.now) (λ t. ends_stream c.args.generation c.args.fault t) c.args.solo.now c.take_all.new.solo c.end_stream.new.solo
    c.args.out.now.items c.take_all.new.out.items c.end_stream.new.out.items c.end_stream.result
    (does_on (takes_all c.args.generation c.args.pdus.items c.args.solo.now) c.args.solo.now c.take_all.new.solo c.args.out.now.items c.take_all.new.out.items c.in-Ok.answer c.in-Ok.ensures
    (sym c.stops.ensures ∙ c.if-stops.false))
    c.end_stream.ensures
