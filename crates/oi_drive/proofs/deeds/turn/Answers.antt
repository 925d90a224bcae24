use Rattle.std.proofs.Common.{◌∙◌, ◌++◌, List, ℕ, ap}
use Rattle.oi_drive.specs.Acts.{turn_line}
use Rattle.oi_drive.proofs.Calls.{turn_failed, turn_made}
use Rattle.oi_drive.proofs.deeds.turn.Goals as goal

pub returns-in-Err : goal.returns-in-Err
returns-in-Err c =
    turn_failed c.args.generation c.args.solo.now c.transmit_next.new.self c.new-bytes.result.items c.transmit_next.new.out.items c.args.out.now.items c.args.out.now.items c.transmit_next.result
    c.in-Err.field-0 c.new-bytes.ensures.items c.transmit_next.ensures

pub returns-in-Ok-put_made : goal.returns-in-Ok-put_made
returns-in-Ok-put_made c =
    turn_made c.args.generation c.args.solo.now c.transmit_next.new.self c.new-bytes.result.items c.transmit_next.new.out.items c.args.out.now.items c.put_made.new.out.items c.transmit_next.result
    c.turned.result c.in-Ok.turn c.new-bytes.ensures.items c.transmit_next.ensures c.turned.ensures c.in-Ok.is (c.in-Ok-put_made.ensures _ c.turn_line.ensures ∙ ap (λ (z : List ℕ). c.args.out.now.items ++ turn_line c.in-Ok.turn c.args.generation z) c.deref.ensures.value)

pub returns : goal.returns
returns c =
    turn_failed c.args.generation c.args.solo.now c.transmit_next.new.self c.new-bytes.result.items c.transmit_next.new.out.items c.args.out.now.items c.put_made.new.out.items c.transmit_next.result
    c.in-Err-put_made.field-0 c.new-bytes.ensures.items c.transmit_next.ensures
