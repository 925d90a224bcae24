use Rattle.std.proofs.Common.{◌∙◌, Ok, arith, subst, sym}
use Rattle.oi_drive.specs.Acts.{Turns}
use Rattle.oi_drive.specs.declared.answer.Turn.{Turn}
use Rattle.oi_drive.proofs.Sendings.{sending_broke, sending_first, sending_idle, sending_more, sending_off, sending_over, sending_spent}
use Rattle.oi_drive.proofs.deeds.send.Goals as goal

pub loop-i-init : goal.loop-i-init
loop-i-init c = sending_first c.args.count c.args.solo.now c.args.out.now.items

pub returns-in-None : goal.returns-in-None
returns-in-None c = sending_off c.args.count c.loop-i._i c.args.solo.now c.loop-i.solo c.args.out.now.items c.loop-i.out.items c.loop-i-test.true c.loop-i.invariant (sym c.live.ensures ∙ c.in-None.is)

pub returns-in-Ok-Idle : goal.returns-in-Ok-Idle
returns-in-Ok-Idle c =
    sending_idle c.args.count c.loop-i._i c.in-Some.generation c.args.solo.now c.loop-i.solo c.turn.new.solo c.args.out.now.items c.loop-i.out.items c.turn.new.out.items
    c.loop-i-test.true c.loop-i.invariant (sym c.live.ensures ∙ c.in-Some.is) (subst (λ (t : Turn). Turns c.in-Some.generation c.loop-i.solo c.loop-i.out.items (Ok t) c.turn.new.solo c.turn.new.out.items) c.in-Ok-Idle.field-0-is c.in-Ok-Idle.ensures)

pub returns-in-Ok-Spent : goal.returns-in-Ok-Spent
returns-in-Ok-Spent c =
    sending_spent c.args.count c.loop-i._i c.in-Some.generation c.args.solo.now c.loop-i.solo c.turn.new.solo c.args.out.now.items c.loop-i.out.items c.turn.new.out.items
    c.loop-i-test.true c.loop-i.invariant (sym c.live.ensures ∙ c.in-Some.is) (subst (λ (t : Turn). Turns c.in-Some.generation c.loop-i.solo c.loop-i.out.items (Ok t) c.turn.new.solo c.turn.new.out.items) c.in-Ok-Spent.field-0-is c.in-Ok-Spent.ensures)

pub returns-in-Err : goal.returns-in-Err
returns-in-Err c =
    sending_broke c.args.count c.loop-i._i c.in-Some.generation c.args.solo.now c.loop-i.solo c.turn.new.solo c.args.out.now.items c.loop-i.out.items c.turn.new.out.items c.turn.new.out.items c.in-Err.field-0
    c.loop-i-test.true c.loop-i.invariant (sym c.live.ensures ∙ c.in-Some.is) c.in-Err.ensures

pub loop-i-preserved : goal.loop-i-preserved
loop-i-preserved c =
    sending_more c.args.count c.loop-i._i c.in-Some.generation c.args.solo.now c.loop-i.solo c.turn.new.solo c.args.out.now.items c.loop-i.out.items c.turn.new.out.items
    c.loop-i-test.true c.loop-i.invariant (sym c.live.ensures ∙ c.in-Some.is) (subst (λ (t : Turn). Turns c.in-Some.generation c.loop-i.solo c.loop-i.out.items (Ok t) c.turn.new.solo c.turn.new.out.items) c.in-Ok-Sent.field-0-is c.in-Ok-Sent.ensures)

pub returns : goal.returns
returns c = sending_over c.args.count c.loop-i._i c.args.solo.now c.loop-i.solo c.args.out.now.items c.loop-i.out.items (omega (arith, c.loop-i-test.false, c.loop-i.auto._i-end)) c.loop-i.invariant
