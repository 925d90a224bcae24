use Rattle.std.proofs.Common.{◌≡◌, ◌∷◌, [], ◌∙◌, List, arith, length, refl, rules, subst, sym}
use Rattle.oi_drive.proofs.Going.{does_on}
use Rattle.oi_drive.proofs.Sendings.{IsUnderWay, begun, taking_broke, taking_more, taking_over, taking_stopped}
use Rattle.oi_drive.specs.Deeds.{takes, takes_all}
use Rattle.oi_pdu.specs.declared.codec.Pdu.{Pdu}
use Rattle.oi_drive.proofs.deeds.take_all.Goals as goal

pub loop-pdu-init : goal.loop-pdu-init
loop-pdu-init c = begun (takes_all c.args.generation c.into_iter-pdu-iterator.result.rest.items c.args.solo.now) c.args.solo.now c.args.out.now.items

pub loop-pdu-preserved : goal.loop-pdu-preserved
loop-pdu-preserved c =
    let whole = takes_all c.args.generation c.into_iter-pdu-iterator.result.rest.items c.args.solo.now in
    taking_more c.args.generation whole c.in-Some.pdu c.next.new.self.rest.items c.args.solo.now c.loop-pdu.solo c.take.new.solo c.args.out.now.items c.loop-pdu.out.items c.take.new.out.items
    (subst (λ (ps : List Pdu). IsUnderWay whole (takes_all c.args.generation ps c.loop-pdu.solo) c.args.solo.now c.loop-pdu.solo c.args.out.now.items c.loop-pdu.out.items) c.in-Some.ensures.steps.0 c.loop-pdu.invariant)
    (does_on (takes c.args.generation c.in-Some.pdu c.loop-pdu.solo) c.loop-pdu.solo c.take.new.solo c.loop-pdu.out.items c.take.new.out.items c.in-Ok.answer c.in-Ok.ensures (sym c.stops.ensures ∙ c.if-stops.false))

pub returns-then-stops : goal.returns-then-stops
returns-then-stops c =
    let same : c.into_iter-pdu-iterator.result.rest.items ≡ c.args.pdus.items = search rules in
    let whole = takes_all c.args.generation c.args.pdus.items c.args.solo.now in
    taking_stopped c.args.generation whole c.in-Some.pdu c.next.new.self.rest.items c.args.solo.now c.loop-pdu.solo c.take.new.solo c.args.out.now.items c.loop-pdu.out.items c.take.new.out.items c.in-Ok.answer
    (subst (λ (ps : List Pdu). IsUnderWay whole (takes_all c.args.generation ps c.loop-pdu.solo) c.args.solo.now c.loop-pdu.solo c.args.out.now.items c.loop-pdu.out.items) c.in-Some.ensures.steps.0
    (subst (λ (ps : List Pdu). IsUnderWay (takes_all c.args.generation ps c.args.solo.now) (takes_all c.args.generation c.loop-pdu.pdu-iterator.rest.items c.loop-pdu.solo) c.args.solo.now c.loop-pdu.solo c.args.out.now.items c.loop-pdu.out.items) same c.loop-pdu.invariant))
    c.in-Ok.ensures (sym c.stops.ensures ∙ c.if-stops.true)

pub returns-in-Err : goal.returns-in-Err
returns-in-Err c =
    let same : c.into_iter-pdu-iterator.result.rest.items ≡ c.args.pdus.items = search rules in
    let whole = takes_all c.args.generation c.args.pdus.items c.args.solo.now in
    taking_broke c.args.generation whole c.in-Some.pdu c.next.new.self.rest.items c.args.solo.now c.loop-pdu.solo c.take.new.solo c.args.out.now.items c.loop-pdu.out.items c.take.new.out.items c.take.new.out.items c.in-Err.field-0
    (subst (λ (ps : List Pdu). IsUnderWay whole (takes_all c.args.generation ps c.loop-pdu.solo) c.args.solo.now c.loop-pdu.solo c.args.out.now.items c.loop-pdu.out.items) c.in-Some.ensures.steps.0
    (subst (λ (ps : List Pdu). IsUnderWay (takes_all c.args.generation ps c.args.solo.now) (takes_all c.args.generation c.loop-pdu.pdu-iterator.rest.items c.loop-pdu.solo) c.args.solo.now c.loop-pdu.solo c.args.out.now.items c.loop-pdu.out.items) same c.loop-pdu.invariant))
    c.in-Err.ensures

no_pdu : (ps : List Pdu) → length ps ≡ 0 → ps ≡ []
no_pdu [] is = refl
no_pdu (p ∷ ps) is = absurd (omega (arith, is))

pub returns : goal.returns
returns c =
    let same : c.into_iter-pdu-iterator.result.rest.items ≡ c.args.pdus.items = search rules in
    let none : c.loop-pdu.pdu-iterator.rest.items ≡ [] = no_pdu c.loop-pdu.pdu-iterator.rest.items (omega (arith, c.in-None.ensures.steps.0, c.loop-pdu.pdu-iterator.rest.ok)) in
    let whole = takes_all c.args.generation c.args.pdus.items c.args.solo.now in
    taking_over c.args.generation whole c.args.solo.now c.loop-pdu.solo c.args.out.now.items c.loop-pdu.out.items
    (subst (λ (ps : List Pdu). IsUnderWay whole (takes_all c.args.generation ps c.loop-pdu.solo) c.args.solo.now c.loop-pdu.solo c.args.out.now.items c.loop-pdu.out.items) none
    (subst (λ (ps : List Pdu). IsUnderWay (takes_all c.args.generation ps c.args.solo.now) (takes_all c.args.generation c.loop-pdu.pdu-iterator.rest.items c.loop-pdu.solo) c.args.solo.now c.loop-pdu.solo c.args.out.now.items c.loop-pdu.out.items) same c.loop-pdu.invariant))
