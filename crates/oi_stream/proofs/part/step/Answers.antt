use Rattle.std.proofs.Common.{arith, refl, sym, ◌∙◌, ◌≡◌, List, ℕ, subst}
use Rattle.std.proofs.lemmas.List.{take_rest}
use Rattle.oi_stream.specs.Steps.{Takes}
use Rattle.oi_pdu.specs.Wire.{whole_len}
use Rattle.oi_stream.proofs.Steps.{made_whole}
use Rattle.oi_stream.proofs.part.step.Goals as goal

pub returns : goal.returns
returns c =
    let first = c.in_ok-header.ensures in
    let a = c.in_ok-header.header in
    let second = subst (λ (z : List ℕ). Takes c.args.limit c.begin.new.part c.proceed.new.part z c.in_ok-body.body) (take_rest c.args.chunk.now a) c.in_ok-body.ensures.takes in
    let done = c.finish-pdu.ensures in
    let all : c.proceed.new.part.count ≡ whole_len c.proceed.new.part.head = omega (arith, second.sound.within, c.sizes-size.ensures.whole, c.if-part-size.false, second.counted) in
    made_whole c.args.limit c.in_ok-header.header c.in_ok-body.body c.args.chunk.now c.args.part.now c.begin.new.part c.proceed.new.part c.finish-pdu.new.part _ c.requires first.0 first.2 second c.in_ok-body.ensures.head all refl (c.sizes-size.ensures.whole ∙ sym all) done.head done.payload done.encodable done.sound done.count done.fresh
