use Rattle.std.proofs.Common.{◌<◌, ◌-◌, ◌∙◌, List, length, ap, arith, subst, sym}
use Rattle.std.proofs.lemmas.Bool.Decides.{nat_tests}
use Rattle.oi_base.specs.Counts.{told}
use Rattle.oi_text.specs.Pairs.{text_of, ArePairs}
use Rattle.oi_text.specs.declared.pairs.Pair.{Pair}
use Rattle.oi_sendtargets.proofs.Reading.{ArePairs-take, read_on, stray}
use Rattle.oi_sendtargets.proofs.read.read_listing.Goals as goal

pub place_behind-requires : goal.place_behind-requires
place_behind-requires c =
    subst ArePairs (sym c.before-in_default-first.ensures) (ArePairs-take c.args.pairs.now (length c.args.pairs.now - length c.loop-rest.rest.now) c.requires)

pub returns-in_default-first-clause-fault : goal.returns-in_default-first-clause-fault
returns-in_default-first-clause-fault c =
    let some : 0 < length c.loop-rest.rest.now = grind (arith, nat_tests) in
    stray c.args.pairs.now c.loop-rest.rest.now c.args.asked.now c.loop-rest.found.items c.place_behind.result some c.loop-rest.invariant (rw c.in_default-first.is at c.in-Ok.ensures)
    (c.place_behind.ensures ∙ ap (λ (z : List Pair). told (length (text_of z))) c.before-in_default-first.ensures)

pub loop-rest-preserved : goal.loop-rest-preserved
loop-rest-preserved c =
    read_on c.args.pairs.now c.loop-rest.rest.now c.in-Some.target.addresses.now c.in-Some.target.more.now c.args.asked.now c.loop-rest.found.items c.add_target.new.found.items c.in-Some.target.name
    c.loop-rest.invariant (rw c.in-Some.is at c.in-Ok.ensures) c.in-Ok-add_target.ensures.ok
