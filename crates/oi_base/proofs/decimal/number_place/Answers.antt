use Rattle.std.proofs.Common.{◌≡◌, ℕ, subst, refl, sym, arith, slice_index_or, length}
use Rattle.oi_base.specs.Decimal.{IsNumber}
use Rattle.oi_base.specs.Fronts.{IsPlace}
use Rattle.oi_base.proofs.Numbers.{end_at_byte, end_of_text, stands_at}
use Rattle.oi_base.proofs.decimal.number_place.Goals as goal

pub returns-in-None-clause-place : goal.returns-in-None-clause-place
returns-in-None-clause-place c =
    (end_at_byte c.args.low c.args.high c.requires.low c.requires.some (omega arith) c.args.text.now c.loop-at.at
    (slice_index_or c.args.text.now c.loop-at.at 0) c.loop-at.value c.loop-at-test.true refl c.loop-at.invariant (sym c.in-None.ensures)).place

pub loop-at-preserved : goal.loop-at-preserved
loop-at-preserved c =
    stands_at c.args.low c.args.high (omega arith) c.args.text.now c.loop-at.at
    (slice_index_or c.args.text.now c.loop-at.at 0) c.loop-at.value c.in-Some.more c.loop-at-test.true refl c.loop-at.invariant (sym c.in-Some.ensures)

pub returns-clause-place : goal.returns-clause-place
returns-clause-place c =
    let whole : c.loop-at.at ≡ length c.args.text.now = omega arith in
    subst (λ (n : ℕ). IsPlace (IsNumber c.args.low c.args.high) c.args.text.now n) whole
    (end_of_text c.args.low c.args.high c.requires.some c.args.text.now c.loop-at.at c.loop-at.value whole c.loop-at.invariant).place
