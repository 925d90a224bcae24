use Rattle.std.proofs.Common.{arith, refl, sym, ◌+◌, List, ℕ, Ok, Err, subst, take, false}
use Rattle.std.proofs.lemmas.List.{take_rest, length-drop}
use Rattle.std.proofs.lemmas.Result.{err_from_is_err_and}
use Rattle.oi_pdu.specs.declared.codec.Pdu.{Pdu}
use Rattle.oi_stream.specs.Feeding.{GoesOn}
use Rattle.oi_stream.specs.Steps.{IsStep, MakesWhole, StaysShort, state_of}
use Rattle.oi_stream.proofs.Course.{goes_none, goes_more, goes_short, leaves_off, splits_err}
use Rattle.oi_stream.proofs.Determined.{split_as, reached_on}
use Rattle.oi_stream.proofs.splitter.split.Goals as goal

pub loop-whole-init : goal.loop-whole-init
loop-whole-init c = record {
  within = omega arith;
  going = c.requires.going;
  so_far = goes_none (state_of c.args.limit c.args.place.now c.args.part.now false) c.args.piece.now c.args.out.now.items;
}

pub returns-in_err-whole-clause-splits : goal.returns-in_err-whole-clause-splits
returns-in_err-whole-clause-splits c =
    let p = err_from_is_err_and c.from_residual.result c.from_residual.ensures.1 in
    let at = c.loop-whole.at in
    let piece = c.args.piece.now in
    let stepped = subst (λ (z : List ℕ). IsStep c.args.limit c.loop-whole.place c.loop-whole.part c.step.new.part z (Err c.in_err-whole.field-0.0)) (take_rest piece at) c.in_err-whole.ensures in
    rw (p.1, p.2) (splits_err (state_of c.args.limit c.args.place.now c.args.part.now false) c.args.limit c.loop-whole.place at c.loop-whole.part c.step.new.part piece c.args.out.now.items c.loop-whole.out.items c.in_err-whole.field-0.0 refl c.loop-whole.invariant.so_far stepped)

pub returns-in_err-push-clause-splits : goal.returns-in_err-push-clause-splits
returns-in_err-push-clause-splits c =
    let p = err_from_is_err_and c.from_residual-in_err-push.result c.from_residual-in_err-push.ensures.1 in
    rw (p.1, p.2, c.in_err-push.ensures.items) (leaves_off (state_of c.args.limit c.args.place.now c.args.part.now false) c.args.limit c.loop-whole.place c.loop-whole.at c.loop-whole.part c.step.new.part c.args.piece.now c.args.out.now.items c.loop-whole.out.items refl c.loop-whole.invariant.so_far)

pub loop-whole-preserved : goal.loop-whole-preserved
loop-whole-preserved c =
    let at = c.loop-whole.at in
    let piece = c.args.piece.now in
    let w = c.in-Some.whole in
    let stepped = c.in_ok-whole.ensures in
    let made = subst (λ (z : List ℕ). MakesWhole c.args.limit c.loop-whole.part c.step.new.part z w) (take_rest piece at) (rw c.in-Some.is at stepped) in
    record {
      within = omega (arith, made.within, length-drop at piece, c.loop-whole.invariant.within);
      going = made.going;
      so_far = subst (λ (z : List Pdu). GoesOn (state_of c.args.limit c.args.place.now c.args.part.now false) (state_of c.args.limit c.saturating_add.result c.step.new.part false) (take (at + w.taken) piece) c.args.out.now.items z) (sym c.in_ok-push.ensures.items)
          (goes_more (state_of c.args.limit c.args.place.now c.args.part.now false) c.args.limit c.loop-whole.place c.saturating_add.result at c.loop-whole.part c.step.new.part piece c.args.out.now.items c.loop-whole.out.items w c.loop-whole.invariant.so_far made c.saturating_add.ensures);
    }

pub returns-clause-splits : goal.returns-clause-splits
returns-clause-splits c =
    let at = c.loop-whole.at in
    let piece = c.args.piece.now in
    let short = subst (λ (z : List ℕ). StaysShort c.args.limit c.loop-whole.part c.step.new.part z) (take_rest piece at) (rw c.in_default.is at c.in_ok-whole.ensures) in
    goes_short (state_of c.args.limit c.args.place.now c.args.part.now false) c.args.limit c.loop-whole.place at c.loop-whole.part c.step.new.part piece c.args.out.now.items c.loop-whole.out.items c.loop-whole.invariant.so_far short

pub returns-in_err-whole-clause-bytewise : goal.returns-in_err-whole-clause-bytewise
returns-in_err-whole-clause-bytewise c =
    split_as (state_of c.args.limit c.args.place.now c.args.part.now false) _ c.args.piece.now c.args.out.now.items c.loop-whole.out.items c.from_residual.result c.requires.reached refl refl (returns-in_err-whole-clause-splits c)

pub returns-in_err-push-clause-bytewise : goal.returns-in_err-push-clause-bytewise
returns-in_err-push-clause-bytewise c =
    split_as (state_of c.args.limit c.args.place.now c.args.part.now false) _ c.args.piece.now c.args.out.now.items c.push.new.self.items c.from_residual-in_err-push.result c.requires.reached refl refl (returns-in_err-push-clause-splits c)

pub returns-clause-bytewise : goal.returns-clause-bytewise
returns-clause-bytewise c =
    split_as (state_of c.args.limit c.args.place.now c.args.part.now false) (state_of c.args.limit c.loop-whole.place c.step.new.part false) c.args.piece.now c.args.out.now.items c.loop-whole.out.items (Ok tt) c.requires.reached refl refl (returns-clause-splits c)

pub returns-clause-reached : goal.returns-clause-reached
returns-clause-reached c =
    reached_on (state_of c.args.limit c.args.place.now c.args.part.now false) (state_of c.args.limit c.loop-whole.place c.step.new.part false) c.args.piece.now c.args.out.now.items c.loop-whole.out.items c.requires.reached (returns-clause-splits c)
