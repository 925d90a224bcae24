use Rattle.std.proofs.Common.{◌∙◌, arith, sym}
use Rattle.std.proofs.lemmas.Option.{slice_get_within}
use Rattle.oi_history.specs.Indices.{waits_on}
use Rattle.oi_history.proofs.Firsts.{first_at, first_none, none_more}
use Rattle.oi_history.proofs.Places.{get_at}
use Rattle.oi_history.proofs.index.first_waiting.Goals as goal

pub returns-then-waits_on : goal.returns-then-waits_on
returns-then-waits_on c =
    sym (first_at (waits_on c.args.lun) c.args.tasks.now c.loop-id.id c.index-tasks-id.result (get_at c.loop-id.id c.args.tasks.now c.index-tasks-id.result (omega arith) c.index-tasks-id.is) (sym c.waits_on.ensures ∙ c.if-waits_on.true) c.loop-id.invariant)

pub loop-id-preserved : goal.loop-id-preserved
loop-id-preserved c =
    none_more (waits_on c.args.lun) c.args.tasks.now c.loop-id.id c.index-tasks-id.result (get_at c.loop-id.id c.args.tasks.now c.index-tasks-id.result (omega arith) c.index-tasks-id.is) (sym c.waits_on.ensures ∙ c.if-waits_on.false) c.loop-id.invariant

pub returns : goal.returns
returns c =
    sym (first_none (waits_on c.args.lun) c.args.tasks.now (λ k t at.
    let there = slice_get_within c.args.tasks.now k t at in
    c.loop-id.invariant k t (omega (arith, there)) at))
