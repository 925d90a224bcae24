use Rattle.std.proofs.Common.{◌∙◌, ap, arith, rules}
use Rattle.std.proofs.lemmas.Grind.{common_steps}
use Rattle.oi_history.proofs.Recovered.{from_over}
use Rattle.oi_history.proofs.Tallied.{all_changed, all_counted, next_is, under_way-more, under_way-none, under_way-place}
use Rattle.oi_history.specs.Blows.{blow_by}
use Rattle.oi_history.proofs.striking.strike_all.Goals as goal

pub loop-id-init : goal.loop-id-init
loop-id-init c = (omega arith, search rules, search rules, under_way-none c.args.tally.now (blow_by c.args.allowed c.args.at c.args.blow) c.args.tasks.now.items c.requires)

pub strike_noted-requires : goal.strike_noted-requires
strike_noted-requires c =
    under_way-place c.args.tally.now c.loop-id.tally (blow_by c.args.allowed c.args.at c.args.blow) c.args.tasks.now.items c.loop-id.id c.index_mut-task.result.now c.loop-id.invariant.3 (omega arith)
    (next_is (blow_by c.args.allowed c.args.at c.args.blow) c.args.tasks.now.items c.loop-id.tasks.items c.loop-id.id c.index_mut-task.result.now (omega arith) c.loop-id.invariant.2 c.index_mut-task.ensures.value)

pub loop-id-preserved : goal.loop-id-preserved
loop-id-preserved c =
    let f = blow_by c.args.allowed c.args.at c.args.blow in
    let x = c.index_mut-task.result.now in
    let is = next_is f c.args.tasks.now.items c.loop-id.tasks.items c.loop-id.id x (omega arith) c.loop-id.invariant.2 c.index_mut-task.ensures.value in (
      omega arith,
      grind (arith, common_steps),
      from_over f c.args.tasks.now.items c.loop-id.tasks.items c.loop-id.id x c.strike_noted.new.task (omega arith) c.loop-id.invariant.2 (c.strike_noted.ensures.task ∙ ap (f c.loop-id.id) c.index_mut-task.ensures.value),
      under_way-more c.args.tally.now c.loop-id.tally c.strike_noted.new.tally f c.args.tasks.now.items c.loop-id.id x c.strike_noted.new.task c.loop-id.invariant.3 (omega arith) is c.strike_noted.ensures.task c.strike_noted.ensures.tally,
    )

pub returns-clause-tally : goal.returns-clause-tally
returns-clause-tally c =
    all_counted c.args.tally.now c.loop-id.tally (blow_by c.args.allowed c.args.at c.args.blow) c.args.tasks.now.items c.loop-id.tasks.items c.loop-id.id c.loop-id.invariant.3 (omega arith)
    (all_changed (blow_by c.args.allowed c.args.at c.args.blow) c.args.tasks.now.items c.loop-id.tasks.items c.loop-id.id (omega arith) c.loop-id.invariant.2)
