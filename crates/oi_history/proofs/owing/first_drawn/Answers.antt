use Rattle.std.proofs.Common.{◌∙◌, sym}
use Rattle.oi_history.proofs.Released.{drop_front, drop_later}
use Rattle.oi_history.specs.Queues.{drawn_by}
use Rattle.oi_history.specs.Releasing.{counts_left}
use Rattle.oi_history.proofs.owing.first_drawn.Goals as goal

pub returns-in-Some : goal.returns-in-Some
returns-in-Some c =
    sym (c.loop-r.invariant ∙ drop_front (drawn_by c.args.params c.args.busy.now) (counts_left c.args.ended.now.items c.args.busy.now c.args.tasks.now) c.args.solicited.now c.loop-r.r-index _ c.in-Some.queued c.loop-r-test.true
    (sym c.in-Some.is ∙ c.first_counted.ensures))

pub loop-r-preserved : goal.loop-r-preserved
loop-r-preserved c =
    c.loop-r.invariant ∙ drop_later (drawn_by c.args.params c.args.busy.now) (counts_left c.args.ended.now.items c.args.busy.now c.args.tasks.now) c.args.solicited.now c.loop-r.r-index _ c.loop-r-test.true
    (sym c.in_default.is ∙ c.first_counted.ensures)
