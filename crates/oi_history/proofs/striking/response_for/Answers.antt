use Rattle.std.proofs.Common.{◌∙◌, ap, arith}
use Rattle.oi_history.proofs.Issuing.{on_err, set_back}
use Rattle.oi_history.proofs.Places.{on_ok, place_changed}
use Rattle.oi_history.proofs.Recovered.{changed_far}
use Rattle.oi_history.proofs.Tallied.{counted-none, place-at, set_counted}
use Rattle.oi_history.specs.Handling.{aim_of}
use Rattle.oi_history.specs.Recovering.{got_response}
use Rattle.oi_recovery.specs.declared.hit.Aim.{Aim}
use Rattle.oi_history.specs.declared.task.Task.{Task}
use Rattle.oi_history.proofs.striking.response_for.Goals as goal

pub returns-then-id-len-clause-tasks : goal.returns-then-id-len-clause-tasks
returns-then-id-len-clause-tasks c =
    changed_far c.args.id (λ (t : Task). got_response c.args.allowed c.args.at (aim_of c.args.handler c.args.id t) c.args.h c.args.payload.now t) c.args.tasks.now.items (omega arith)

pub returns-then-id-len-clause-tally : goal.returns-then-id-len-clause-tally
returns-then-id-len-clause-tally c = counted-none c.args.tally.now c.args.tasks.now.items

pub response_noted-requires : goal.response_noted-requires
response_noted-requires c = place-at c.args.tally.now c.args.id c.args.tasks.now.items c.index_mut-task.result.now c.requires (omega arith) c.index_mut-task.ensures.value

pub returns-clause-tasks : goal.returns-clause-tasks
returns-clause-tasks c =
    on_ok c.response_noted.result _ _ (λ is.
    place_changed c.args.id (λ (t : Task). got_response c.args.allowed c.args.at (aim_of c.args.handler c.args.id t) c.args.h c.args.payload.now t) c.args.tasks.now.items c.index_mut-task.result.now c.response_noted.new.task (omega arith)
    c.index_mut-task.ensures.value (is ∙ ap (λ (a : Aim). got_response c.args.allowed c.args.at a c.args.h c.args.payload.now c.index_mut-task.result.now) c.aim_of-aim.ensures)) c.response_noted.ensures.task

pub returns-clause-tally : goal.returns-clause-tally
returns-clause-tally c =
    on_ok c.response_noted.result _ _ (set_counted c.args.tally.now c.response_noted.new.tally c.args.id c.args.tasks.now.items c.index_mut-task.result.now c.response_noted.new.task (omega arith) c.index_mut-task.ensures.value) c.response_noted.ensures.tally

pub returns-clause-err_tasks : goal.returns-clause-err_tasks
returns-clause-err_tasks c =
    on_err c.response_noted.result _ _ (set_back c.args.id c.args.tasks.now.items c.index_mut-task.result.now c.response_noted.new.task (omega arith) c.index_mut-task.ensures.value) c.response_noted.ensures.err_task
