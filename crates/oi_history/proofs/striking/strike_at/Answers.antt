use Rattle.std.proofs.Common.{arith}
use Rattle.oi_history.proofs.Places.{place_changed}
use Rattle.oi_history.proofs.Recovered.{changed_far}
use Rattle.oi_history.proofs.Tallied.{counted-none, place-at, set_counted}
use Rattle.oi_history.specs.Blows.{blow_by}
use Rattle.oi_history.proofs.striking.strike_at.Goals as goal

pub strike_noted-requires : goal.strike_noted-requires
strike_noted-requires c = place-at c.args.tally.now c.args.id c.args.tasks.now.items c.index_mut-task.result.now c.requires (omega arith) c.index_mut-task.ensures.value

pub returns-then-id-len-clause-tasks : goal.returns-then-id-len-clause-tasks
returns-then-id-len-clause-tasks c =
    place_changed c.args.id (blow_by c.args.allowed c.args.at c.args.blow c.args.id) c.args.tasks.now.items c.index_mut-task.result.now c.strike_noted.new.task (omega arith) c.index_mut-task.ensures.value c.strike_noted.ensures.task

pub returns-then-id-len-clause-tally : goal.returns-then-id-len-clause-tally
returns-then-id-len-clause-tally c =
    set_counted c.args.tally.now c.strike_noted.new.tally c.args.id c.args.tasks.now.items c.index_mut-task.result.now c.strike_noted.new.task (omega arith) c.index_mut-task.ensures.value c.strike_noted.ensures.tally

pub returns-else-id-len-clause-tasks : goal.returns-else-id-len-clause-tasks
returns-else-id-len-clause-tasks c = changed_far c.args.id (blow_by c.args.allowed c.args.at c.args.blow c.args.id) c.args.tasks.now.items (omega arith)

pub returns-else-id-len-clause-tally : goal.returns-else-id-len-clause-tally
returns-else-id-len-clause-tally c = counted-none c.args.tally.now c.args.tasks.now.items
