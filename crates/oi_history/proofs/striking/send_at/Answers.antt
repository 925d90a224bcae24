use Rattle.std.proofs.Common.{arith}
use Rattle.oi_history.proofs.Issuing.{below_limit}
use Rattle.oi_history.proofs.Places.{place_changed}
use Rattle.oi_history.proofs.Recovered.{changed_far}
use Rattle.oi_history.specs.Tasks.{issued}
use Rattle.oi_history.proofs.striking.send_at.Goals as goal

pub issue-requires : goal.issue-requires
issue-requires c = omega (arith, c.ranges.allowed.fits, below_limit c.args.allowed c.args.id c.args.tasks.now.items c.index_mut-task.result.now c.requires.tries c.requires.waits (omega arith) c.index_mut-task.ensures.value)

pub returns-then-id-len : goal.returns-then-id-len
returns-then-id-len c =
    place_changed c.args.id (issued c.args.generation c.args.tag) c.args.tasks.now.items c.index_mut-task.result.now c.issue.new.task (omega arith) c.index_mut-task.ensures.value c.issue.ensures

pub returns-else-id-len : goal.returns-else-id-len
returns-else-id-len c = changed_far c.args.id (issued c.args.generation c.args.tag) c.args.tasks.now.items (omega arith)
