use Rattle.std.proofs.Common.{ap, arith, length, length-append, take}
use Rattle.oi_history.proofs.Drawing.{drawn-part}
use Rattle.oi_history.specs.Queues.{drawn}
use Rattle.oi_history.proofs.queueing.queue_drawn.Goals as goal

pub queue_wanted-requires-clause-room : goal.queue_wanted-requires-clause-room
queue_wanted-requires-clause-room c =
    omega (
      arith,
      c.requires.room,
      c.loop-r.queue.ok,
      c.args.queue.now.ok,
      ap length c.loop-r.invariant.0,
      c.loop-r.invariant.1,
      length-append c.args.queue.now.items (drawn c.args.params c.args.busy.now c.args.tasks.now (take c.loop-r.r-index c.args.solicited.now)),
      drawn-part c.args.params c.args.busy.now c.args.tasks.now c.args.solicited.now c.loop-r.r-index (record { tag = record { 0 = 0 }; ttt = 0; offset = 0; length = 0 }) c.loop-r-test.true,
    )
