use Rattle.std.proofs.Common.{arith, refl}
use Rattle.oi_history.proofs.Indexed.{indexed_far, indexed_moved, indexed_on}
use Rattle.oi_history.proofs.Places.{get_at}
use Rattle.oi_history.proofs.index.Index.note.Goals as goal

pub returns-then-id-tasks-clause-index : goal.returns-then-id-tasks-clause-index
returns-then-id-tasks-clause-index c = indexed_far c.args.self.now c.args.id c.args.was_live c.args.tasks.now c.requires (omega arith)

pub after-requires-clause-kept : goal.after-requires-clause-kept
after-requires-clause-kept c =
    indexed_on c.args.self.now c.args.id c.args.was_live c.is_live-live.result c.args.tasks.now c.index-tasks-id.result c.index.result.now c.index.result.now c.requires
    (get_at c.args.id c.args.tasks.now c.index-tasks-id.result (omega arith) c.index-tasks-id.is) c.is_live-live.ensures c.index.ensures

pub returns-clause-index : goal.returns-clause-index
returns-clause-index c =
    indexed_moved c.args.self.now c.note_due.new.self c.args.id c.args.was_live c.args.tasks.now c.index-tasks-id.result c.after.result c.requires
    (get_at c.args.id c.args.tasks.now c.index-tasks-id.result (omega arith) c.index-tasks-id.is) (rw c.note_due.ensures.luns refl) c.after.ensures (rw c.note_due.ensures.luns refl)
    c.note_due.ensures.low c.note_due.ensures.high c.note_due.ensures.settled
