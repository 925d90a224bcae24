use Rattle.std.proofs.Common.{◌≡◌, ◌∙◌, ◌+◌, ◌++◌, ◌∷◌, [], List, ap, arith, refl, subst, sym, take, length}
use Rattle.std.proofs.lemmas.List.{length-take-le, take_more}
use Rattle.oi_history.proofs.Indexed.{indexed_more, live_within, with_is}
use Rattle.oi_history.specs.Indices.{IsIndexed}
use Rattle.oi_history.specs.declared.task.Task.{Task}
use Rattle.oi_history.proofs.index.Index.add.Goals as goal

pub with-requires-clause-live : goal.with-requires-clause-live
with-requires-clause-live c =
    omega (
      arith,
      live_within c.args.self.now (take c.args.count c.args.tasks.now) c.index-tasks-count.result.command.lun c.index.result.now c.index.result.now c.requires.before (omega arith) c.index.ensures,
      length-take-le c.args.count c.args.tasks.now (omega arith),
    )

pub returns-clause-index : goal.returns-clause-index
returns-clause-index c =
    let taken : take (c.args.count + 1) c.args.tasks.now ≡ take c.args.count c.args.tasks.now ++ c.index-tasks-count.result ∷ [] =
    take_more c.args.tasks.now c.args.count c.index-tasks-count.result c.requires.count ∙ ap (λ (y : Task). take c.args.count c.args.tasks.now ++ y ∷ []) (sym c.index-tasks-count.is) in
    let len : length (take c.args.count c.args.tasks.now) ≡ c.args.count = length-take-le c.args.count c.args.tasks.now (omega arith) in
    subst (λ (z : List Task). IsIndexed c.note_due.new.self z) (sym taken)
    (indexed_more c.args.self.now c.note_due.new.self (take c.args.count c.args.tasks.now) c.index-tasks-count.result c.with.result c.index.result.now c.requires.before (omega arith) (rw c.note_due.ensures.luns refl)
    (with_is c.with.result c.index.result.now c.is_live.result c.is_waiting.result c.args.self.now.luns.items c.args.count c.index-tasks-count.result.command.lun c.index-tasks-count.result.fate
    (length (take c.args.count c.args.tasks.now)) c.with.ensures c.is_live.ensures c.is_waiting.ensures c.index.ensures (sym len)) (rw c.note_due.ensures.luns refl) c.note_due.ensures.low c.note_due.ensures.high (rw len c.note_due.ensures.settled))
