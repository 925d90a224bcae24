use Rattle.std.proofs.Common.{◌∙◌, List, ap, rules, subst, sym}
use Rattle.oi_history.proofs.Indexed.{seen, data_command, was_indexed}
use Rattle.oi_history.proofs.Recovered.{under_none}
use Rattle.oi_history.proofs.Standing.{AreFallen, fallen-at, falls_data}
use Rattle.oi_history.proofs.Tallied.{kept-after, moved-none}
use Rattle.oi_history.specs.Handling.{aim_of, live_at}
use Rattle.oi_history.specs.Recovering.{got_data}
use Rattle.oi_history.specs.declared.task.Task.{Task}
use Rattle.oi_history.proofs.submissions.Submissions.hear_data.Goals as goal

pub note-requires : goal.note-requires
note-requires c =
    was_indexed c.self.inside.index c.in-Some.id c.live_at-was_live.result c.self.inside.tasks.items c.deref-2.result.now
    (λ (t : Task). got_data c.self.inside.allowed c.args.at (aim_of c.args.handler c.in-Some.id t) c.args.h c.args.payload.now t) c.self.invariant.1 (c.deref-2.ensures.value ∙ c.in_ok-data_for.ensures.tasks)
    (λ t. data_command c.self.inside.allowed c.args.at (aim_of c.args.handler c.in-Some.id t) c.args.h c.args.payload.now t) (c.live_at-was_live.ensures ∙ ap (live_at c.in-Some.id) c.deref.ensures.value)

pub returns-in_default-clause-ok : goal.returns-in_default-clause-ok
returns-in_default-clause-ok c =
    moved-none c.args.self.now _ (under_none c.args.h.tag.0 c.args.busy.now (λ i t. got_data c.args.self.now.allowed c.args.at (aim_of c.args.handler i t) c.args.h c.args.payload.now t) c.args.self.now.tasks (search rules))

pub invariant_of-self-2 : goal.invariant_of-self-2
invariant_of-self-2 c =
    let f : Task → Task = λ t. got_data c.self.inside.allowed c.args.at (aim_of c.args.handler c.in-Some.id t) c.args.h c.args.payload.now t in (
      kept-after c.self.inside.allowed c.self.inside.places c.self.inside.tally c.data_for.new.tally c.self.inside.tasks.items c.data_for.new.tasks.items c.self.invariant.0
          (subst (λ (z : List Task). AreFallen c.self.inside.allowed c.self.inside.tasks.items z) (sym c.in_ok-data_for.ensures.tasks)
          (fallen-at c.self.inside.allowed f (λ t. falls_data c.self.inside.allowed c.args.at (aim_of c.args.handler c.in-Some.id t) c.args.h c.args.payload.now t) c.in-Some.id c.self.inside.tasks.items))
          c.in_ok-data_for.ensures.tally,
      seen c.note.new.self c.data_for.new.tasks.items c.deref-2.result.now c.deref-2.ensures.value c.note.ensures.index,
    )
