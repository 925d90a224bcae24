use Rattle.std.proofs.Common.{◌∙◌, List, ap, subst, sym}
use Rattle.oi_history.proofs.Indexed.{blow_command, seen, was_indexed}
use Rattle.oi_history.proofs.Standing.{AreFallen, fallen-at, falls_blow}
use Rattle.oi_history.proofs.Tallied.{kept-after}
use Rattle.oi_history.specs.Handling.{live_at}
use Rattle.oi_history.specs.Blows.{blow_by}
use Rattle.oi_history.specs.declared.task.Task.{Task}
use Rattle.oi_history.proofs.submissions.Submissions.strike.Goals as goal

pub invariant_of-self : goal.invariant_of-self
invariant_of-self c = (
  kept-after c.self.inside.allowed c.self.inside.places c.self.inside.tally c.strike_at.new.tally c.self.inside.tasks.items c.strike_at.new.tasks.items c.self.invariant.0
      (subst (λ (z : List Task). AreFallen c.self.inside.allowed c.self.inside.tasks.items z) (sym c.strike_at.ensures.tasks)
      (fallen-at c.self.inside.allowed (blow_by c.self.inside.allowed c.args.at c.args.blow c.args.id) (falls_blow c.self.inside.allowed c.args.at c.args.blow c.args.id) c.args.id c.self.inside.tasks.items))
      c.strike_at.ensures.tally,
  seen c.note.new.self c.strike_at.new.tasks.items c.deref-2.result.now c.deref-2.ensures.value c.note.ensures.index,
)

pub note-requires : goal.note-requires
note-requires c =
    was_indexed c.self.inside.index c.args.id c.live_at-was_live.result c.self.inside.tasks.items c.deref-2.result.now (blow_by c.self.inside.allowed c.args.at c.args.blow c.args.id) c.self.invariant.1 (c.deref-2.ensures.value ∙ c.strike_at.ensures.tasks)
    (blow_command c.self.inside.allowed c.args.at c.args.blow c.args.id) (c.live_at-was_live.ensures ∙ ap (live_at c.args.id) c.deref.ensures.value)
