use Rattle.std.proofs.Common.{◌∙◌, List, ap, map, subst, sym}
use Rattle.oi_history.proofs.Issuing.{counted-told, moved-told}
use Rattle.oi_history.proofs.Standing.{AreFallen, fallen-map, falls_told}
use Rattle.oi_history.proofs.Tallied.{kept-after}
use Rattle.oi_history.specs.Indices.{IsIndexed}
use Rattle.oi_history.specs.Submitted.{SubmissionsView}
use Rattle.oi_history.specs.Tasks.{told_task}
use Rattle.oi_history.specs.declared.task.Task.{Task}
use Rattle.oi_history.proofs.submissions.Submissions.tell.Goals as goal

pub invariant_of-self : goal.invariant_of-self
invariant_of-self c = (
  kept-after c.self.inside.allowed c.self.inside.places c.self.inside.tally c.self.inside.tally c.self.inside.tasks.items c.tell_within.new.tasks.items c.self.invariant.0
      (subst (λ (z : List Task). AreFallen c.self.inside.allowed c.self.inside.tasks.items z) (sym c.tell_within.ensures) (fallen-map c.self.inside.allowed told_task (falls_told c.self.inside.allowed) c.self.inside.tasks.items))
      (counted-told c.self.inside.tally c.self.inside.tasks.items c.tell_within.new.tasks.items c.tell_within.ensures),
  subst (λ (z : List Task). IsIndexed c.settle.new.self z) (sym c.tell_within.ensures) (c.settle.ensures.index c.self.inside.tasks.items c.self.invariant.1),
)

pub returns : goal.returns
returns c =
    moved-told c.args.self.now _ (ap (λ (v : SubmissionsView). v.allowed) c.self.view_is) (c.tell_within.ensures ∙ ap (λ (v : SubmissionsView). map told_task v.tasks) c.self.view_is)
    (ap (λ (v : SubmissionsView). v.ended) c.self.view_is) (ap (λ (v : SubmissionsView). v.takes) c.self.view_is)
