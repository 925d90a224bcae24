use Rattle.std.proofs.Common.{◌∙◌, ◌++◌, ◌∷◌, [], List, ap, arith}
use Rattle.oi_history.proofs.Issuing.{kept-submitted, moved-submitted}
use Rattle.oi_history.proofs.Indexed.{seen_all}
use Rattle.oi_history.specs.Recovering.{submitted_in}
use Rattle.oi_history.specs.Submitted.{SubmissionsView}
use Rattle.oi_history.specs.declared.task.Task.{Task}
use Rattle.oi_history.proofs.submissions.Submissions.take_in.Goals as goal

pub invariant_of-self-2 : goal.invariant_of-self-2
invariant_of-self-2 c = (
  kept-submitted c.self.inside.allowed c.self.inside.places c.self.inside.tally c.add.new.self c.self.inside.tasks.items c.push_reserved.new.self.items c.submitted-task.result c.args.phase c.args.at c.in_ok-command.command
      c.self.invariant.0 c.submitted-task.ensures (c.push_reserved.ensures.items ∙ ap (λ (z : List Task). z ++ c.submitted-task.result ∷ []) c.reserve.ensures.items) c.add.ensures.ended c.add.ensures.pending,
  seen_all c.add-2.new.self c.self.inside.tasks.items c.deref.result.now c.push_reserved.new.self.items c.submitted-task.result c.len-count.result c.add-2.ensures.index (omega arith) c.deref.ensures.value
      (c.push_reserved.ensures.items ∙ ap (λ (z : List Task). z ++ c.submitted-task.result ∷ []) c.reserve.ensures.items),
)

pub returns-clause-ok : goal.returns-clause-ok
returns-clause-ok c =
    moved-submitted c.args.self.now _ c.submitted-task.result _ (ap (λ (v : SubmissionsView). v.allowed) c.self.view_is)
    (c.push_reserved.ensures.items ∙ ap (λ (z : List Task). z ++ c.submitted-task.result ∷ []) (c.reserve.ensures.items ∙ ap (λ (v : SubmissionsView). v.tasks) c.self.view_is))
    (c.submitted-task.ensures ∙ ap (submitted_in c.args.phase c.args.at) c.in_ok-command.ensures)
    (rw c.add.ensures.ended (ap (λ (v : SubmissionsView). v.ended) c.self.view_is)) (rw c.add.ensures.ended (ap (λ (v : SubmissionsView). v.takes) c.self.view_is))
