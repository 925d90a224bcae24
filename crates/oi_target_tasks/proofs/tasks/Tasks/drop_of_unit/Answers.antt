-- Each retain is a filter.
use Rattle.std.proofs.Common.{ℕ, ap, ◌∙◌, rules, filter, not, bytes_eq, is_some}
use Rattle.std.proofs.lemmas.Map.Made.{filter_same_pairs}
use Rattle.std.specs.Map.{values_of}
use Rattle.oi_target_tasks.proofs.Entries.{values_filter}
use Rattle.oi_target_tasks.proofs.Indexes.{IsIndexed-filtered}
use Rattle.oi_target_tasks.specs.Places.{task_at}
use Rattle.oi_target_tasks.specs.declared.task.Task.{Task}
use Rattle.oi_target_tasks.proofs.tasks.Tasks.drop_of_unit.Goals as goal

pub invariant_of-self : goal.invariant_of-self
invariant_of-self c =
    IsIndexed-filtered (λ t. not (bytes_eq t.command.lun c.args.lun)) c.self.inside.order.entries c.retain.new.self.entries c.self.inside.places.entries c.retain-2.new.self.entries c.self.inside.next c.self.invariant c.retain.ensures.ordered c.retain-2.ensures.was_ordered
    (filter_same_pairs _ (λ (e : ℕ × Task). not (bytes_eq e.1.command.lun c.args.lun)) _ (λ k v b w f' t. search rules) _ _ c.retain.ensures.filtered)
    (filter_same_pairs _ (λ (e : ℕ × ℕ). is_some (task_at c.retain.new.self.entries e.1)) _ (λ k v b w f' t. search rules) _ _ c.retain-2.ensures.filtered)

pub returns : goal.returns
returns c =
    ap values_of (filter_same_pairs _ (λ (e : ℕ × Task). not (bytes_eq e.1.command.lun c.args.lun)) _ (λ k v b w f' t. search rules) _ _ c.retain.ensures.filtered)
    ∙ values_filter (λ t. not (bytes_eq t.command.lun c.args.lun)) c.self.inside.order.entries ∙ ap (filter (λ (t : Task). not (bytes_eq t.command.lun c.args.lun))) c.self.view_is
