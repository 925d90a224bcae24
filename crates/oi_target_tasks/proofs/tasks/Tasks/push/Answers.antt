-- The number above all others comes last.
use Rattle.std.proofs.Common.{ℕ, List, sym, subst}
use Rattle.oi_target_tasks.proofs.Indexes.{IsIndexed-marked, IsIndexed-pushed, pushed_last}
use Rattle.oi_target_tasks.specs.Places.{IsIndexed}
use Rattle.oi_target_tasks.specs.declared.task.Task.{Task}
use Rattle.oi_target_tasks.proofs.tasks.Tasks.push.Goals as goal

pub invariant_of-self-in_err-insert-2 : goal.invariant_of-self-in_err-insert-2
invariant_of-self-in_err-insert-2 c =
    let P : List (ℕ × Task) → Type 0 = λ es. IsIndexed es c.insert.new.self.entries c.self.inside.next in
    subst P (sym c.in_err-insert-2.ensures.err)
    (IsIndexed-marked c.self.inside.order.entries c.self.inside.places c.insert.new.self c.self.inside.next c.args.task.tag.0 c.self.inside.next c.args.self.now c.self.invariant c.self.view_is c.requires c.in_ok-insert.ensures.updates)

pub invariant_of-self-2 : goal.invariant_of-self-2
invariant_of-self-2 c =
    let P : ℕ → Type 0 = λ n. IsIndexed c.insert-2.new.self.entries c.insert.new.self.entries n in
    let marked = IsIndexed-marked c.self.inside.order.entries c.self.inside.places c.insert.new.self c.self.inside.next c.args.task.tag.0 c.self.inside.next c.args.self.now c.self.invariant c.self.view_is c.requires c.in_ok-insert.ensures.updates in
    subst P (sym c.in-Some.ensures.1)
    (IsIndexed-pushed c.self.inside.order c.insert-2.new.self c.insert.new.self.entries c.self.inside.next c.args.task marked c.in_ok-insert.ensures.updates.1 c.in_ok-insert-2.ensures.updates c.in_ok-insert-2.ensures.ordered)

pub returns-clause-ok : goal.returns-clause-ok
returns-clause-ok c =
    pushed_last c.self.inside.order c.insert-2.new.self c.self.inside.places.entries c.self.inside.next c.args.task c.args.self.now c.self.invariant c.self.view_is c.in_ok-insert-2.ensures.entries
