-- The pairs stay alike in each of the four ways through `set`.
use Rattle.std.proofs.Common.{ℕ, Some, sym, ap, ◌∙◌}
use Rattle.std.proofs.lemmas.Bool.{ne_eqb}
use Rattle.oi_timers.proofs.Pairs.{Agree-new, Agree-same, Agree-moved, Agree-undone}
use Rattle.oi_timers.proofs.agenda.Agenda.set.Goals as goal

pub invariant_of-self-then-old-at : goal.invariant_of-self-then-old-at
invariant_of-self-then-old-at c = (
  Agree-moved c.self.inside.by_key c.insert-2.new.self c.self.inside.by_time c.insert.new.self c.remove.new.self c.args.key c.args.at c.in-Ok-Some.old
      c.self.invariant.0 c.in_ok-insert.ensures.updates c.in-Ok-Some.ensures.updates c.remove.ensures.updates
      (sym c.in-Ok-Some.field-0-is ∙ c.in-Ok-Some.ensures.old) (ne_eqb _ _ c.if-old-at.true),
  c.in-Ok-Some.ensures.ordered,
)

pub invariant_of-self-else-old-at : goal.invariant_of-self-else-old-at
invariant_of-self-else-old-at c = (
  Agree-same c.self.inside.by_key c.insert-2.new.self c.self.inside.by_time c.insert.new.self c.args.key c.args.at
      c.self.invariant.0 c.in_ok-insert.ensures.updates c.in-Ok-Some.ensures.updates
      (ap (λ (n : ℕ). Some n) (sym c.if-old-at.false) ∙ sym c.in-Ok-Some.field-0-is ∙ c.in-Ok-Some.ensures.old),
  c.in-Ok-Some.ensures.ordered,
)

pub invariant_of-self-in-Ok-None : goal.invariant_of-self-in-Ok-None
invariant_of-self-in-Ok-None c = (
  Agree-new c.self.inside.by_key c.insert-2.new.self c.self.inside.by_time c.insert.new.self c.args.key c.args.at
      c.self.invariant.0 c.in_ok-insert.ensures.updates c.in-Ok-None.ensures.updates
      (sym c.in-Ok-None.field-0-is ∙ c.in-Ok-None.ensures.old),
  c.in-Ok-None.ensures.ordered,
)

pub invariant_of-self-in-Err : goal.invariant_of-self-in-Err
invariant_of-self-in-Err c = (
  Agree-undone c.self.inside.by_key c.insert-2.new.self c.self.inside.by_time c.insert.new.self c.remove-in-Err.new.self c.args.key c.args.at
      c.self.invariant.0 c.in_ok-insert.ensures.updates c.remove-in-Err.ensures.updates c.in-Err.ensures.err c.in-Err.ensures.absent,
  c.in-Err.ensures.ordered,
)
