-- The first pair goes out of both.
use Rattle.std.proofs.Common.{ℕ, List, ap, ◌∙◌}
use Rattle.oi_timers.specs.Agenda.{time_of}
use Rattle.oi_timers.proofs.Pairs.{Agree-taken}
use Rattle.oi_timers.proofs.agenda.Agenda.take_due.Goals as goal

pub invariant_of-self : goal.invariant_of-self
invariant_of-self c = (
  Agree-taken c.self.inside.by_key c.remove-2.new.self c.self.inside.by_time c.remove.new.self c.in_ok-at.key c.in_ok-at.at
      c.self.invariant.0 c.remove.ensures.updates c.remove-2.ensures.updates
      (ap (λ (times : List (ℕ × ℕ)). time_of times c.in_ok-at.key) c.self.view_is ∙ c.in_ok-at.ensures.first.held),
  c.remove-2.ensures.ordered,
)
