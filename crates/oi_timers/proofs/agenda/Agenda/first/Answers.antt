-- The least pair of the set is the first time.
use Rattle.std.proofs.Common.{ℕ, List, ◌≡◌, true, false, sym, subst, ◌∙◌}
use Rattle.oi_timers.specs.Agenda.{IsFirst}
use Rattle.oi_timers.proofs.Pairs.{IsFirst-least, empty_list, no_times}
use Rattle.oi_timers.proofs.agenda.Agenda.first.Goals as goal

pub returns-in-None-clause-none : goal.returns-in-None-clause-none
returns-in-None-clause-none c =
    sym c.self.view_is
    ∙ empty_list c.self.inside.by_key.entries
    (no_times c.self.inside.by_key.entries c.self.inside.by_time c.self.invariant.0
    (λ h. let e : false ≡ true = c.in-None.ensures.variant.1 h in cc))

pub returns-in-Some-clause-first : goal.returns-in-Some-clause-first
returns-in-Some-clause-first c =
    let P : List (ℕ × ℕ) → Type 0 = λ times. IsFirst times c.in-Some.pair.now.1 c.in-Some.pair.now.0 in
    subst P c.self.view_is
    (IsFirst-least c.self.inside.by_key.entries c.self.inside.by_time c.in-Some.pair.now.1 c.in-Some.pair.now.0
    c.self.invariant.0 c.in-Some.ensures.member c.in-Some.ensures.least)
