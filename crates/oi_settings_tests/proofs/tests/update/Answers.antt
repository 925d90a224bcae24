use Rattle.std.proofs.Common.{◌≡◌, true, ℕ, List, sym, ap, subst, ◌∙◌}
use Rattle.oi_settings.specs.Schema.{Takes, is_open, table}
use Rattle.oi_settings_tests.proofs.tests.update.Goals as goal

pub set-requires-clause-open : goal.set-requires-clause-open
set-requires-clause-open g c = ap is_open (sym c.as_slice.ensures) ∙ sym c.is_open.ensures ∙ c.if-not-is_open.false

pub set-requires-clause-taken : goal.set-requires-clause-taken
set-requires-clause-taken g c =
    subst (λ (n : List ℕ). Takes table n c.in_ok-value.value) c.as_slice-2.ensures
    (subst (λ (v : List ℕ). Takes table c.as_slice-2.result.now v) c.as_slice-3.ensures (c.in_ok-taken.ensures.0 c.if-not-taken.false))
