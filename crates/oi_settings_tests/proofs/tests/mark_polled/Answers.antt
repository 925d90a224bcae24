use Rattle.std.proofs.Common.{refl, arith}
use Rattle.oi_settings_tests.proofs.tests.mark_polled.Goals as goal

pub mark-requires-clause-line : goal.mark-requires-clause-line
mark-requires-clause-line c = rw (c.in_ok-name.ensures, c.in_ok-value.ensures) (record { name_some = omega arith; name_fits = omega arith; name_bytes = refl; value_bytes = refl })

pub mark-requires-clause-unknown : goal.mark-requires-clause-unknown
mark-requires-clause-unknown c = rw c.in_ok-name.ensures refl
