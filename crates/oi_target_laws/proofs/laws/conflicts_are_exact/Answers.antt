use Rattle.oi_target_laws.proofs.Conflicts.{conflict_is_exact, conflicts_change_nothing}
use Rattle.oi_target_laws.proofs.laws.conflicts_are_exact.Goals as goal

pub returns : goal.returns
returns c = record { status = conflict_is_exact; units = conflicts_change_nothing }
