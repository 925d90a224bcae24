use Rattle.oi_session_laws.proofs.Generations.{stale_changes_nothing}
use Rattle.oi_session_laws.proofs.laws.stale_pdu_changes_nothing.Goals as goal

pub returns : goal.returns
returns c = stale_changes_nothing
