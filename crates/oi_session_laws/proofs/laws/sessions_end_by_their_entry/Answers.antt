use Rattle.oi_session_laws.proofs.Ends.{over_by_end}
use Rattle.oi_session_laws.proofs.laws.sessions_end_by_their_entry.Goals as goal

pub returns : goal.returns
returns c = over_by_end
