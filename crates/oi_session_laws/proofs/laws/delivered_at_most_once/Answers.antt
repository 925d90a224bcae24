use Rattle.oi_session_laws.proofs.Handed.{at_most_once}
use Rattle.oi_session_laws.proofs.laws.delivered_at_most_once.Goals as goal

pub returns : goal.returns
returns c = at_most_once
