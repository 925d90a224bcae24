use Rattle.oi_session_laws.proofs.Handed.{once_behind_end}
use Rattle.oi_session_laws.proofs.laws.delivered_once_behind_end.Goals as goal

pub returns : goal.returns
returns c = once_behind_end
