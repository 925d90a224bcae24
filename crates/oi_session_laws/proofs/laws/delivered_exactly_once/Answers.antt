use Rattle.oi_session_laws.proofs.Handed.{exactly_once}
use Rattle.oi_session_laws.proofs.laws.delivered_exactly_once.Goals as goal

pub returns : goal.returns
returns c = exactly_once
