use Rattle.oi_session_laws.proofs.Tries.{tries_below_limit}
use Rattle.oi_session_laws.proofs.laws.tries_below_limit.Goals as goal

pub returns : goal.returns
returns c = tries_below_limit
