use Rattle.oi_session_laws.proofs.Stays.{stays_done}
use Rattle.oi_session_laws.proofs.laws.done_is_final.Goals as goal

pub returns : goal.returns
returns c = stays_done
