use Rattle.oi_session_laws.proofs.Holding.{live_holds}
use Rattle.oi_session_laws.proofs.laws.live_submissions_hold_their_tags.Goals as goal

pub returns : goal.returns
returns c = live_holds
