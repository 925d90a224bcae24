use Rattle.oi_session_laws.proofs.Ends.{all_done_after_end}
use Rattle.oi_session_laws.proofs.laws.all_done_after_end.Goals as goal

pub returns : goal.returns
returns c = all_done_after_end
