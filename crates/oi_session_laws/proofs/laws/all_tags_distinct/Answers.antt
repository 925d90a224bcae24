use Rattle.oi_session_laws.proofs.Apart.{all_distinct}
use Rattle.oi_session_laws.proofs.laws.all_tags_distinct.Goals as goal

pub returns : goal.returns
returns c = all_distinct
