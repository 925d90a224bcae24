use Rattle.oi_session_laws.proofs.Tags.{ids_distinct}
use Rattle.oi_session_laws.proofs.laws.allocated_ids_distinct.Goals as goal

pub returns : goal.returns
returns c = ids_distinct
