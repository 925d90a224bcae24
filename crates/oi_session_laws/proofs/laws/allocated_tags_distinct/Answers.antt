use Rattle.oi_session_laws.proofs.Tags.{tags_distinct}
use Rattle.oi_session_laws.proofs.laws.allocated_tags_distinct.Goals as goal

pub returns : goal.returns
returns c = tags_distinct
