use Rattle.oi_session_laws.proofs.Management.{given_distinct}
use Rattle.oi_session_laws.proofs.laws.management_tags_distinct.Goals as goal

pub returns : goal.returns
returns c = given_distinct
