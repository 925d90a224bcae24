use Rattle.oi_session_laws.proofs.Management.{given_in_order}
use Rattle.oi_session_laws.proofs.laws.management_tags_in_order.Goals as goal

pub returns : goal.returns
returns c = given_in_order
