use Rattle.oi_session_laws.proofs.Counted.{ids_in_order}
use Rattle.oi_session_laws.proofs.laws.ids_are_in_order.Goals as goal

pub returns : goal.returns
returns c = ids_in_order
