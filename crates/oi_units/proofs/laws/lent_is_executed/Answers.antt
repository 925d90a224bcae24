use Rattle.oi_units.proofs.Lending.{lent_is_executed}
use Rattle.oi_units.proofs.laws.lent_is_executed.Goals as goal

pub returns : goal.returns
returns c = lent_is_executed
