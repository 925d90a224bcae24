use Rattle.oi_session_laws.proofs.Numbers.{are_successive}
use Rattle.oi_session_laws.proofs.laws.command_numbers_successive.Goals as goal

pub returns : goal.returns
returns c = are_successive
