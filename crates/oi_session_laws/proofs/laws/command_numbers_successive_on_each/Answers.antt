use Rattle.oi_session_laws.proofs.Connections.{successive_on_each}
use Rattle.oi_session_laws.proofs.laws.command_numbers_successive_on_each.Goals as goal

pub returns : goal.returns
returns c = successive_on_each
