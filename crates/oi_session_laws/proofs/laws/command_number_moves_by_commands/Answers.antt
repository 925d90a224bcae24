use Rattle.oi_session_laws.proofs.Numbers.{next_follows}
use Rattle.oi_session_laws.proofs.laws.command_number_moves_by_commands.Goals as goal

pub returns : goal.returns
returns c = next_follows
