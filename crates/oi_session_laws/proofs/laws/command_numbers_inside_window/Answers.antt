use Rattle.oi_session_laws.proofs.Numbers.{are_inside}
use Rattle.oi_session_laws.proofs.laws.command_numbers_inside_window.Goals as goal

pub returns : goal.returns
returns c = are_inside
