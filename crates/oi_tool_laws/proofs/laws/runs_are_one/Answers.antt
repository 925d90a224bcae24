use Rattle.oi_tool_laws.proofs.Commands.{one_command}
use Rattle.oi_tool_laws.proofs.Loads.{load_is_sound, one_first_bad, one_load}
use Rattle.oi_tool_laws.proofs.Outcomes.{one_outcome}
use Rattle.oi_tool_laws.proofs.laws.runs_are_one.Goals as goal

pub returns-clause-command : goal.returns-clause-command
returns-clause-command c = one_command

pub returns-clause-bad : goal.returns-clause-bad
returns-clause-bad c = one_first_bad

pub returns-clause-sound : goal.returns-clause-sound
returns-clause-sound c = load_is_sound

pub returns-clause-records : goal.returns-clause-records
returns-clause-records c = one_load

pub returns-clause-outcome : goal.returns-clause-outcome
returns-clause-outcome c = one_outcome
