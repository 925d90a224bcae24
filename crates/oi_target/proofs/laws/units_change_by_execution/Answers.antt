use Rattle.oi_target.proofs.Commands.{answers_are_replies, commands_in_order, owed_are_replies}
use Rattle.oi_target.proofs.laws.units_change_by_execution.Goals as goal

pub returns-clause-whole : goal.returns-clause-whole
returns-clause-whole c = commands_in_order

pub returns-clause-answers : goal.returns-clause-answers
returns-clause-answers c = answers_are_replies

pub returns-clause-owed : goal.returns-clause-owed
returns-clause-owed c = owed_are_replies
