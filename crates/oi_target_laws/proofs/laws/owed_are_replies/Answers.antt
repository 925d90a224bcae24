use Rattle.oi_target_laws.proofs.Owed.{owed_are_awaited}
use Rattle.oi_target_laws.proofs.Owning.{executed_are_owned, requests_have_port}
use Rattle.oi_target_laws.proofs.laws.owed_are_replies.Goals as goal

pub returns : goal.returns
returns c = record { owed = owed_are_awaited; owners = executed_are_owned; port = requests_have_port }
