use Rattle.oi_target_laws.proofs.Hearing.{logins_are_heard, served_have_proved}
use Rattle.oi_target_laws.proofs.laws.logins_are_heard.Goals as goal

pub returns : goal.returns
returns c = record { logins = logins_are_heard; served = served_have_proved }
