use Rattle.oi_target.proofs.Shown.{only_logged_in_are_served, only_proved_log_in}
use Rattle.oi_target.proofs.laws.sessions_are_proved.Goals as goal

pub returns-clause-logins : goal.returns-clause-logins
returns-clause-logins c = only_proved_log_in

pub returns-clause-served : goal.returns-clause-served
returns-clause-served c = only_logged_in_are_served
