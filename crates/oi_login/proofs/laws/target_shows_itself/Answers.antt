use Rattle.oi_login.proofs.Shown.{shown}
use Rattle.oi_login.proofs.laws.target_shows_itself.Goals as goal

pub returns : goal.returns
returns c = shown
