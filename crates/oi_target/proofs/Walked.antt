-- PDUs of a connection, from one of them on.
use Rattle.std.proofs.Common.{ℕ, ◌≡◌, List, ◌++◌}
use Rattle.oi_target.specs.Feeding.{wire}
use Rattle.oi_target.specs.Steps.{Step}

-- what was written, followed by what the rest comes to, is the whole
pub record StepsOn (s : Step) (written : List ℕ) (whole : Step) (before : List ℕ) : Type 0 where
  pub target : s.target ≡ whole.target
  pub standing : s.standing ≡ whole.standing
  pub fed : s.fed ≡ whole.fed
  pub joined : written ++ wire s.sent ≡ before ++ wire whole.sent
