use Rattle.oi_outcome_laws.proofs.Decided.{outcomes_decided}
use Rattle.oi_outcome_laws.proofs.laws.outcomes_are_decided.Goals as goal

pub returns : goal.returns
returns c = outcomes_decided
