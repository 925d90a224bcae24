use Rattle.oi_login.proofs.Journeys.{again, begins, bounds, moves}
use Rattle.oi_login.proofs.laws.login_journeys_grow.Goals as goal

pub returns-clause-first : goal.returns-clause-first
returns-clause-first c = begins

pub returns-clause-last : goal.returns-clause-last
returns-clause-last c = again

pub returns-clause-further : goal.returns-clause-further
returns-clause-further c = moves

pub returns-clause-bounds : goal.returns-clause-bounds
returns-clause-bounds c = bounds
