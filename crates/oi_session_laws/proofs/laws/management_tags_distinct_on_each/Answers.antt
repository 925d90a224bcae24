use Rattle.oi_session_laws.proofs.Connections.{distinct_on_each}
use Rattle.oi_session_laws.proofs.laws.management_tags_distinct_on_each.Goals as goal

pub returns : goal.returns
returns c = distinct_on_each
