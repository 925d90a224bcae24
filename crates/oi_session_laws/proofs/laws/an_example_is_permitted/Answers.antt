use Rattle.oi_session_laws.proofs.Example.{example_is_permitted}
use Rattle.oi_session_laws.proofs.laws.an_example_is_permitted.Goals as goal

pub returns : goal.returns
returns c = example_is_permitted
