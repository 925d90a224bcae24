use Rattle.oi_stream.proofs.Bytewise.{unfed_follows}
use Rattle.oi_stream.proofs.laws.unfed_follows.Goals as goal

pub returns : goal.returns
returns c = unfed_follows
