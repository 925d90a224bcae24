use Rattle.oi_stream.proofs.Bytewise.{fed_follows}
use Rattle.oi_stream.proofs.laws.fed_follows.Goals as goal

pub returns : goal.returns
returns c = fed_follows
