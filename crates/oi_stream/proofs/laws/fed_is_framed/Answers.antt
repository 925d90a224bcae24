use Rattle.oi_stream.proofs.Bytewise.{fed_is_framed}
use Rattle.oi_stream.proofs.laws.fed_is_framed.Goals as goal

pub returns : goal.returns
returns c = fed_is_framed
