use Rattle.oi_stream.proofs.Bytewise.{fed_stays}
use Rattle.oi_stream.proofs.laws.fed_stays.Goals as goal

pub returns : goal.returns
returns c = fed_stays
