use Rattle.oi_stream.proofs.Unique.{one_framing}
use Rattle.oi_stream.proofs.laws.one_framing.Goals as goal

pub returns : goal.returns
returns c = one_framing
