use Rattle.oi_stream.proofs.Streams.{followed_is_framed}
use Rattle.oi_stream.proofs.laws.followed_is_framed.Goals as goal

pub returns : goal.returns
returns c = followed_is_framed
