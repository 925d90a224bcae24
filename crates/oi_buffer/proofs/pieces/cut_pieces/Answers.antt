use Rattle.oi_buffer.proofs.Cutting.{covers_all}
use Rattle.oi_buffer.proofs.pieces.cut_pieces.Goals as goal

pub returns-clause-covers : goal.returns-clause-covers
returns-clause-covers c =
    covers_all c.args.offset c.args.length c.args.max c.div_ceil.result c.requires.some c.div_ceil.ensures
