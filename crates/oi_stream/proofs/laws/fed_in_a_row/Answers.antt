use Rattle.oi_stream.proofs.Bytewise.{fed_in_a_row}
use Rattle.oi_stream.proofs.laws.fed_in_a_row.Goals as goal

pub returns : goal.returns
returns c = fed_in_a_row
