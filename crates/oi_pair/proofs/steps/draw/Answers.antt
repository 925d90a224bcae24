use Rattle.std.proofs.Common.{rules}
use Rattle.oi_pair.proofs.Counter.{draws}
use Rattle.oi_pair.proofs.steps.draw.Goals as goal

pub fetch_add-requires : goal.fetch_add-requires
fetch_add-requires g c = (c.requires.table.0, search rules, draws g.F.Keeps.entries g.F.Keeps.shared g.B.Keeps.entries g.B.Keeps.shared _ _ _ c.requires.seat.0 c.requires.seat.1)
