use Rattle.std.proofs.Common.{rules}
use Rattle.oi_pair.proofs.Seats.{splits}
use Rattle.oi_pair.proofs.steps.part.Goals as goal

pub split_seat-requires : goal.split_seat-requires
split_seat-requires g c = (search rules, search rules, splits g.F.Keeps.entries g.F.Keeps.shared g.B.Keeps.entries g.B.Keeps.shared _ _ c.requires.seat.0 c.requires.seat.2)
