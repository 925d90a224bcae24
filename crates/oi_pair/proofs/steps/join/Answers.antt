use Rattle.std.proofs.Common.{rules}
use Rattle.oi_pair.proofs.Seats.{joins, meets}
use Rattle.oi_pair.proofs.steps.join.Goals as goal

pub join_seat-requires : goal.join_seat-requires
join_seat-requires g c = (search rules, search rules, search rules, search rules, joins g.F.Keeps.entries g.F.Keeps.shared g.B.Keeps.entries g.B.Keeps.shared _ _ _ _ c.requires.seat.0 c.requires.seat.2 c.requires.other.1)

pub load-requires : goal.load-requires
load-requires g c = (search rules, search rules, meets g.F.Keeps.entries g.F.Keeps.shared g.B.Keeps.entries g.B.Keeps.shared _ _ _ (search rules) (search rules))
