use Rattle.std.proofs.Common.{rules, []}
use Rattle.oi_pair.proofs.Leaves.{leaves_forward}
use Rattle.oi_pair.proofs.steps.leave_forward.Goals as goal

pub swap-requires : goal.swap-requires
swap-requires g c = (search rules, search rules, leaves_forward g.F.Keeps.entries g.F.Keeps.shared g.B.Keeps.entries g.B.Keeps.shared _ _ _ c.args.seat.now.me.0 [] c.args.half (search rules) c.requires.seat.0 c.requires.seat.2 c.requires.half)
