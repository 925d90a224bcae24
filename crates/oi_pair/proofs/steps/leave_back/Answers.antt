use Rattle.std.proofs.Common.{rules}
use Rattle.atomic_table.specs.Table.{rest}
use Rattle.oi_pair.proofs.Leaves.{leaves_back}
use Rattle.oi_pair.proofs.steps.leave_back.Goals as goal

pub swap-requires : goal.swap-requires
swap-requires g c = (search rules, search rules, leaves_back g.F.Keeps.entries g.F.Keeps.shared g.B.Keeps.entries g.B.Keeps.shared _ _ _ c.args.seat.now.me.0 (rest c.args.seat.now.me.1) c.args.half (search rules) c.requires.seat.0 c.requires.seat.2 c.requires.half)
