use Rattle.std.proofs.Common.{rules}
use Rattle.oi_pipe.proofs.Moves.{leaves_written}
use Rattle.oi_pipe.proofs.steps.leave_written.Goals as goal

pub swap-requires : goal.swap-requires
swap-requires c = (search rules, search rules, leaves_written _ _ _ _ _ c.args.seat.now.me.0 c.args.store (search rules) c.requires.inside.has_room c.requires.inside.inside c.requires.writes.0 c.requires.writes.1 c.requires.store.0 c.requires.store.1 c.requires.small)
