use Rattle.std.proofs.Common.{rules}
use Rattle.oi_pipe.proofs.Moves.{leaves_read}
use Rattle.oi_pipe.proofs.steps.leave_read.Goals as goal

pub swap-requires : goal.swap-requires
swap-requires c = (search rules, search rules, leaves_read _ _ _ c.requires.store.0.0 _ c.args.seat.now.me.0 c.args.store (search rules) c.requires.inside.has_room c.requires.inside.inside c.requires.reads c.requires.store.0.1 c.requires.store.0.2 c.requires.store.1)
