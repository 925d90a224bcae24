use Rattle.std.proofs.Common.{rules}
use Rattle.oi_pipe.proofs.Moves.{leaves_full}
use Rattle.oi_pipe.proofs.steps.leave_full.Goals as goal

pub swap-requires : goal.swap-requires
swap-requires c = (search rules, search rules, leaves_full _ _ _ _ c.args.seat.now.me.0 c.args.store (search rules) c.requires.inside.has_room c.requires.inside.inside c.requires.store.0 c.requires.store.1)
