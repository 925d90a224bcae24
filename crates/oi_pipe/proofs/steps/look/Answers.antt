use Rattle.std.proofs.Common.{rules}
use Rattle.oi_pipe.proofs.Moves.{looks}
use Rattle.oi_pipe.proofs.steps.look.Goals as goal

pub load-requires : goal.load-requires
load-requires c = (search rules, search rules, looks _ _ _ _ c.requires.inside.inside c.requires.empty.1)
