use Rattle.std.proofs.Common.{rules}
use Rattle.oi_pipe.proofs.Moves.{closes}
use Rattle.oi_pipe.proofs.steps.close.Goals as goal

pub swap-requires : goal.swap-requires
swap-requires c = (search rules, search rules, closes _ _ _ _ c.requires.outside.nothing c.requires.writes)
