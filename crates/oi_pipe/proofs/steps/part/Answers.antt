use Rattle.std.proofs.Common.{rules}
use Rattle.oi_pipe.proofs.Moves.{splits}
use Rattle.oi_pipe.proofs.steps.part.Goals as goal

pub split_seat-requires : goal.split_seat-requires
split_seat-requires c = (search rules, search rules, splits _ _ _ c.requires.outside.outside c.requires.both.1)
