use Rattle.std.proofs.Common.{rules}
use Rattle.oi_pipe.proofs.Moves.{joins, meets}
use Rattle.oi_pipe.proofs.steps.join.Goals as goal

pub join_seat-requires : goal.join_seat-requires
join_seat-requires c = (search rules, search rules, search rules, search rules, joins _ _ _ _ _ c.requires.writer.writes c.requires.writer.outside.outside)

pub load-requires : goal.load-requires
load-requires c = (search rules, search rules, meets _ _ _ _ (search rules) (search rules) (search rules))
