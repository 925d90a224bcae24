use Rattle.oi_solo.proofs.Allowed.{aborts}
use Rattle.oi_solo.specs.Cores.{session_of}
use Rattle.oi_solo.proofs.asking.abort.Goals as goal

pub enter-requires-clause-permitted : goal.enter-requires-clause-permitted
enter-requires-clause-permitted c = aborts (session_of c.args.kept.now) c.args.id c.requires.legal c.requires.numbered c.in_default.ensures.takes
