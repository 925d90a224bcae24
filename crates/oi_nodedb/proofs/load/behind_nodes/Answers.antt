use Rattle.std.proofs.Common.{codes}
use Rattle.std.proofs.lemmas.Bool.Decides.{Decides-eqb}
use Rattle.std.proofs.lemmas.Slice.Eq.{strip_prefix_is}
use Rattle.oi_nodedb.proofs.load.behind_nodes.Goals as goal

pub returns : goal.returns
returns c = strip_prefix_is Decides-eqb c.args.path.now (codes "nodes/") c.strip_prefix.result c.strip_prefix.ensures.cases
