-- The parts that `split` gives are all tested.
use Rattle.std.proofs.Common.{lit<, rules, tests}
use Rattle.std.proofs.lemmas.Iterator.Search.{all_from_yields_List}
use Rattle.std.proofs.lemmas.Iterator.Splits.{YieldsList-from_str_split}
use Rattle.oi_net.specs.Paths.{is_name, slash}
use Rattle.oi_net.proofs.paths.names_record.Goals as goal

pub returns : goal.returns
returns c = all_from_yields_List is_name _ _ _ c.all.ensures.ran (YieldsList-from_str_split slash c.args.path.now (lit< tt) c.split.ensures.text c.split.ensures.has_more c.split.ensures.pattern) (λ x b q k. search (rules, tests))
