use Rattle.oi_solo.proofs.Held.{data_have_tags}
use Rattle.oi_solo.proofs.laws.data_have_tags.Goals as goal

pub returns : goal.returns
returns c = data_have_tags
