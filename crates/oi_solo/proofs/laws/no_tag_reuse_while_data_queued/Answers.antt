use Rattle.oi_solo.proofs.Held.{no_reuse}
use Rattle.oi_solo.proofs.laws.no_tag_reuse_while_data_queued.Goals as goal

pub returns : goal.returns
returns c = no_reuse
