use Rattle.oi_sendtargets.proofs.Reading.{is_pair_at}
use Rattle.oi_sendtargets.proofs.read.place_behind.Goals as goal

pub text_length-requires : goal.text_length-requires
text_length-requires c = is_pair_at c.args.pairs.now c.loop-pair.pair-index c.pair-item.result c.pair-item.result c.requires c.loop-pair-test.true c.pair-item.is
