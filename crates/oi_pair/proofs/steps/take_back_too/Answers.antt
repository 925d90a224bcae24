use Rattle.std.proofs.Common.{rules}
use Rattle.oi_pair.proofs.Takes.{takes_back_too, out_back_too}
use Rattle.oi_pair.proofs.steps.take_back_too.Goals as goal

pub compare_exchange-requires : goal.compare_exchange-requires
compare_exchange-requires g c = (c.requires.table.0, search rules, takes_back_too g.F.Keeps.entries g.F.Keeps.shared g.B.Keeps.entries g.B.Keeps.shared _ _ _ c.requires.seat.0 c.requires.seat.2)

pub exchange-slot-requires : goal.exchange-slot-requires
exchange-slot-requires g c = (search rules, out_back_too g.B.Keeps.entries g.B.Keeps.shared c.args.seat.now.me c.compare_exchange.new.seat.me c.compare_exchange.result c.if-compare_exchange-ne0.false c.compare_exchange.ensures.2)
