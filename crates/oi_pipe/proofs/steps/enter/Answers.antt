use Rattle.std.proofs.Common.{rules}
use Rattle.oi_pipe.proofs.Moves.{tries, taken_out}
use Rattle.oi_pipe.proofs.steps.enter.Goals as goal

pub compare_exchange-requires : goal.compare_exchange-requires
compare_exchange-requires c = (c.requires.table, search rules, tries _ _ _ _ c.requires.outside.nothing c.requires.outside.has_room)

pub exchange-requires : goal.exchange-requires
exchange-requires c = (search rules, taken_out c.args.seat.now.me c.compare_exchange.new.seat.me c.compare_exchange.result c.if-compare_exchange-ne0.false c.compare_exchange.ensures.2)
