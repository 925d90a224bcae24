use Rattle.std.proofs.Common.{arith}
use Rattle.oi_names.proofs.Addresses.{dotted_here, dotted_past}
use Rattle.oi_names.proofs.address.+dotted_reach.Goals as goal

pub returns-in-Some : goal.returns-in-Some
returns-in-Some t c =
    dotted_past c.args.dots c.args.text.now c.in-Some.rest.now c.octet_reach-octet.result c.dotted_reach-more.result (omega arith) c.octet_reach-octet.ensures c.in-Some.ensures.0 c.in-Some.ensures.1 c.dotted_reach-more.ensures

pub returns-in-None : goal.returns-in-None
returns-in-None t c = dotted_here c.args.dots c.args.text.now c.octet_reach-octet.result (omega arith) c.octet_reach-octet.ensures c.in-None.ensures
