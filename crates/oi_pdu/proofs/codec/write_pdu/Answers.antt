use Rattle.oi_pdu.specs.Table.{layout}
use Rattle.oi_pdu.proofs.Joined.{written}
use Rattle.oi_pdu.proofs.codec.write_pdu.Goals as goal

pub returns-clause-ok : goal.returns-clause-ok
returns-clause-ok c =
    written c.args.out.now.items c.reserve.new.self.items c.put_header.new.out.items c.append.new.out.items c.append-2.new.out.items c.as_slice-payload.result.now c.args.pdu.now.payload c.layout_of.result (layout c.args.pdu.now.head) c.padding_of-pad.result c.in_ok-reserve.ensures.items c.put_header.ensures.items c.append.ensures.items c.append-2.ensures.items c.as_slice-payload.ensures c.layout_of.ensures c.padding_of-pad.ensures
