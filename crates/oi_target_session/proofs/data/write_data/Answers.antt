use Rattle.std.proofs.Common.{◌++◌, length, take}
use Rattle.oi_target_login.proofs.Growing.{grown_more}
use Rattle.oi_target_session.specs.Answers.{bytes_of}
use Rattle.oi_target_session.specs.Sequences.{data_pdus}
use Rattle.oi_target_session.proofs.Walks.{none_left, piece_is, place_after, remains_after, remains_none, some_left}
use Rattle.oi_target_session.proofs.data.write_data.Goals as goal

pub loop-rest-preserved : goal.loop-rest-preserved
loop-rest-preserved c = (
  place_after c.loop-rest.at c.piece_size-size.result (length c.args.bytes.now) c.loop-rest.rest.now c.after-rest.result.now c.loop-rest.invariant.0
      c.piece_size-size.ensures.within c.after-rest.ensures,
  remains_after c.args.source.limits c.args.source.numbers c.args.source.tag c.args.source.residual c.loop-rest.number c.loop-rest.at
      c.piece_size-size.result c.loop-rest.rest.now c.loop-rest.out.items
      (c.args.out.now.items ++ bytes_of (data_pdus c.args.source.limits c.args.source.numbers c.args.source.tag c.args.source.residual (length c.args.bytes.now) 0 0 c.args.bytes.now))
      c.write_parts.new.out.items c.after-rest.result.now
      (record { head = c.piece_head-head.result; payload = take c.piece_size-size.result c.loop-rest.rest.now })
      (some_left c.loop-rest.rest.now c.is_empty.result c.is_empty.ensures c.loop-rest-test.true)
      c.piece_size-size.ensures.some c.piece_size-size.ensures.size (piece_is c.args.source.limits c.args.source.numbers c.args.source.tag c.args.source.residual c.loop-rest.number c.loop-rest.at c.piece_size-size.result c.loop-rest.rest.now
      c.piece_head-head.result c.piece_head-head.ensures c.piece_size-size.ensures.size) c.in_ok-write_parts.ensures.out c.after-rest.ensures
      c.loop-rest.invariant.1,
  grown_more c.args.out.now.items c.loop-rest.out.items _ c.write_parts.new.out.items c.loop-rest.invariant.2 c.in_ok-write_parts.ensures.out,
)

pub returns-clause-out : goal.returns-clause-out
returns-clause-out c = remains_none c.args.source.limits c.args.source.numbers c.args.source.tag c.args.source.residual c.loop-rest.number c.loop-rest.at
    c.loop-rest.rest.now c.loop-rest.out.items
    (c.args.out.now.items ++ bytes_of (data_pdus c.args.source.limits c.args.source.numbers c.args.source.tag c.args.source.residual (length c.args.bytes.now) 0 0 c.args.bytes.now))
    (none_left c.loop-rest.rest.now c.is_empty.result c.is_empty.ensures c.loop-rest-test.false) c.loop-rest.invariant.1
