use Rattle.oi_target_session.proofs.Pieces.{long_header}
use Rattle.oi_target_session.proofs.parts.bare_header.Goals as goal

pub returns-clause-long : goal.returns-clause-long
returns-clause-long c = rw (c.in_ok-write_pdu.ensures.ok, c.new-bytes.ensures.items, c.new.ensures) (long_header c.args.head)
