use Rattle.oi_pair.proofs.Ledgers.{forward_alone_leaves}
use Rattle.oi_pair.proofs.ledger.leave_forward_alone.Goals as goal

pub leave_forward-requires-clause-half : goal.leave_forward-requires-clause-half
leave_forward-requires-clause-half c = forward_alone_leaves _ _ c.requires.own.0 c.requires.own.1
