use Rattle.oi_pair.proofs.Ledgers.{back_alone_leaves}
use Rattle.oi_pair.proofs.ledger.leave_back_alone.Goals as goal

pub leave_back-requires-clause-half : goal.leave_back-requires-clause-half
leave_back-requires-clause-half c = back_alone_leaves _ _ c.requires.own
