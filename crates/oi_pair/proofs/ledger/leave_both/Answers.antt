use Rattle.oi_pair.proofs.Ledgers.{back_leaves, forward_leaves}
use Rattle.oi_pair.proofs.ledger.leave_both.Goals as goal

pub leave_back-requires-clause-half : goal.leave_back-requires-clause-half
leave_back-requires-clause-half c = back_leaves _ _ _ c.requires.holds.0 c.requires.joint

pub leave_forward-requires-clause-half : goal.leave_forward-requires-clause-half
leave_forward-requires-clause-half c = rw c.leave_back.ensures (forward_leaves _ _ _ c.requires.joint)
