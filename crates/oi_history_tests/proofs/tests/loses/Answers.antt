use Rattle.oi_history_tests.proofs.tests.loses.Goals as goal

pub step-requires : goal.step-requires
step-requires g c = c.login.ensures c.in_ok-ledger.ledger.now

pub step-requires-3 : goal.step-requires-3
step-requires-3 g c = c.cut.ensures c.step-2.new.self.now
