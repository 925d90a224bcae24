use Rattle.oi_history_tests.proofs.tests.requests_without_a_connection.Goals as goal

pub step-requires : goal.step-requires
step-requires g c = c.submit.ensures c.in_ok-ledger.ledger.now

pub step-requires-2 : goal.step-requires-2
step-requires-2 g c = c.login.ensures c.step.new.self.now

pub step-requires-3 : goal.step-requires-3
step-requires-3 g c = c.cut.ensures c.step-2.new.self.now

pub step-requires-5 : goal.step-requires-5
step-requires-5 g c = c.submit-2.ensures c.step-4.new.self.now
