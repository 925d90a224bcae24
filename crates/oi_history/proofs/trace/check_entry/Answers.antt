use Rattle.oi_history.proofs.Traced.{goes_on, is_fault}
use Rattle.oi_history.proofs.trace.check_entry.Goals as goal

pub returns-in-Some-clause-fault : goal.returns-in-Some-clause-fault
returns-in-Some-clause-fault c = λ C H f. is_fault c.args.ledger.now c.args.last c.args.entry.now c.in-Some.rule C H c.in-Some.ensures.judged f

pub returns-clause-ok : goal.returns-clause-ok
returns-clause-ok c = λ C H f. goes_on c.args.ledger.now c.step.new.self c.args.last c.args.entry.now C H c.in_default.ensures.judged c.step.ensures.config c.in-Ok.ensures.now f
