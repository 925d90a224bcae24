use Rattle.std.proofs.Common.{rules}
use Rattle.oi_history.proofs.Tallied.{moved-none}
use Rattle.oi_history.specs.Recovering.{tasks_heard}
use Rattle.oi_history.proofs.submissions.Submissions.hear.Goals as goal

pub returns-in_default-clause-ok : goal.returns-in_default-clause-ok
returns-in_default-clause-ok c = moved-none c.args.self.now (tasks_heard c.args.self.now.allowed c.args.at c.args.handler c.args.busy.now c.args.head.now c.args.payload.now c.args.self.now.tasks) (search rules)

pub returns-in_default-2-clause-ok : goal.returns-in_default-2-clause-ok
returns-in_default-2-clause-ok c = moved-none c.args.self.now (tasks_heard c.args.self.now.allowed c.args.at c.args.handler c.args.busy.now c.args.head.now c.args.payload.now c.args.self.now.tasks) (search rules)

pub returns-in_default-3-clause-ok : goal.returns-in_default-3-clause-ok
returns-in_default-3-clause-ok c = moved-none c.args.self.now (tasks_heard c.args.self.now.allowed c.args.at c.args.handler c.args.busy.now c.args.head.now c.args.payload.now c.args.self.now.tasks) (search rules)
