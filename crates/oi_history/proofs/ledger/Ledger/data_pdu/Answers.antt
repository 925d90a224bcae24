use Rattle.std.proofs.Common.{refl, rules}
use Rattle.oi_history.proofs.Turning.{data_is}
use Rattle.oi_history.proofs.ledger.Ledger.data_pdu.Goals as goal

pub returns : goal.returns
returns c =
    λ r is. data_is r c.args.id c.args.ttt c.args.number c.args.offset c.args.length c.args.last c.args.first c.in-Some.queued c.args.self.now.now.tasks c.in-Some-task_at.task.now c.in-Ok.pdu
    c.in-Some.is (search rules) (c.in-Ok.ensures r c.args.id c.in-Some-task_at.task.now is refl)
