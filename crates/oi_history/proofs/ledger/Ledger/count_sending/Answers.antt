use Rattle.oi_history.proofs.Turning.{issuing_room}
use Rattle.oi_history.proofs.ledger.Ledger.count_sending.Goals as goal

pub returns-in-Issue : goal.returns-in-Issue
returns-in-Issue c =
    issuing_room c.args.self.now.config c.args.self.now.now c.args.send.now c.count_unasked.result c.in-Issue.id c.in-Issue.generation c.in-Issue.cmdsn c.in-Issue.tag c.in-Issue.is (c.count_unasked.ensures c.in-Issue.tag)
