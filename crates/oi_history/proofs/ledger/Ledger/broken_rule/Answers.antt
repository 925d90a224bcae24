use Rattle.oi_history.proofs.Judged.{judged_by, steps}
use Rattle.oi_history.proofs.ledger.Ledger.broken_rule.Goals as goal

pub returns-clause-judged : goal.returns-clause-judged
returns-clause-judged c =
    λ H is last. judged_by c.args.self.now.config H c.args.entry.now c.args.self.now.now is c.first_broken.result
    c.is_above.result c.comes.result c.is_next_command.result c.is_numbered.result c.is_tagged.result c.is_next_data.result c.is_first_ended.result c.draws_all.result c.is_asked.result c.goes_on.result c.has_cause.result c.is_next_login.result c.hands_out.result c.is_heeded.result c.stands_behind.result c.first_broken.ensures
    (c.is_above.ensures H last) c.comes.ensures c.is_next_command.ensures c.is_numbered.ensures c.is_tagged.ensures c.is_next_data.ensures c.is_first_ended.ensures c.draws_all.ensures c.is_asked.ensures c.goes_on.ensures c.has_cause.ensures c.is_next_login.ensures c.hands_out.ensures c.is_heeded.ensures c.stands_behind.ensures

pub returns-clause-steps : goal.returns-clause-steps
returns-clause-steps c =
    steps c.args.self.now.config c.args.self.now.now c.args.entry.now.event c.first_broken.result
    c.is_above.result c.comes.result c.is_next_command.result c.is_numbered.result c.is_tagged.result c.is_next_data.result c.is_first_ended.result c.draws_all.result c.is_asked.result c.goes_on.result c.has_cause.result c.is_next_login.result c.hands_out.result c.is_heeded.result c.stands_behind.result c.first_broken.ensures c.is_next_command.ensures c.is_numbered.ensures c.is_next_login.ensures
