use Rattle.std.proofs.Common.{Ok, Err, ap, refl}
use Rattle.oi_tool.specs.declared.stop.Stop.{Stop}
use Rattle.oi_tool.proofs.Counts.{applied_answer, refused_answer, unloaded_answer}
use Rattle.oi_tool.proofs.running.carry_out.Goals as goal

-- the words are refused
pub returns-in-Err-clause-answer : goal.returns-in-Err-clause-answer
returns-in-Err-clause-answer g c = refused_answer _ c.in-Err.fault c.stop_of_words.result _ _ _ _ c.stop_of_words.ensures c.in-Err.ensures

-- the records could not be loaded
pub returns-in-Err-load-clause-answer : goal.returns-in-Err-load-clause-answer
returns-in-Err-load-clause-answer g c =
    unloaded_answer _ c.in-Ok.command c.in-Err-load.fault c.stop_of.result c.from.result _ _ _ _ _ _ c.stop_of.ensures c.from.ensures c.in-Ok.ensures c.in-Err-load.ensures.loads
    c.in-Err-load.ensures.count

-- the command was applied
pub returns-in-Ok-apply-clause-answer : goal.returns-in-Ok-apply-clause-answer
returns-in-Ok-apply-clause-answer g c =
    applied_answer _ c.in-Ok.command (Ok tt) (Ok tt) c.in-Ok-load.db _ _ _ _ _ _ _ _ _ _ _ refl c.in-Ok.ensures c.in-Ok-load.ensures.loads c.in-Ok-load.ensures.count c.in-Ok-apply.ensures.applies
    c.in-Ok-apply.ensures.store c.in-Ok-apply.ensures.sink

pub returns-clause-answer : goal.returns-clause-answer
returns-clause-answer g c =
    applied_answer _ c.in-Ok.command (Err c.in-Err-apply.fault) (Err c.stop_of-in-Err-apply.result) c.in-Ok-load.db _ _ _ _ _ _ _ _ _ _ _
    (ap (λ (s : Stop). Err s) c.stop_of-in-Err-apply.ensures) c.in-Ok.ensures c.in-Ok-load.ensures.loads c.in-Ok-load.ensures.count c.in-Err-apply.ensures.applies
    c.in-Err-apply.ensures.store c.in-Err-apply.ensures.sink
