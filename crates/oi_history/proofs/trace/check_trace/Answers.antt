use Rattle.std.proofs.Common.{◌∙◌, ◌∷◌, List, Some, ap, arith, reverse, subst, take}
use Rattle.oi_history.proofs.Traced.{fault_of_all, one_more}
use Rattle.oi_history.specs.Traces.{Follows, IsTraceFault}
use Rattle.oi_history.specs.declared.event.Numbered.{Numbered}
use Rattle.oi_history.proofs.trace.check_trace.Goals as goal

pub returns-in-Err-clause-fault : goal.returns-in-Err-clause-fault
returns-in-Err-clause-fault c =
    let H = reverse (take c.loop-entry.entry-index c.args.events.now) in
    let fault = c.in-Err.ensures.fault c.args.config.now H c.loop-entry.invariant in
    fault_of_all c.args.config.now c.args.events.now c.loop-entry.entry-index c.entry-item.result c.in-Err.fault (omega arith)
    (subst (λ (n : Numbered). IsTraceFault c.args.config.now (n ∷ H) c.in-Err.fault) c.entry-item.is fault)

pub loop-entry-preserved : goal.loop-entry-preserved
loop-entry-preserved c =
    let H = reverse (take c.loop-entry.entry-index c.args.events.now) in
    let follows = c.in_default-check_entry.ensures.ok c.args.config.now H c.loop-entry.invariant in
    subst (λ (z : List Numbered). Follows c.check_entry.new.ledger (Some c.entry-item.result.number) c.args.config.now z)
    (ap (λ (n : Numbered). n ∷ H) c.entry-item.is ∙ one_more c.args.events.now c.loop-entry.entry-index c.entry-item.result (omega arith)) follows
