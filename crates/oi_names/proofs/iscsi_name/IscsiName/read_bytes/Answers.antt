use Rattle.std.proofs.Common.{sym, subst, arith}
use Rattle.oi_names.specs.Names.{IsName}
use Rattle.oi_names.proofs.Faults.{fault_at}
use Rattle.oi_names.proofs.Places.{no_word_long, no_word_short, not_not, reach_whole}
use Rattle.oi_names.proofs.iscsi_name.IscsiName.read_bytes.Goals as goal

pub returns-then-not-reach-clause-fault : goal.returns-then-not-reach-clause-fault
returns-then-not-reach-clause-fault c =
    fault_at IsName c.args.text.now c.name_reach-reach.result c.bad.result c.name_reach-reach.ensures c.bad.ensures
    (no_word_short IsName c.args.text.now c.name_reach-reach.result c.name_reach-reach.ensures c.if-not-reach.true)

pub returns-then-reach-text-clause-fault : goal.returns-then-reach-text-clause-fault
returns-then-reach-text-clause-fault c =
    fault_at IsName c.args.text.now c.name_reach-reach.result c.bad-then-reach-text.result c.name_reach-reach.ensures c.bad-then-reach-text.ensures
    (no_word_long IsName c.args.text.now c.name_reach-reach.result c.name_reach-reach.ensures c.if-reach-text.true)

pub invariant_of-result : goal.invariant_of-result
invariant_of-result c =
    subst IsName (sym c.in-Ok.ensures.items) (reach_whole IsName c.args.text.now c.name_reach-reach.result c.name_reach-reach.ensures (omega arith) (not_not c.name_reach-reach.result.whole c.if-not-reach.false))

pub returns-in-Ok-clause-ok : goal.returns-in-Ok-clause-ok
returns-in-Ok-clause-ok c =
    (c.in-Ok.ensures.items, reach_whole IsName c.args.text.now c.name_reach-reach.result c.name_reach-reach.ensures (omega arith) (not_not c.name_reach-reach.result.whole c.if-not-reach.false))
