use Rattle.std.proofs.Common.{arith}
use Rattle.oi_reserve.specs.Outcomes.{rekeyed}
use Rattle.oi_reserve.proofs.Changes.{changed_over}
use Rattle.oi_reserve.proofs.registered.set_key.Goals as goal

pub loop-r-preserved : goal.loop-r-preserved
loop-r-preserved c =
    changed_over (rekeyed c.args.nexus.now c.args.key) c.deref_mut-r-items.result.now c.loop-r.r-items c.loop-r.r-index c.r-item.result c.rekey.new.r (omega arith) c.loop-r.invariant c.rekey.ensures
