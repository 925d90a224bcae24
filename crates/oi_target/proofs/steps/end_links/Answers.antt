use Rattle.std.proofs.Common.{arith}
use Rattle.oi_target.proofs.Changes.{changed_over}
use Rattle.oi_target.specs.Targets.{ended_by}
use Rattle.oi_target.proofs.steps.end_links.Goals as goal

pub loop-link-preserved : goal.loop-link-preserved
loop-link-preserved c =
    changed_over (ended_by c.args.nexus.now) c.deref_mut-link-items.result.now c.loop-link.link-items c.loop-link.link-index c.link-item.result c.end_link.new.link (omega arith) c.loop-link.invariant c.end_link.ensures
