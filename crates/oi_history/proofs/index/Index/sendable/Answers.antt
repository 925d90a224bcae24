use Rattle.std.proofs.Common.{arith, sym}
use Rattle.oi_history.proofs.Indexed.{sendable_all, sendable_next, sendable_none}
use Rattle.oi_history.proofs.index.Index.sendable.Goals as goal

pub loop-lun-init : goal.loop-lun-init
loop-lun-init c = λ ts h. sym (sendable_none c.args.depth ts)

pub loop-lun-preserved : goal.loop-lun-preserved
loop-lun-preserved c = λ ts h.
    sendable_next c.args.self.now c.deref-lun-items.result.now c.loop-lun.lun-index c.args.depth ts c.loop-lun.first c.earlier_sendable-first.result _ h c.deref-lun-items.ensures.value c.loop-lun-test.true
    c.earlier_sendable-first.ensures (c.loop-lun.invariant ts h)

pub returns : goal.returns
returns c = λ ts h. sendable_all c.args.self.now c.args.depth c.loop-lun.lun-index ts c.loop-lun.first h (omega (arith, h.size)) (c.loop-lun.invariant ts h)
