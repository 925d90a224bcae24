use Rattle.oi_admin.proofs.Shown.{shown_on}
use Rattle.oi_admin.proofs.listing.append_shown.Goals as goal

pub loop-at-preserved : goal.loop-at-preserved
loop-at-preserved c =
    shown_on c.args.out.now.items c.loop-at.out.items c.append_line.new.out.items c.args.node.now.pairs c.loop-at.at c.pair.result.0.now c.pair.result.1.now c.shown_value.result.now c.loop-at.invariant
    c.in_ok-append_line.ensures c.shown_value.ensures c.pair.ensures
