use Rattle.oi_settings.proofs.LineLists.{written_on}
use Rattle.oi_settings.proofs.record.append_lines.Goals as goal

pub loop-at-preserved : goal.loop-at-preserved
loop-at-preserved c =
    written_on c.args.out.now.items c.loop-at.out.items c.append_line.new.out.items c.args.settings.now c.loop-at.at c.pair.result.0.now c.pair.result.1.now c.loop-at.invariant
    c.in-Ok.ensures.ok c.pair.ensures
