use Rattle.oi_settings.proofs.FreshPairs.{copied_on}
use Rattle.oi_settings.proofs.record.copied.Goals as goal

pub loop-at-preserved : goal.loop-at-preserved
loop-at-preserved c =
    copied_on c.args.settings.now c.loop-at.at c.pair.result.0.now c.pair.result.1.now c.in_ok-name.name.items c.in_ok-from_slice.field-0 c.loop-at.copy c.put.new.self c.requires
    c.in_ok-put.ensures.ok c.in_ok-name.ensures.items c.in_ok-from_slice.ensures c.loop-at.invariant c.pair.ensures
