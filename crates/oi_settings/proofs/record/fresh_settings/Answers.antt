use Rattle.std.proofs.lemmas.Option.{slice_get-get_or}
use Rattle.oi_settings.proofs.FreshPairs.{fresh_on}
use Rattle.oi_settings.proofs.record.fresh_settings.Goals as goal

pub loop-setting-preserved : goal.loop-setting-preserved
loop-setting-preserved c =
    fresh_on c.args.key.now c.settings_of-setting-items.result.now c.loop-setting.setting-index _ c.loop-setting.fresh c.put_initial.new.fresh c.settings_of-setting-items.ensures
    (slice_get-get_or c.settings_of-setting-items.result.now c.loop-setting.setting-index _ c.loop-setting-test.true) c.in_ok-put_initial.ensures c.loop-setting.invariant
