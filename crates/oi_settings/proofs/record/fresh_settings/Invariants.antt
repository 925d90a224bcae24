use Rattle.std.proofs.Common.{◌≡◌, take}
use Rattle.oi_settings.specs.Schema.{fresh_pairs}
use Rattle.oi_settings.proofs.record.fresh_settings.Given as goal

abbrev pub invariant-loop-setting : goal.invariant-loop-setting
invariant-loop-setting l = l.fresh ≡ take l.setting-index (fresh_pairs l.key)
