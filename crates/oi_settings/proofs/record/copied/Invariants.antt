use Rattle.std.proofs.Common.{◌≡◌, take}
use Rattle.oi_settings.proofs.record.copied.Given as goal

abbrev pub invariant-loop-at : goal.invariant-loop-at
invariant-loop-at l = l.copy ≡ take l.at l.settings
