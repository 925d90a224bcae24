use Rattle.std.proofs.Common.{◌≡◌, take, drop}
use Rattle.oi_target.proofs.Learned.{reached_after}
use Rattle.oi_target.specs.Targets.{reset_each}
use Rattle.oi_target.proofs.steps.reset_each.Given as goal

abbrev pub invariant-loop-link : goal.invariant-loop-link
invariant-loop-link l =
    reached_after (take l.link-index l.link-items) (reset_each l.reset l.units (drop l.link-index l.link-items)) ≡ reset_each l.reset l.initial.units l.initial.link-items
