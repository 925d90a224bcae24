use Rattle.std.proofs.Common.{◌≡◌, drop}
use Rattle.oi_target.specs.Targets.{reset_links}
use Rattle.oi_target.proofs.steps.reset_links.Given as goal

abbrev pub invariant-loop-reset : goal.invariant-loop-reset
invariant-loop-reset l = reset_links (drop l.reset-index l.resets) l.units l.links.items ≡ reset_links l.resets l.initial.units l.initial.links.items
