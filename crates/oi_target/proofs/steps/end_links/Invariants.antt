use Rattle.std.proofs.Common.{◌≡◌, ◌++◌, map, take, drop}
use Rattle.oi_target.specs.Targets.{ended_by}
use Rattle.oi_target.proofs.steps.end_links.Given as goal

abbrev pub invariant-loop-link : goal.invariant-loop-link
invariant-loop-link l = l.link-items ≡ map (ended_by l.nexus) (take l.link-index l.initial.link-items) ++ drop l.link-index l.initial.link-items
