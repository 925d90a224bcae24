use Rattle.std.proofs.Common.{◌≡◌, ◌++◌, take}
use Rattle.oi_drive.specs.Deeds.{outcome_lines}
use Rattle.oi_drive.proofs.handing.put_outcomes.Given as goal

abbrev pub invariant-loop-d : goal.invariant-loop-d
invariant-loop-d l = l.out.items ≡ l.initial.out.items ++ outcome_lines l.sid (take l.d-index l.due)
