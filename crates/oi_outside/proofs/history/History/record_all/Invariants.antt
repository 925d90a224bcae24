use Rattle.std.proofs.Common.{◌≡◌, ◌++◌, take}
use Rattle.oi_outside.proofs.history.History.record_all.Given as goal

-- the items so far stand at the end
abbrev pub invariant-loop-item : goal.invariant-loop-item
invariant-loop-item g l = l.self ≡ l.initial.self ++ take l.item-index l.items
