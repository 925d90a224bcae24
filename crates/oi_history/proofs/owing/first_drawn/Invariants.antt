use Rattle.std.proofs.Common.{◌≡◌, drop, filter, slice_get}
use Rattle.std.specs.List.{flat_map}
use Rattle.oi_history.specs.Queues.{drawn_by}
use Rattle.oi_history.specs.Releasing.{counts_left}
use Rattle.oi_history.proofs.owing.first_drawn.Given as goal

abbrev pub invariant-loop-r : goal.invariant-loop-r
invariant-loop-r l = slice_get (flat_map (drawn_by l.params l.busy) (filter (counts_left l.ended.items l.busy l.tasks) l.solicited)) 0
    ≡ slice_get (flat_map (drawn_by l.params l.busy) (filter (counts_left l.ended.items l.busy l.tasks) (drop l.r-index l.solicited))) 0
