use Rattle.std.proofs.Common.{◌≡◌, drop, slice_get}
use Rattle.oi_history.specs.Releasing.{data_left}
use Rattle.oi_history.proofs.owing.first_data.Given as goal

abbrev pub invariant-loop-queued : goal.invariant-loop-queued
invariant-loop-queued l = slice_get (data_left l.ended.items l.queue) 0 ≡ slice_get (data_left l.ended.items (drop l.queued-index l.queue)) 0
