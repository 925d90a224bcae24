use Rattle.std.proofs.Common.{◌≡◌, ◌<◌, ℕ, [], Some, length, slice_get}
use Rattle.oi_history.specs.Indices.{lun_index}
use Rattle.oi_history.proofs.index.Index.clear.Given as goal

abbrev pub invariant-loop-lun : goal.invariant-loop-lun
invariant-loop-lun l = (length l.lun-items ≡ length l.initial.lun-items) × ((k : ℕ) → k < l.lun-index → slice_get l.lun-items k ≡ Some (lun_index k []))
