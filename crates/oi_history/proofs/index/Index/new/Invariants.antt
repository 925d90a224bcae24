use Rattle.std.proofs.Common.{◌≡◌, ◌<◌, ℕ, [], Some, slice_get, vec_len}
use Rattle.oi_history.specs.Indices.{lun_index}
use Rattle.oi_history.proofs.index.Index.new.Given as goal

abbrev pub invariant-loop-lun : goal.invariant-loop-lun
invariant-loop-lun l = (vec_len l.luns ≡ l._lun) × ((k : ℕ) → k < l._lun → slice_get l.luns.items k ≡ Some (lun_index k []))
