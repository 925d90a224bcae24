-- Fronts of lists.
use Rattle.std.proofs.Common.{◌≡◌, ℕ, List, ◌++◌, length, drop}
use Rattle.std.proofs.Math.Seq.{drop-append_seam}

-- what stands behind a front
pub drop_front : (xs ys : List ℕ) → drop (length xs) (xs ++ ys) ≡ ys
drop_front xs ys = drop-append_seam xs ys
