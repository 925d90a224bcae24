-- A list changed at every place, one place further.
use Rattle.std.proofs.Common.{◌≡◌, ◌<◌, ◌+◌, ℕ, suc, zero, List, [], ◌∷◌, ◌++◌, length, take, drop, map, ap, refl, arith, add-one, get_or}
use Rattle.std.proofs.Math.ListN.{set}
use Rattle.oi_reserve.specs.declared.entry.Registration.{Registration}

set_over : (f : Registration → Registration) (rs : List Registration) (i : ℕ) (d : Registration) → i < length rs
    → set (map f (take i rs) ++ drop i rs) i (f (get_or (map f (take i rs) ++ drop i rs) i d)) ≡ map f (take (suc i) rs) ++ drop (suc i) rs
set_over f [] i d h = absurd (omega arith)
set_over f (r ∷ rs) zero d h = refl
set_over f (r ∷ rs) (suc i) d h = ap (λ (z : List Registration). f r ∷ z) (set_over f rs i d (omega arith))

pub changed_over : (f : Registration → Registration) (rs items : List Registration) (i : ℕ) (d v : Registration) → i < length rs
    → items ≡ map f (take i rs) ++ drop i rs → v ≡ f (get_or items i d) → set items i v ≡ map f (take (i + 1) rs) ++ drop (i + 1) rs
changed_over f rs items i d v h is makes = rw (makes, is, add-one) (set_over f rs i d h)
