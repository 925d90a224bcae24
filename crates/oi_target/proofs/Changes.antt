-- A list changed at every place, one place further.
use Rattle.std.proofs.Common.{◌≡◌, ◌<◌, ◌+◌, ℕ, suc, zero, List, [], ◌∷◌, ◌++◌, length, take, drop, map, ap, refl, arith, add-one, get_or}
use Rattle.std.proofs.Math.ListN.{set}
use Rattle.oi_target.specs.declared.link.Link.{Link}

set_over : (f : Link → Link) (ls : List Link) (i : ℕ) (d : Link) → i < length ls
    → set (map f (take i ls) ++ drop i ls) i (f (get_or (map f (take i ls) ++ drop i ls) i d)) ≡ map f (take (suc i) ls) ++ drop (suc i) ls
set_over f [] i d h = absurd (omega arith)
set_over f (l ∷ ls) zero d h = refl
set_over f (l ∷ ls) (suc i) d h = ap (λ (z : List Link). f l ∷ z) (set_over f ls i d (omega arith))

pub changed_over : (f : Link → Link) (ls items : List Link) (i : ℕ) (d v : Link) → i < length ls
    → items ≡ map f (take i ls) ++ drop i ls → v ≡ f (get_or items i d) → set items i v ≡ map f (take (i + 1) ls) ++ drop (i + 1) ls
changed_over f ls items i d v h is makes = rw (makes, is, add-one) (set_over f ls i d h)
