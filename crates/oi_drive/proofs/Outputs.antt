-- Texts behind one another.
use Rattle.std.proofs.Common.{◌≡◌, ℕ, List, [], ◌++◌, Option, Some, None, ap, refl, append-nil, append_assoc}
use Rattle.oi_outside.specs.Streams.{behind}

pub behind-append : (h : Option (List ℕ)) (xs ys : List ℕ) → behind (behind h xs) ys ≡ behind h (xs ++ ys)
behind-append None xs ys = refl
behind-append (Some h) xs ys = ap (λ (z : List ℕ). Some z) (append_assoc h xs ys)

pub behind_none : (h : Option (List ℕ)) → behind h [] ≡ h
behind_none None = refl
behind_none (Some h) = ap (λ (z : List ℕ). Some z) (append-nil h)
