-- Two ways to take a list apart.
use Rattle.std.proofs.Common.{◌≡◌, ◌<◌, ◌≤◌, ◌+◌, ℕ, suc, List, [], ◌∷◌, ◌++◌, length, take, sym, ap, refl, arith}

pub split_same : (x y s t : List ℕ) → length x ≡ length y → x ++ s ≡ y ++ t → (x ≡ y) × (s ≡ t)
split_same [] [] s t l e = (refl, e)
split_same [] (z ∷ y) s t l e = absurd (omega arith)
split_same (w ∷ x) [] s t l e = absurd (omega arith)
split_same (w ∷ x) (z ∷ y) s t l e =
    let tails : x ++ s ≡ y ++ t = cc in
    let heads : w ≡ z = cc in
    let more = split_same x y s t (omega arith) tails in
    (rw heads (ap (λ (v : List ℕ). z ∷ v) more.0), more.1)

-- the longer of two fronts begins with the shorter one
pub over_front : (x y s t : List ℕ) → x ++ s ≡ y ++ t → length x ≤ length y → (d : List ℕ) × (y ≡ x ++ d)
over_front [] y s t e l = (y, refl)
over_front (w ∷ x) [] s t e l = absurd (omega arith)
over_front (w ∷ x) (z ∷ y) s t e l =
    let tails : x ++ s ≡ y ++ t = cc in
    let heads : w ≡ z = cc in
    let more = over_front x y s t tails (omega arith) in
    (more.0, rw heads (ap (λ (v : List ℕ). z ∷ v) more.1))

pub past_front : (x y s t : List ℕ) (c : ℕ) → x ++ c ∷ s ≡ y ++ t → length x < length y → (d : List ℕ) × (y ≡ x ++ c ∷ d)
past_front [] [] s t c e l = absurd (omega arith)
past_front [] (z ∷ y) s t c e l = let heads : c ≡ z = cc in (y, ap (λ v. v ∷ y) (sym heads))
past_front (w ∷ x) [] s t c e l = absurd (omega arith)
past_front (w ∷ x) (z ∷ y) s t c e l =
    let tails : x ++ c ∷ s ≡ y ++ t = cc in
    let heads : w ≡ z = cc in
    let more = past_front x y s t c tails (omega arith) in
    (more.0, rw heads (ap (λ (v : List ℕ). z ∷ v) more.1))

pub take_join : (x s : List ℕ) (k n : ℕ) → n ≡ length x + k → take n (x ++ s) ≡ x ++ take k s
take_join [] s k n e = let same : n ≡ k = omega arith in rw same refl
take_join (w ∷ x) s k n e =
    let more : n ≡ suc (length x + k) = omega arith in
    rw more (ap (λ (v : List ℕ). w ∷ v) (take_join x s k (length x + k) refl))

pub take_past : (x s : List ℕ) (c k n : ℕ) → n ≡ length x + 1 + k → take n (x ++ c ∷ s) ≡ x ++ c ∷ take k s
take_past x s c k n e = take_join x (c ∷ s) (suc k) n (omega arith)
