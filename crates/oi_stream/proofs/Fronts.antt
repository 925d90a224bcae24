-- Fronts and rests of joined lists.
use Rattle.std.proofs.Common.{ℕ, zero, suc, ◌+◌, ◌-◌, List, [], ◌∷◌, ◌++◌, ◌≡◌, ◌∙◌, sym, refl, ap, length, take, drop, arith}
use Rattle.std.proofs.lemmas.List.{length-take, take_all}

pub take_over : (n : ℕ) (x y : List ℕ) → take n (x ++ y) ≡ take n x ++ take (n - length x) y
take_over zero x y = let e : 0 - length x ≡ 0 = omega arith in rw e refl
take_over (suc n) [] y = let e : suc n - 0 ≡ suc n = omega arith in rw e refl
take_over (suc n) (a ∷ x) y =
    let e : suc n - suc (length x) ≡ n - length x = omega arith in
    rw e (ap (λ (z : List ℕ). a ∷ z) (take_over n x y))

pub drop_over : (n : ℕ) (x y : List ℕ) → drop n (x ++ y) ≡ drop n x ++ drop (n - length x) y
drop_over zero x y = let e : 0 - length x ≡ 0 = omega arith in rw e refl
drop_over (suc n) [] y = let e : suc n - 0 ≡ suc n = omega arith in rw e refl
drop_over (suc n) (a ∷ x) y =
    let e : suc n - suc (length x) ≡ n - length x = omega arith in
    rw e (drop_over n x y)

-- a part in the middle of joined lists
pub middle_over : (n at : ℕ) (x y : List ℕ) → take n (drop at (x ++ y)) ≡ take n (drop at x) ++ take (n - length (take n (drop at x))) (drop (at - length x) y)
middle_over n at x y =
    let e : n - length (take n (drop at x)) ≡ n - length (drop at x) = omega (arith, length-take n (drop at x)) in
    rw (e, drop_over at x y) (take_over n (drop at x) (drop (at - length x) y))

pub take_sum : (a b : ℕ) (xs : List ℕ) → take (a + b) xs ≡ take a xs ++ take b (drop a xs)
take_sum zero b xs = let e : 0 + b ≡ b = omega arith in rw e refl
take_sum (suc a) b [] = take_all (suc a + b) [] (omega arith) ∙ sym (take_all b [] (omega arith))
take_sum (suc a) b (x ∷ xs) =
    let e : suc a + b ≡ suc (a + b) = omega arith in
    rw e (ap (λ (z : List ℕ). x ∷ z) (take_sum a b xs))
