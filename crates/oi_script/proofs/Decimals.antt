-- A decimal number in a range, as a value.
use Rattle.std.proofs.Common.{◌≡◌, ◌<◌, ◌≤◌, ◌^◌, ◌∙◌, ℕ, Bool, true, false, ◌&&◌, List, [], ◌∷◌, Option, Some, None, MatchOption, ap, refl, arith, nat_eq, nat_le, if◌then◌else◌}
use Rattle.std.proofs.lemmas.Bool.Decides.{nat_tests}
use Rattle.std.proofs.lemmas.Fmt.{decimal_is_IsNumeral}
use Rattle.std.specs.Fmt.{decimal}
use Rattle.std.specs.Str.Parse.{digits_value}
use Rattle.oi_script.specs.Numbers.{is_text, number_in}

is_text_same : (a : List ℕ) → is_text a a ≡ true
is_text_same [] = refl
is_text_same (x ∷ xs) = grind (arith, nat_tests, is_text_same xs)

both_true : (p q : Bool) → (p && q) ≡ true → (p ≡ true) × (q ≡ true)
both_true true true e = (refl, refl)
both_true true false e = absurd cc
both_true false q e = absurd cc

same_number : (a b : ℕ) → nat_eq a b ≡ true → a ≡ b
same_number a b e = grind (arith, nat_tests)

text_is_same : (a b : List ℕ) → is_text a b ≡ true → a ≡ b
text_is_same [] [] e = refl
text_is_same [] (y ∷ ys) e = absurd cc
text_is_same (x ∷ xs) [] e = absurd cc
text_is_same (x ∷ xs) (y ∷ ys) e =
    let both = both_true (nat_eq x y) (is_text xs ys) e in
    let heads : x ≡ y = same_number x y both.0 in
    rw heads (ap (λ (z : List ℕ). y ∷ z) (text_is_same xs ys both.1))

le_test : (a b : ℕ) → a ≤ b → nat_le a b ≡ true
le_test a b h = grind (arith, nat_tests)

le_from : (a b : ℕ) → nat_le a b ≡ true → a ≤ b
le_from a b h = grind (arith, nat_tests)

found : (low high n : ℕ) (text : List ℕ) → high < 2 ^ 64 → low ≤ n → n ≤ high → text ≡ decimal n → Some n ≡ number_in low high text
found low high n text small from to is =
    let value : digits_value 10 text ≡ n = ap (λ (z : List ℕ). digits_value 10 z) is ∙ (decimal_is_IsNumeral n (omega arith)).1 in
    let same : is_text text (decimal n) ≡ true = rw is (is_text_same (decimal n)) in
    rw (value, le_test low n from, le_test n high to, same) refl

none_found : (low high v : ℕ) (text : List ℕ) (p q r : Bool) → nat_le low v ≡ p → nat_le v high ≡ q → is_text text (decimal v) ≡ r → ((n : ℕ) → low ≤ n → n ≤ high → text ≡ decimal n → ⊥)
    → None ≡ (if p && q && r then Some v else None)
none_found low high v text true true true p q r never = absurd (never v (le_from low v p) (le_from v high q) (text_is_same text (decimal v) r))
none_found low high v text true true false p q r never = refl
none_found low high v text true false r' p q r never = refl
none_found low high v text false q' r' p q r never = refl

pub number_is : (low high : ℕ) (text : List ℕ) (o : Option ℕ) → high < 2 ^ 64 → MatchOption o ((n : ℕ) → low ≤ n → n ≤ high → text ≡ decimal n → ⊥) (λ n. (low ≤ n) × (n ≤ high) × (text ≡ decimal n))
    → o ≡ number_in low high text
number_is low high text (Some n) small h = found low high n text small h.0 h.1 h.2
number_is low high text None small h = none_found low high (digits_value 10 text) text _ _ _ refl refl refl h
