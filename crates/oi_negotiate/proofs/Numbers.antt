-- Numbers by their digits, and numbers within a range.
use Rattle.std.proofs.Common.{◌≡◌, ◌<◌, ◌≤◌, ◌^◌, ◌+◌, ◌-◌, ◌∙◌, ◌⊎◌, inl, inr, ℕ, Option, Some, None, List, [], ◌∷◌, ap, sym, refl, arith, length, drop, get_or, Bool, true, false, ◌&&◌, nat_le, if◌then◌else◌}
use Rattle.std.proofs.lemmas.Bool.{cases_lt}
use Rattle.std.proofs.lemmas.Bool.Decides.{nat_tests}
use Rattle.std.proofs.lemmas.List.{drop_more, drop_all}
use Rattle.oi_base.specs.Extended.{in_range}
use Rattle.oi_negotiate.specs.declared.values.Base.{Base}
use Rattle.oi_negotiate.specs.declared.values.Base.TheVariants.{Decimal, Hex}
use Rattle.oi_negotiate.specs.Values.{digit_in, behind, bind, value_behind}

le_from_test : (a b : ℕ) → nat_le a b ≡ true → a ≤ b
le_from_test a b h = grind (arith, nat_tests)

test_from_le : (a b : ℕ) → a ≤ b → nat_le a b ≡ true
test_from_le a b h = grind (arith, nat_tests)

test_from_lt : (a b : ℕ) → a < b → nat_le b a ≡ false
test_from_lt a b h = grind (arith, nat_tests)

some_by : (a b : Bool) (n m : ℕ) → (if a && b then Some n else None) ≡ Some m → n ≡ m
some_by true true n m e = cc
some_by true false n m e = absurd cc
some_by false b n m e = absurd cc

both_true : (a b : Bool) (n : ℕ) → a ≡ true → b ≡ true → (if a && b then Some n else None) ≡ Some n
both_true true true n p q = refl
both_true true false n p q = absurd cc
both_true false b n p q = absurd cc

second_false : (a b : Bool) (n : ℕ) → b ≡ false → (if a && b then Some n else None) ≡ None
second_false true true n q = absurd cc
second_false true false n q = refl
second_false false b n q = refl

pub in_range_is : (low high n : ℕ) → low ≤ n → n ≤ high → in_range low high n ≡ Some n
in_range_is low high n from to = both_true (nat_le low n) (nat_le n high) n (test_from_le low n from) (test_from_le n high to)

pub in_range_some : (low high n m : ℕ) → in_range low high n ≡ Some m → n ≡ m
in_range_some low high n m e = some_by (nat_le low n) (nat_le n high) n m e

pub in_range_above : (low high n : ℕ) → high < n → in_range low high n ≡ None
in_range_above low high n more = second_false (nat_le low n) (nat_le n high) n (test_from_lt high n more)

above_by : (high n : ℕ) → (high < n) ⊎ (n ≤ high) → in_range 0 high n ≡ None → high < n
above_by high n (inl more) e = more
above_by high n (inr most) e = let is : in_range 0 high n ≡ Some n = in_range_is 0 high n (omega arith) most in absurd (cc (is, e))

pub above : (high n : ℕ) → in_range 0 high n ≡ None → high < n
above high n e = above_by high n (cases_lt high n) e

grows : (base : Base) (v d : ℕ) → v ≤ behind base v d
grows Decimal v d = omega arith
grows Hex v d = omega arith

long_step : (base : Base) (v most : ℕ) (cs : List ℕ) → ((w : ℕ) → most < w → bind (value_behind base w cs) (in_range 0 most) ≡ None) → (o : Option ℕ) → most < v
    → bind (bind o (λ d. value_behind base (behind base v d) cs)) (in_range 0 most) ≡ None
long_step base v most cs IH None big = refl
long_step base v most cs IH (Some d) big = let le = grows base v d in IH (behind base v d) (omega arith)

-- a number that is too long stays so with every further digit
pub too_long : (base : Base) (v most : ℕ) (cs : List ℕ) → most < v → bind (value_behind base v cs) (in_range 0 most) ≡ None
too_long base v most [] big = in_range_above 0 most v big
too_long base v most (c ∷ cs) big = long_step base v most cs (λ w h. too_long base w most cs h) (digit_in base c) big

-- one digit of the text is read
pub digit_read : (base : Base) (v c d : ℕ) (cs : List ℕ) → digit_in base c ≡ Some d → value_behind base v (c ∷ cs) ≡ value_behind base (behind base v d) cs
digit_read base v c d cs e = ap (λ (o : Option ℕ). bind o (λ k. value_behind base (behind base v k) cs)) e

at_digit : (base : Base) (v c : ℕ) (ds : List ℕ) (i : ℕ) → i < length ds → get_or ds i 0 ≡ c → value_behind base v (drop i ds) ≡ value_behind base v (c ∷ drop (i + 1) ds)
at_digit base v c ds i within is = ap (λ (t : List ℕ). value_behind base v t) (drop_more ds i 0 within ∙ ap (λ (k : ℕ). k ∷ drop (i + 1) ds) is)

pub read_too_long : (base : Base) (all : Option ℕ) (v c d : ℕ) (ds : List ℕ) (i : ℕ) → i < length ds → get_or ds i 0 ≡ c → all ≡ value_behind base v (drop i ds) → digit_in base c ≡ Some d
    → in_range 0 (2 ^ 32 - 1) (behind base v d) ≡ None → None ≡ bind all (in_range 0 (2 ^ 32 - 1))
read_too_long base all v c d ds i within is was digit more =
    sym (ap (λ (o : Option ℕ). bind o (in_range 0 (2 ^ 32 - 1))) (was ∙ at_digit base v c ds i within is ∙ digit_read base v c d (drop (i + 1) ds) digit)
    ∙ too_long base (behind base v d) (2 ^ 32 - 1) (drop (i + 1) ds) (above (2 ^ 32 - 1) (behind base v d) more))

pub read_whole : (base : Base) (all : Option ℕ) (v : ℕ) (ds : List ℕ) (i : ℕ) → i ≡ length ds → v < 2 ^ 32 → all ≡ value_behind base v (drop i ds) → Some v ≡ bind all (in_range 0 (2 ^ 32 - 1))
read_whole base all v ds i end small was =
    sym (ap (λ (o : Option ℕ). bind o (in_range 0 (2 ^ 32 - 1))) (was ∙ ap (λ (t : List ℕ). value_behind base v t) (drop_all i ds (omega arith)))
    ∙ in_range_is 0 (2 ^ 32 - 1) v (omega arith) (omega arith))
