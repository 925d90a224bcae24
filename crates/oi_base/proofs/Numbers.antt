-- Fronts of decimal numbers, and one digit more behind them.
use Rattle.std.proofs.Common.{◌≡◌, ◌<◌, ◌≤◌, ◌^◌, ◌+◌, ◌-◌, ◌*◌, ◌/◌, ◌%◌, ◌∙◌, ◌⊎◌, inl, inr, ℕ, suc, zero, Option, Some, None, List, [], ◌∷◌, ◌++◌, length, take, drop, subst, sym, ap, refl, arith, length-append, append-nil, append_assoc, get_or, Bool, true, false, ◌&&◌, ◌==◌, nat_le, if◌then◌else◌}
use Rattle.std.proofs.lemmas.Bool.{cases_lt}
use Rattle.std.proofs.lemmas.Bool.Decides.{nat_tests}
use Rattle.std.proofs.lemmas.Grind.{common_steps}
use Rattle.std.proofs.lemmas.List.{take-append-drop, length-take-le, take-take, take_more}
use Rattle.std.specs.Fmt.{decimal}
use Rattle.std.proofs.lemmas.Fmt.{decimal_by_steps, decimal_digit, decimal_step, decimal_injective, decimal_nonempty}
use Rattle.oi_base.specs.Decimal.{IsNumber}
use Rattle.oi_base.specs.Extended.{extended}
use Rattle.oi_base.specs.Fronts.{Begins, IsPlace}

-- a front of the number n that is not empty is a number, at most n, and 0 only where n is
pub record IsFront (n : ℕ) (front : List ℕ) : Type 0 where
  pub value : ℕ
  pub most : value ≤ n
  pub some : 0 < n → 0 < value
  pub is : front ≡ decimal value

one_byte : (front rest : List ℕ) (c : ℕ) → front ++ rest ≡ c ∷ [] → 0 < length front → front ≡ c ∷ []
one_byte [] rest c e h = absurd (omega arith)
one_byte (x ∷ []) rest c e h = grind (arith, common_steps)
one_byte (x ∷ y ∷ front) rest c e h = absurd (omega (arith, ap length e, length-append front rest))

all_but_last : (front rest ds : List ℕ) (c : ℕ) → front ++ rest ≡ ds ++ c ∷ [] → length front ≤ length ds → front ++ drop (length front) ds ≡ ds
all_but_last [] rest ds c e h = refl
all_but_last (x ∷ front) rest [] c e h = absurd (omega arith)
all_but_last (x ∷ front) rest (d ∷ ds) c e h =
    let heads : x ≡ d = cc in
    let tails : front ++ rest ≡ ds ++ c ∷ [] = cc in
    rw (all_but_last front rest ds c tails (omega arith)) (ap (λ z. z ∷ ds) heads)

all_of_it : (front rest ds : List ℕ) (c : ℕ) → front ++ rest ≡ ds ++ c ∷ [] → length ds < length front → front ≡ ds ++ c ∷ []
all_of_it front [] ds c e h = sym (append-nil front) ∙ e
all_of_it front (x ∷ rest) ds c e h = absurd (omega (arith, ap length e, length-append front (x ∷ rest), length-append ds (c ∷ [])))

record HasFronts (n : ℕ) (ds : List ℕ) : Type 0 where
  is : n < 2 ^ 64 → ds ≡ decimal n
  fronts : n < 2 ^ 64 → (front rest : List ℕ) → front ++ rest ≡ ds → 0 < length front → IsFront n front

fronts_of_digit : (n : ℕ) → n < 10 → HasFronts n ((48 + n) ∷ [])
fronts_of_digit n small = record {
  is = λ _. sym (decimal_digit n small);
  fronts = λ _ front rest e h. record { value = n; most = omega arith; some = λ p. p; is = one_byte front rest (48 + n) e h ∙ sym (decimal_digit n small) };
}

front_with_digit : (n : ℕ) (ds : List ℕ) → 10 ≤ n → HasFronts (n / 10) ds → n < 2 ^ 64 → (front rest : List ℕ) → front ++ rest ≡ ds ++ (48 + n % 10) ∷ [] → 0 < length front
    → (length ds < length front) ⊎ (length front ≤ length ds) → IsFront n front
front_with_digit n ds big IH small front rest e h (inl long) = record {
  value = n;
  most = omega arith;
  some = λ p. p;
  is = all_of_it front rest ds (48 + n % 10) e long ∙ (ap (λ (z : List ℕ). z ++ (48 + n % 10) ∷ []) (IH.is (omega arith)) ∙ sym (decimal_step n big small));
}
front_with_digit n ds big IH small front rest e h (inr short) =
    let f : IsFront (n / 10) front = IH.fronts (omega arith) front (drop (length front) ds) (all_but_last front rest ds (48 + n % 10) e short) h in
    record { value = f.value; most = omega (arith, f.most); some = λ p. f.some (omega arith); is = f.is }

fronts_with_digit : (n : ℕ) (ds : List ℕ) → 10 ≤ n → HasFronts (n / 10) ds → HasFronts n (ds ++ (48 + n % 10) ∷ [])
fronts_with_digit n ds big IH = record {
  is = λ small. ap (λ (z : List ℕ). z ++ (48 + n % 10) ∷ []) (IH.is (omega arith)) ∙ sym (decimal_step n big small);
  fronts = λ small front rest e h. front_with_digit n ds big IH small front rest e h (cases_lt (length ds) (length front));
}

pub front_of_number : (n : ℕ) → n < 2 ^ 64 → (front rest : List ℕ) → front ++ rest ≡ decimal n → 0 < length front → IsFront n front
front_of_number n small front rest e h = (decimal_by_steps HasFronts fronts_of_digit fronts_with_digit n small).fronts small front rest e h

-- the last digit of the number m behind its front
pub record IsLast (front : List ℕ) (c m : ℕ) : Type 0 where
  pub low : 48 ≤ c
  pub high : c ≤ 57
  pub alone : front ≡ [] → m ≡ c - 48
  pub behind : (v : ℕ) → v < 2 ^ 64 → front ≡ decimal v → (0 < v) × (m ≡ 10 * v + (c - 48))

last_apart : (xs ys : List ℕ) (a b : ℕ) → xs ++ a ∷ [] ≡ ys ++ b ∷ [] → (xs ≡ ys) × (a ≡ b)
last_apart [] [] a b e = (refl, cc)
last_apart [] (y ∷ ys) a b e = absurd (omega (arith, ap length e, length-append ys (b ∷ [])))
last_apart (x ∷ xs) [] a b e = absurd (omega (arith, ap length e, length-append xs (a ∷ [])))
last_apart (x ∷ xs) (y ∷ ys) a b e =
    let tails : xs ++ a ∷ [] ≡ ys ++ b ∷ [] = cc in
    let heads : x ≡ y = cc in
    let more = last_apart xs ys a b tails in
    (rw heads (ap (λ z. y ∷ z) more.0), more.1)

not_empty : (v : ℕ) → v < 2 ^ 64 → (front : List ℕ) → front ≡ decimal v → front ≡ [] → ⊥
not_empty v small front is none = let lens : length (decimal v) ≡ 0 = ap length (sym is ∙ none) in omega (arith, decimal_nonempty v small)

last_of_digit : (m : ℕ) → m < 10 → (front : List ℕ) (c : ℕ) → front ++ c ∷ [] ≡ decimal m → IsLast front c m
last_of_digit m small front c e =
    let same = last_apart front [] c (48 + m) (e ∙ decimal_digit m small) in
    record { low = omega arith; high = omega arith; alone = λ _. omega arith; behind = λ v s is. absurd (not_empty v s front is same.0) }

last_of_longer : (m : ℕ) → 10 ≤ m → m < 2 ^ 64 → (front : List ℕ) (c : ℕ) → front ++ c ∷ [] ≡ decimal m → IsLast front c m
last_of_longer m big small front c e =
    let same = last_apart front (decimal (m / 10)) c (48 + m % 10) (e ∙ decimal_step m big small) in
    record {
      low = omega (arith, same.1);
      high = omega (arith, same.1);
      alone = λ none. absurd (not_empty (m / 10) (omega arith) front same.0 none);
      behind = λ v s is. let v_is : v ≡ m / 10 = decimal_injective v (m / 10) s (omega arith) (sym is ∙ same.0) in (omega arith, omega (arith, same.1));
    }

last_by : (m : ℕ) → (m < 10) ⊎ (10 ≤ m) → m < 2 ^ 64 → (front : List ℕ) (c : ℕ) → front ++ c ∷ [] ≡ decimal m → IsLast front c m
last_by m (inl small) s front c e = last_of_digit m small front c e
last_by m (inr big) s front c e = last_of_longer m big s front c e

pub last_digit : (m : ℕ) → m < 2 ^ 64 → (front : List ℕ) (c : ℕ) → front ++ c ∷ [] ≡ decimal m → IsLast front c m
last_digit m small front c e = last_by m (cases_lt m 10) small front c e

-- the value kept for the digits so far
abbrev pub Stands : ℕ → ℕ → List ℕ → Option ℕ → Type 0
Stands low high front None = front ≡ []
Stands low high front (Some v) = (front ≡ decimal v) × (low ≤ v) × (v ≤ high)

le_from_test : (a b : ℕ) → nat_le a b ≡ true → a ≤ b
le_from_test a b h = grind (arith, nat_tests)

test_from_le : (a b : ℕ) → a ≤ b → nat_le a b ≡ true
test_from_le a b h = grind (arith, nat_tests)

some_from_test : (v : ℕ) → (v == 0) ≡ false → 0 < v
some_from_test v h = grind (arith, nat_tests)

test_from_some : (v : ℕ) → 0 < v → (v == 0) ≡ false
test_from_some v h = grind (arith, nat_tests)

both_hold : (a b : Bool) (x : Option ℕ) (w : ℕ) → (if a && b then x else None) ≡ Some w → (a ≡ true) × (b ≡ true) × (x ≡ Some w)
both_hold true true x w e = (refl, refl, e)
both_hold true false x w e = absurd cc
both_hold false b x w e = absurd cc

one_fails : (a b : Bool) (x : Option ℕ) → (if a && b then x else None) ≡ None → a ≡ true → b ≡ true → x ≡ None
one_fails true true x e p q = e
one_fails true false x e p q = absurd cc
one_fails false b x e p q = absurd cc

one_holds : (a b : Bool) (w u : ℕ) → (if a then None else (if b then Some w else None)) ≡ Some u → (a ≡ false) × (b ≡ true) × (w ≡ u)
one_holds false true w u e = (refl, refl, cc)
one_holds false false w u e = absurd cc
one_holds true b w u e = absurd cc

none_holds : (a b : Bool) (w : ℕ) → (if a then None else (if b then Some w else None)) ≡ None → a ≡ false → b ≡ true → ⊥
none_holds false true w e p q = cc
none_holds false false w e p q = cc
none_holds true b w e p q = cc

stands_more : (low high : ℕ) → high < 2 ^ 64 → (front : List ℕ) (c : ℕ) (value : Option ℕ) (w : ℕ) → Stands low high front value → extended low high value c ≡ Some w → Stands low high (front ++ c ∷ []) (Some w)
stands_more low high small front c None w was is =
    let digit = both_hold (nat_le 48 c) (nat_le c 57) _ w is in
    let range = both_hold (nat_le low (c - 48)) (nat_le (c - 48) high) (Some (c - 48)) w digit.2 in
    let from : 48 ≤ c = le_from_test _ _ digit.0 in
    let to : c ≤ 57 = le_from_test _ _ digit.1 in
    let value : c - 48 ≡ w = cc in
    (rw was (ap (λ z. z ∷ []) (omega arith) ∙ sym (decimal_digit w (omega arith))), omega (arith, le_from_test _ _ range.0), omega (arith, le_from_test _ _ range.1))
stands_more low high small front c (Some v) w was is =
    let digit = both_hold (nat_le 48 c) (nat_le c 57) _ w is in
    let range = one_holds (v == 0) (nat_le (10 * v + (c - 48)) high) (10 * v + (c - 48)) w digit.2 in
    let from : 48 ≤ c = le_from_test _ _ digit.0 in
    let to : c ≤ 57 = le_from_test _ _ digit.1 in
    let some : 0 < v = some_from_test v range.0 in
    let most : w ≤ high = omega (arith, le_from_test _ _ range.1) in
    let value : 10 * v + (c - 48) ≡ w = range.2 in
    let tens : w / 10 ≡ v = omega arith in
    let ones : 48 + w % 10 ≡ c = omega arith in
    (ap (λ (z : List ℕ). z ++ c ∷ []) was.0 ∙ (rw (← tens, ← ones) (sym (decimal_step w (omega arith) (omega arith)))), omega (arith, was.1), most)

ends_at : (low high : ℕ) → low ≤ 1 → high < 2 ^ 64 → (front : List ℕ) (c m : ℕ) (value : Option ℕ) → low ≤ m → m ≤ high → IsLast front c m → Stands low high front value → extended low high value c ≡ None → ⊥
ends_at low high one small front c m None from to last was is =
    let rest = one_fails (nat_le 48 c) (nat_le c 57) _ is (test_from_le 48 c last.low) (test_from_le c 57 last.high) in
    let value : m ≡ c - 48 = last.alone was in
    let gone : Some (c - 48) ≡ None = one_fails (nat_le low (c - 48)) (nat_le (c - 48) high) (Some (c - 48)) rest (test_from_le _ _ (omega arith)) (test_from_le _ _ (omega arith)) in
    cc
ends_at low high one small front c m (Some v) from to last was is =
    let rest = one_fails (nat_le 48 c) (nat_le c 57) _ is (test_from_le 48 c last.low) (test_from_le c 57 last.high) in
    let behind = last.behind v (omega (arith, was.2)) was.0 in
    none_holds (v == 0) (nat_le (10 * v + (c - 48)) high) (10 * v + (c - 48)) rest (test_from_some v behind.0) (test_from_le _ _ (omega (arith, behind.1)))

low_within : (low n v : ℕ) → low ≤ 1 → low ≤ n → (0 < n → 0 < v) → low ≤ v
low_within zero n v one from some = omega arith
low_within (suc k) n v one from some = let p : 0 < v = some (omega arith) in omega arith

ends_here : (low high : ℕ) → low ≤ 1 → high < 2 ^ 64 → (front : List ℕ) (c : ℕ) (value : Option ℕ) → Stands low high front value → extended low high value c ≡ None → Begins (IsNumber low high) (front ++ c ∷ []) → ⊥
ends_here low high one small front c value was is b =
    let n = b.1.0 in
    let f = front_of_number n (omega (arith, b.1.2)) (front ++ c ∷ []) b.0 b.1.3 (omega (arith, length-append front (c ∷ []))) in
    ends_at low high one small front c f.value value (low_within low n f.value one b.1.1 f.some) (omega (arith, f.most, b.1.2)) (last_digit f.value (omega (arith, f.most, b.1.2)) front c f.is) was is

begins_less : (G : List ℕ → Type 0) (text : List ℕ) (k n : ℕ) → k ≤ n → Begins G (take n text) → Begins G (take k text)
begins_less G text k n le b =
    let whole : take k text ++ (drop k (take n text) ++ b.0) ≡ take n text ++ b.0 =
    sym (append_assoc (take k text) (drop k (take n text)) b.0) ∙ ap (λ (z : List ℕ). z ++ b.0) (ap (λ (z : List ℕ). z ++ drop k (take n text)) (sym (take-take k n text le)) ∙ take-append-drop k (take n text)) in
    (drop k (take n text) ++ b.0, subst G (sym whole) b.1)

begins_itself : (low high : ℕ) → low ≤ high → (front : List ℕ) (value : Option ℕ) → Stands low high front value → Begins (IsNumber low high) front
begins_itself low high some front None was = (decimal high, (high, some, omega arith, rw was refl))
begins_itself low high some front (Some v) was = ([], (v, was.1, was.2, append-nil front ∙ was.0))

number_itself : (low high : ℕ) (front : List ℕ) (value : Option ℕ) → 0 < length front → Stands low high front value → IsNumber low high front
number_itself low high front None some was = absurd (omega (arith, ap length was))
number_itself low high front (Some v) some was = (v, was.1, was.2, was.0)

-- the search ended at this place
pub record IsEnd (low high : ℕ) (text : List ℕ) (at : ℕ) : Type 0 where
  pub place : IsPlace (IsNumber low high) text at
  pub number : 0 < at → IsNumber low high (take at text)

is_end : (low high : ℕ) → low ≤ high → (text : List ℕ) (at : ℕ) (value : Option ℕ) → at ≤ length text → Stands low high (take at text) value → ((n : ℕ) → at < n → n ≤ length text → Begins (IsNumber low high) (take n text) → ⊥) → IsEnd low high text at
is_end low high some text at value within was longest = record {
  place = record { within = within; begins = begins_itself low high some _ value was; longest = longest };
  number = λ p. number_itself low high (take at text) value (omega (arith, length-take-le at text within)) was;
}

pub end_of_text : (low high : ℕ) → low ≤ high → (text : List ℕ) (at : ℕ) (value : Option ℕ) → at ≡ length text → Stands low high (take at text) value → IsEnd low high text at
end_of_text low high some text at value whole was = is_end low high some text at value (omega arith) was (λ n more within b. omega arith)

pub end_at_byte : (low high : ℕ) → low ≤ 1 → low ≤ high → high < 2 ^ 64 → (text : List ℕ) (at c : ℕ) (value : Option ℕ) → at < length text → get_or text at 0 ≡ c → Stands low high (take at text) value → extended low high value c ≡ None → IsEnd low high text at
end_at_byte low high one some small text at c value within byte was is =
    is_end low high some text at value (omega arith) was (λ n more inside b.
    ends_here low high one small (take at text) c value was is
    (subst (λ (z : List ℕ). Begins (IsNumber low high) z) (take_more text at 0 within ∙ ap (λ z. take at text ++ z ∷ []) byte) (begins_less (IsNumber low high) text (at + 1) n (omega arith) b)))

pub stands_at : (low high : ℕ) → high < 2 ^ 64 → (text : List ℕ) (at c : ℕ) (value : Option ℕ) (w : ℕ) → at < length text → get_or text at 0 ≡ c → Stands low high (take at text) value → extended low high value c ≡ Some w → Stands low high (take (at + 1) text) (Some w)
stands_at low high small text at c value w within byte was is =
    subst (λ (z : List ℕ). Stands low high z (Some w)) (sym (take_more text at 0 within ∙ ap (λ z. take at text ++ z ∷ []) byte)) (stands_more low high small (take at text) c value w was is)
