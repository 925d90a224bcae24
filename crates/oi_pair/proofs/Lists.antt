-- Lists of entries and of numbers, and totals over views.
use Rattle.std.proofs.Common.{◌≡◌, ◌≢◌, ◌⊎◌, ◌≤◌, ◌<◌, ◌+◌, eqb, nat_lt, cond, ℕ, zero, suc, List, [], ◌∷◌, ◌++◌, length, set, Bool, true, false, true≢false, refl, sym, ap, ◌∙◌, subst, ⊎_elim, inl, inr, arith, append_assoc}
use Rattle.std.proofs.lemmas.List.{append-nil}
use Rattle.std.proofs.lemmas.Bool.Decides.{nat_tests}
use mathlib.Core.Option.{some, some-ne-none, some-injective}
use mathlib.Core.Logic.{dite}
use native.Mathlib.Decide.{ℕ_discrete}
use lib.ListN.{get_elem?}
use Rattle.oi_base.specs.Counts.{bit}
use Rattle.oi_pair.specs.Lists.{Has, StartsWith, longer, numbers_of, times, IsPart, AllAbove, IsRising}
use Rattle.oi_pair.specs.Kept.{total}

pub off : false ≡ true → ⊥
off e = true≢false (sym e)

-- tests of numbers, as counts
pub bit_same : (n : ℕ) → bit (eqb n n) ≡ 1
bit_same n = let e : eqb n n ≡ true = grind (arith, nat_tests) in ap bit e

pub bit_apart : (n k : ℕ) → n ≢ k → bit (eqb n k) ≡ 0
bit_apart n k away = let e : eqb n k ≡ false = grind (arith, nat_tests) in ap bit e

pub bit_below : (k n : ℕ) → k < n → bit (nat_lt k n) ≡ 1
bit_below k n h = let e : nat_lt k n ≡ true = grind (arith, nat_tests) in ap bit e

pub bit_past : (k n : ℕ) → n ≤ k → bit (nat_lt k n) ≡ 0
bit_past k n h = let e : nat_lt k n ≡ false = grind (arith, nat_tests) in ap bit e

pub bit_small : (b : Bool) → bit b ≤ 1
bit_small true = omega arith
bit_small false = omega arith

bit_more_same : (k n : ℕ) → n ≡ k → bit (nat_lt k n) + bit (eqb n k) ≡ bit (nat_lt k (suc n))
bit_more_same k n e =
    let a = bit_past k n (omega arith) in
    let b = bit_below k (suc n) (omega arith) in
    let c : bit (eqb n k) ≡ 1 = ap (λ (j : ℕ). bit (eqb n j)) (sym e) ∙ bit_same n in
    omega arith

bit_more_apart : (k n : ℕ) → n ≢ k → bit (nat_lt k n) + bit (eqb n k) ≡ bit (nat_lt k (suc n))
bit_more_apart k n away =
    let c = bit_apart n k away in
    let same : nat_lt k n ≡ nat_lt k (suc n) = grind (arith, nat_tests) in
    omega (arith, ap bit same)

-- one number more is below the next bound
pub bit_more : (k n : ℕ) → bit (nat_lt k n) + bit (eqb n k) ≡ bit (nat_lt k (suc n))
bit_more k n = dite (ℕ_discrete n k) (λ e. bit_more_same k n e) (λ away. bit_more_apart k n away)

module _ {A : Type 0} where
  pub has_append : (xs ys : List A) (x : A) → Has (xs ++ ys) x → Has xs x ⊎ Has ys x
  has_append [] ys x h = inr h
  has_append (z ∷ xs) ys x h = ⊎_elim (λ (e : z ≡ x). inl (inl e)) (λ (t : Has (xs ++ ys) x). ⊎_elim (λ (a : Has xs x). inl (inr a)) (λ (b : Has ys x). inr b) (has_append xs ys x t)) h

  pub has_left : (xs ys : List A) (x : A) → Has xs x → Has (xs ++ ys) x
  has_left [] ys x h = absurd h
  has_left (z ∷ xs) ys x h = ⊎_elim (λ (e : z ≡ x). inl e) (λ (t : Has xs x). inr (has_left xs ys x t)) h

  pub has_right : (xs ys : List A) (x : A) → Has ys x → Has (xs ++ ys) x
  has_right [] ys x h = h
  has_right (z ∷ xs) ys x h = inr (has_right xs ys x h)

  pub starts_self : (xs : List A) → StartsWith xs xs
  starts_self xs = ([], sym (append-nil xs))

  pub starts_nil : (xs : List A) → StartsWith xs []
  starts_nil xs = (xs, refl)

  pub starts_more : (xs more s : List A) → StartsWith xs s → StartsWith (xs ++ more) s
  starts_more xs more s h = (h.0 ++ more, ap (λ (y : List A). y ++ more) h.1 ∙ append_assoc s h.0 more)

  -- of two beginnings of one list, the one that is not longer begins the other
  shorter_starts : (xs a b ra rb : List A) → xs ≡ a ++ ra → xs ≡ b ++ rb → length a ≤ length b → StartsWith b a
  shorter_starts xs [] b ra rb ea eb le = (b, refl)
  shorter_starts xs (x ∷ a) [] ra rb ea eb le = absurd (omega arith)
  shorter_starts [] (x ∷ a) (y ∷ b) ra rb ea eb le = absurd (let l = ap length ea in omega arith)
  shorter_starts (z ∷ xs) (x ∷ a) (y ∷ b) ra rb ea eb le =
      let same : x ≡ y = cc in
      let ta : xs ≡ a ++ ra = cc in
      let tb : xs ≡ b ++ rb = cc in
      let t = shorter_starts xs a b ra rb ta tb (omega arith) in
      (t.0, λ i. sym same i ∷ t.1 i)

  longer_cases : (xs a b : List A) (t : Bool) → nat_lt (length a) (length b) ≡ t → StartsWith xs a → StartsWith xs b → StartsWith xs (cond t b a) × StartsWith (cond t b a) a × StartsWith (cond t b a) b
  longer_cases xs a b true is ha hb = (hb, shorter_starts xs a b ha.0 hb.0 ha.1 hb.1 (grind (arith, nat_tests)), starts_self b)
  longer_cases xs a b false is ha hb = (ha, starts_self a, shorter_starts xs b a hb.0 ha.0 hb.1 ha.1 (grind (arith, nat_tests)))

  -- the longer of two beginnings of one list is one too, and begins with both
  pub longer_starts : (xs a b : List A) → StartsWith xs a → StartsWith xs b → StartsWith xs (longer a b) × StartsWith (longer a b) a × StartsWith (longer a b) b
  longer_starts xs a b ha hb = longer_cases xs a b (nat_lt (length a) (length b)) refl ha hb

  pub in_range : (l : List A) (i : ℕ) (a : A) → get_elem? l i ≡ some a → i < length l
  in_range [] i a e = absurd (some-ne-none a (sym e))
  in_range (x ∷ xs) zero a e = omega arith
  in_range (x ∷ xs) (suc i) a e = let h : i < length xs = in_range xs i a e in omega arith

  pub at_end : (l : List A) (a b : A) (j : ℕ) → get_elem? (l ++ a ∷ []) j ≡ some b → (get_elem? l j ≡ some b) ⊎ ((j ≡ length l) × (a ≡ b))
  at_end [] a b zero e = inr (refl, some-injective a b e)
  at_end [] a b (suc j) e = absurd (some-ne-none b (sym e))
  at_end (x ∷ xs) a b zero e = inl e
  at_end (x ∷ xs) a b (suc j) e = ⊎_elim (λ t. inl t) (λ t. inr (ap suc t.0, t.1)) (at_end xs a b j e)

  -- totals
  pub total_set : (f : A → ℕ) (vs : List A) (i : ℕ) (v w : A) → get_elem? vs i ≡ some v → total f (set vs i w) + f v ≡ total f vs + f w
  total_set f [] i v w e = absurd (some-ne-none v (sym e))
  total_set f (x ∷ vs) zero v w e = let s = ap f (some-injective x v e) in omega arith
  total_set f (x ∷ vs) (suc i) v w e = let h = total_set f vs i v w e in omega arith

  pub total_end : (f : A → ℕ) (vs : List A) (w : A) → total f (vs ++ w ∷ []) ≡ total f vs + f w
  total_end f [] w = omega arith
  total_end f (x ∷ vs) w = let h = total_end f vs w in omega arith

  pub total_one : (f : A → ℕ) (vs : List A) (i : ℕ) (v : A) → get_elem? vs i ≡ some v → f v ≤ total f vs
  total_one f [] i v e = absurd (some-ne-none v (sym e))
  total_one f (x ∷ vs) zero v e = let s = ap f (some-injective x v e) in omega arith
  total_one f (x ∷ vs) (suc i) v e = let h = total_one f vs i v e in omega arith

  pub total_two : (f : A → ℕ) (vs : List A) (i j : ℕ) (v u : A) → i ≢ j → get_elem? vs i ≡ some v → get_elem? vs j ≡ some u → f v + f u ≤ total f vs
  total_two f [] i j v u away e d = absurd (some-ne-none v (sym e))
  total_two f (x ∷ vs) zero zero v u away e d = absurd (away refl)
  total_two f (x ∷ vs) zero (suc j) v u away e d = let s = ap f (some-injective x v e) in let h = total_one f vs j u d in omega arith
  total_two f (x ∷ vs) (suc i) zero v u away e d = let s = ap f (some-injective x u d) in let h = total_one f vs i v e in omega arith
  total_two f (x ∷ vs) (suc i) (suc j) v u away e d = let h = total_two f vs i j v u (λ s. away (ap suc s)) e d in omega arith

  -- where all of p is in one view, a value that is nothing without p is this view's
  total_none : (p f : A → ℕ) (vs : List A) → ((j : ℕ) (u : A) → get_elem? vs j ≡ some u → p u ≡ 0 → f u ≡ 0) → total p vs ≡ 0 → total f vs ≡ 0
  total_none p f [] idle none = refl
  total_none p f (x ∷ vs) idle none = let a = idle 0 x refl (omega arith) in let b = total_none p f vs (λ j u e. idle (suc j) u e) (omega arith) in omega arith

  pub total_alone : (p f : A → ℕ) (vs : List A) (i : ℕ) (v : A) → ((j : ℕ) (u : A) → get_elem? vs j ≡ some u → p u ≡ 0 → f u ≡ 0) → get_elem? vs i ≡ some v → total p vs ≡ p v → total f vs ≡ f v
  total_alone p f [] i v idle e all = absurd (some-ne-none v (sym e))
  total_alone p f (x ∷ vs) zero v idle e all =
      let s = ap f (some-injective x v e) in
      let t = ap p (some-injective x v e) in
      let b = total_none p f vs (λ j u d. idle (suc j) u d) (omega arith) in
      omega arith
  total_alone p f (x ∷ vs) (suc i) v idle e all =
      let l = total_one p vs i v e in
      let a = idle 0 x refl (omega arith) in
      let b = total_alone p f vs i v (λ j u d. idle (suc j) u d) e (omega arith) in
      omega arith

  -- the others have none of p
  pub others_none : (p : A → ℕ) (vs : List A) (i j : ℕ) (v u : A) → i ≢ j → get_elem? vs i ≡ some v → get_elem? vs j ≡ some u → total p vs ≡ p v → p u ≡ 0
  others_none p vs i j v u away e d all = let h = total_two p vs i j v u away e d in omega arith

-- numbers
pub times_append : (k : ℕ) (xs ys : List ℕ) → times k (xs ++ ys) ≡ times k xs + times k ys
times_append k [] ys = omega arith
times_append k (x ∷ xs) ys = let h = times_append k xs ys in omega arith

pub times_end : (k : ℕ) (xs : List ℕ) (n : ℕ) → times k (xs ++ n ∷ []) ≡ times k xs + bit (eqb n k)
times_end k xs n = let h = times_append k xs (n ∷ []) in omega arith

pub has_times : (xs : List ℕ) (k : ℕ) → Has xs k → 0 < times k xs
has_times [] k h = absurd h
has_times (x ∷ xs) k h =
    ⊎_elim
    (λ (e : x ≡ k). let b : bit (eqb x k) ≡ 1 = ap (λ (j : ℕ). bit (eqb x j)) (sym e) ∙ bit_same x in omega arith)
    (λ (t : Has xs k). let b = has_times xs k t in omega arith)
    h

pub times_has : (xs : List ℕ) (k : ℕ) → 0 < times k xs → Has xs k
times_has [] k h = absurd (omega arith)
times_has (x ∷ xs) k h = dite (ℕ_discrete x k) (λ e. inl e) (λ away. inr (times_has xs k (let b = bit_apart x k away in omega arith)))

-- among numbers of which each is counted in one of two parts
pub has_of : (xs ys : List ℕ) (k : ℕ) → 0 < times k xs + times k ys → Has xs k ⊎ Has ys k
has_of xs ys k h = ⊎_elim (λ (a : Has xs k). inl a) (λ (b : Has ys k). inr b) (has_append xs ys k (times_has (xs ++ ys) k (let t = times_append k xs ys in omega arith)))

pub one_of_three : (xs ys zs : List ℕ) (k : ℕ) → 0 < times k xs + times k ys + times k zs → Has xs k ⊎ (Has ys k ⊎ Has zs k)
one_of_three xs ys zs k h =
    let t = times_append k ys zs in
    ⊎_elim (λ (a : Has xs k). inl a) (λ (b : Has (ys ++ zs) k). inr (has_append ys zs k b)) (has_of xs (ys ++ zs) k (omega arith))

pub part_times : (xs ys : List ℕ) (k : ℕ) → IsPart xs ys → times k xs ≤ times k ys
part_times [] ys k h = omega arith
part_times (x ∷ xs) [] k h = absurd h
part_times (x ∷ xs) (y ∷ ys) k h =
    ⊎_elim
    (λ (t : (x ≡ y) × IsPart xs ys). let r = part_times xs ys k t.1 in let e = ap (λ (j : ℕ). bit (eqb j k)) t.0 in omega arith)
    (λ (t : IsPart (x ∷ xs) ys). let r = part_times (x ∷ xs) ys k t in omega arith)
    h

pub part_length : (xs ys : List ℕ) → IsPart xs ys → length xs ≤ length ys
part_length [] ys h = omega arith
part_length (x ∷ xs) [] h = absurd h
part_length (x ∷ xs) (y ∷ ys) h =
    ⊎_elim
    (λ (t : (x ≡ y) × IsPart xs ys). let r = part_length xs ys t.1 in omega arith)
    (λ (t : IsPart (x ∷ xs) ys). let r = part_length (x ∷ xs) ys t in omega arith)
    h

-- ascending numbers
above_part : (k : ℕ) (zs xs ys : List ℕ) → IsPart xs ys → AllAbove k (zs ++ ys) → AllAbove k (zs ++ xs)
above_part k (z ∷ zs) xs ys h a = (a.0, above_part k zs xs ys h a.1)
above_part k [] [] ys h a = tt
above_part k [] (x ∷ xs) [] h a = absurd h
above_part k [] (x ∷ xs) (y ∷ ys) h a =
    ⊎_elim
    (λ (t : (x ≡ y) × IsPart xs ys). ((let e = t.0 in let b = a.0 in omega arith), above_part k [] xs ys t.1 a.1))
    (λ (t : IsPart (x ∷ xs) ys). above_part k [] (x ∷ xs) ys t a.1)
    h

pub rising_part : (zs xs ys : List ℕ) → IsPart xs ys → IsRising (zs ++ ys) → IsRising (zs ++ xs)
rising_part (z ∷ zs) xs ys h a = (above_part z zs xs ys h a.0, rising_part zs xs ys h a.1)
rising_part [] [] ys h a = tt
rising_part [] (x ∷ xs) [] h a = absurd h
rising_part [] (x ∷ xs) (y ∷ ys) h a =
    ⊎_elim
    (λ (t : (x ≡ y) × IsPart xs ys). (subst (λ (j : ℕ). AllAbove j xs) (sym t.0) (above_part y [] xs ys t.1 a.0), rising_part [] xs ys t.1 a.1))
    (λ (t : IsPart (x ∷ xs) ys). rising_part [] (x ∷ xs) ys t a.1)
    h

above_end : (k : ℕ) (xs : List ℕ) (n : ℕ) → k < n → AllAbove k xs → AllAbove k (xs ++ n ∷ [])
above_end k [] n h a = (h, tt)
above_end k (x ∷ xs) n h a = (a.0, above_end k xs n h a.1)

pub rising_end : (xs : List ℕ) (n : ℕ) → ((k : ℕ) → Has xs k → k < n) → IsRising xs → IsRising (xs ++ n ∷ [])
rising_end [] n h a = (tt, tt)
rising_end (x ∷ xs) n h a = (above_end x xs n (h x (inl refl)) a.0, rising_end xs n (λ k t. h k (inr t)) a.1)

-- If each number below n is one of them, they are at least n
sum_below : (ℕ → ℕ) → ℕ → ℕ
sum_below f zero = 0
sum_below f (suc n) = f n + sum_below f n

sum_below_two : (f g h : ℕ → ℕ) (n : ℕ) → ((k : ℕ) → h k ≡ f k + g k) → sum_below h n ≡ sum_below f n + sum_below g n
unfolding sum_below
sum_below_two f g h zero e = refl
sum_below_two f g h (suc n) e = let t = sum_below_two f g h n e in let s = e n in omega arith

sum_below_zero : (n : ℕ) → sum_below (λ k. 0) n ≡ 0
unfolding sum_below
sum_below_zero zero = refl
sum_below_zero (suc n) = let h = sum_below_zero n in omega arith

bit_turned_same : (x n : ℕ) → x ≡ n → bit (eqb x n) ≡ bit (eqb n x)
bit_turned_same x n e = λ i. bit (eqb (e i) (sym e i))

sum_below_bit : (x n : ℕ) → sum_below (λ k. bit (eqb x k)) n ≤ bit (nat_lt x n)
unfolding sum_below
sum_below_bit x zero = omega arith
sum_below_bit x (suc n) =
    let h = sum_below_bit x n in
    let m = bit_more x n in
    let e : bit (eqb x n) ≡ bit (eqb n x) = dite (ℕ_discrete x n) (λ is. bit_turned_same x n is) (λ away. bit_apart x n away ∙ sym (bit_apart n x (λ is. away (sym is)))) in
    omega arith

sum_below_times : (xs : List ℕ) (n : ℕ) → sum_below (λ k. times k xs) n ≤ length xs
unfolding sum_below
sum_below_times [] n = let h = sum_below_zero n in omega arith
sum_below_times (x ∷ xs) n =
    let h = sum_below_times xs n in
    let b = sum_below_bit x n in
    let small = bit_small (nat_lt x n) in
    let e = sum_below_two (λ k. bit (eqb x k)) (λ k. times k xs) (λ k. times k (x ∷ xs)) n (λ k. refl) in
    omega arith

sum_below_many : (f : ℕ → ℕ) (n : ℕ) → ((k : ℕ) → k < n → 0 < f k) → n ≤ sum_below f n
unfolding sum_below
sum_below_many f zero h = omega arith
sum_below_many f (suc n) h = let a = h n (omega arith) in let t = sum_below_many f n (λ k b. h k (omega arith)) in omega arith

pub pigeons : (n : ℕ) (xs : List ℕ) → ((k : ℕ) → k < n → 0 < times k xs) → n ≤ length xs
pigeons n xs h = let a = sum_below_many (λ k. times k xs) n h in let b = sum_below_times xs n in omega arith

-- entries and their numbers
module _ {E : Type 0} where
  pub numbers_append : (xs ys : List (ℕ × E)) → numbers_of (xs ++ ys) ≡ numbers_of xs ++ numbers_of ys
  numbers_append [] ys = refl
  numbers_append (x ∷ xs) ys = ap (λ (ns : List ℕ). x.0 ∷ ns) (numbers_append xs ys)

  pub numbers_length : (xs : List (ℕ × E)) → length (numbers_of xs) ≡ length xs
  numbers_length [] = refl
  numbers_length (x ∷ xs) = let h = numbers_length xs in omega arith

  pub has_number : (xs : List (ℕ × E)) (k : ℕ) (e : E) → Has xs (k, e) → Has (numbers_of xs) k
  has_number [] k e h = absurd h
  has_number (x ∷ xs) k e h = ⊎_elim (λ (is : x ≡ (k, e)). inl (ap (λ (y : ℕ × E). y.0) is)) (λ (t : Has xs (k, e)). inr (has_number xs k e t)) h

  pub number_left : (xs ys : List (ℕ × E)) (k : ℕ) → Has (numbers_of xs) k → Has (numbers_of (xs ++ ys)) k
  number_left xs ys k h = subst (λ (ns : List ℕ). Has ns k) (sym (numbers_append xs ys)) (has_left (numbers_of xs) (numbers_of ys) k h)

  pub number_right : (xs ys : List (ℕ × E)) (k : ℕ) → Has (numbers_of ys) k → Has (numbers_of (xs ++ ys)) k
  number_right xs ys k h = subst (λ (ns : List ℕ). Has ns k) (sym (numbers_append xs ys)) (has_right (numbers_of xs) (numbers_of ys) k h)

  pub number_of : (xs ys : List (ℕ × E)) (k : ℕ) → Has (numbers_of (xs ++ ys)) k → Has (numbers_of xs) k ⊎ Has (numbers_of ys) k
  number_of xs ys k h = has_append (numbers_of xs) (numbers_of ys) k (subst (λ (ns : List ℕ). Has ns k) (numbers_append xs ys) h)
