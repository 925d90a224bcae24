-- What a pool's invariant gives at each step.
use Rattle.std.proofs.Common.{zero-add, ◌≡◌, ℕ, zero, suc, replicate, ◌+◌, ◌/◌, ◌%◌, ◌^◌, ◌<◌, ◌≤◌, Bool, true, false, not, cond, eqb, ◌⊎◌, List, [], ◌∷◌, ◌++◌, length, map, drop, get_or, set, slice_index_or, refl, sym, ap, subst, ◌∙◌, ⊎_elim, arith, ◌==◌}
use Rattle.std.specs.List.{count_by, range_with_len}
use Rattle.std.proofs.lemmas.Grind.{common_steps}
use Rattle.std.proofs.lemmas.Bool.{cases_eq}
use Rattle.std.proofs.lemmas.Bool.Decides.{nat_tests}
use Rattle.std.proofs.lemmas.List.{get_or_past, get_or_default, get_or-set_same, get_or-set_other, get_or-replicate, length-set, length-replicate}
use Rattle.std.proofs.lemmas.List.FromFn.{length-range_with_len, map-range_with_len_more}
use Rattle.std.proofs.lemmas.List.Sums.{sum_by-set, sum_by-cons}
use Rattle.std.proofs.lemmas.Nat.{div-mul-add, mod-mul-add}
use Rattle.oi_base.specs.Counts.{bit}
use Rattle.oi_base.specs.TagLayout.{command_tag}
use Rattle.oi_tags.specs.declared.state.TagState.{TagState}
use Rattle.oi_tags.specs.declared.state.TagState.TheVariants.{Free, Live, Ended, Foreign}
use Rattle.oi_tags.specs.Pools.{IsKept, is_free, state_of}

-- how often a list has an index
abbrev copies : ℕ → List ℕ → ℕ
copies i xs = count_by (λ j. j == i) xs

same_number : (n : ℕ) → eqb n n ≡ true
same_number n = grind (arith, nat_tests)

lt_or_le : (a b : ℕ) → (a < b) ⊎ (b ≤ a)
lt_or_le a b = grind arith

copies_of_first : (i : ℕ) (rest : List ℕ) → copies i (i ∷ rest) ≡ 1 + copies i rest
copies_of_first i rest =
    sum_by-cons (λ j. cond (j == i) 1 0) i rest ∙ ap (λ (b : Bool). cond b 1 0 + copies i rest) (same_number i)

copies_of_other : (k i : ℕ) (rest : List ℕ) → (k ≡ i → ⊥) → copies k (i ∷ rest) ≡ copies k rest
copies_of_other k i rest apart = grind (arith, nat_tests)

-- an index that is in the list is free, and there once
free_by_copies : (s : TagState) (n : ℕ) → 1 + n ≡ bit (is_free s) → (s ≡ Free) × (n ≡ 0)
free_by_copies Free n e = (refl, omega arith)
free_by_copies Live n e = absurd (omega arith)
free_by_copies Ended n e = absurd (omega arith)
free_by_copies Foreign n e = absurd (omega arith)

live_is_not_free : Live ≡ Free → ⊥
live_is_not_free e = cc

foreign_is_not_free : Foreign ≡ Free → ⊥
foreign_is_not_free e = cc

-- what the first index of the list is
pub record IsFirst (i : ℕ) (rest : List ℕ) (states : List TagState) : Type 0 where
  pub within : i < length states
  pub small : i < 2048
  pub is_free : (d : TagState) → get_or states i d ≡ Free
  pub once : copies i rest ≡ 0

pub first_is_free : (age i : ℕ) (rest : List ℕ) (states : List TagState) (room : ℕ) → IsKept age (i ∷ rest) states room → IsFirst i rest states
first_is_free age i rest states room kept =
    let counted : 1 + copies i rest ≡ bit (is_free (get_or states i Live)) = sym (copies_of_first i rest) ∙ kept.once i in
    let known = free_by_copies (get_or states i Live) (copies i rest) counted in
    let within : i < length states =
    ⊎_elim (λ (h : i < length states). h) (λ (past : length states ≤ i). absurd (live_is_not_free (sym (get_or_past states i Live past) ∙ known.0))) (lt_or_le i (length states)) in
    record {
      within = within;
      small = let few = kept.few in omega arith;
      is_free = λ d. get_or_default states i d Live within ∙ known.0;
      once = known.1;
    }

-- how many indices are not free
abbrev busy : List TagState → ℕ
busy states = count_by (λ s. not (is_free s)) states

busy_take : (states : List TagState) (i : ℕ) → i < length states → get_or states i Live ≡ Free → busy (set states i Live) ≡ busy states + 1
busy_take states i within is =
    let moved : busy (set states i Live) + cond {A = ℕ} (not (is_free (get_or states i Live))) 1 0 ≡ busy states + 1 = sum_by-set (λ s. cond (not (is_free s)) 1 0) states i Live Live within in
    let was : cond {A = ℕ} (not (is_free (get_or states i Live))) 1 0 ≡ 0 = ap (λ (s : TagState). cond {A = ℕ} (not (is_free s)) 1 0) is in
    omega (arith, moved, was)

longer : (i : ℕ) (rest : List ℕ) → length rest + 1 ≡ length (i ∷ rest)
longer i rest = grind (arith, common_steps)

pub taken_was_free : (age i : ℕ) (free rest : List ℕ) (states : List TagState) (room : ℕ) → free ≡ i ∷ rest → IsKept age free states room → IsFirst i rest states
taken_was_free age i free rest states room is kept =
    first_is_free age i rest states room (subst (λ (xs : List ℕ). IsKept age xs states room) is kept)

-- after the first one is taken
pub kept_take : (age i : ℕ) (free rest : List ℕ) (states : List TagState) (room : ℕ) → free ≡ i ∷ rest → IsKept age free states room → IsKept age rest (set states i Live) room
kept_take age i free rest states room is kept' =
    let kept : IsKept age (i ∷ rest) states room = subst (λ (xs : List ℕ). IsKept age xs states room) is kept' in
    let first = first_is_free age i rest states room kept in
    let same = length-set states i Live in
    let within = first.within in
    record {
      age_fits = kept.age_fits;
      few = let few = kept.few in omega arith;
      once = λ k. once_at kept first k;
      counted = counted_at kept first;
      has_room = let r = kept.has_room in omega arith;
    }
  where
    once_at : IsKept age (i ∷ rest) states room → IsFirst i rest states → (k : ℕ) → copies k rest ≡ bit (is_free (slice_index_or (set states i Live) k Live))
    once_at kept first k =
        ⊎_elim
        (λ (e : k ≡ i). rw (e, get_or-set_same states i Live Live first.within) first.once)
        (λ (apart : k ≡ i → ⊥). sym (copies_of_other k i rest apart) ∙ kept.once k ∙ ap (λ (s : TagState). bit (is_free s)) (sym (get_or-set_other states i k Live Live apart)))
        (cases_eq k i)

    counted_at : IsKept age (i ∷ rest) states room → IsFirst i rest states → length rest + count_by (λ s. not (is_free s)) (set states i Live) ≡ length (set states i Live)
    counted_at kept first =
        let more = busy_take states i first.within (first.is_free Live) in
        let counted : length rest + 1 + busy states ≡ length states = ap (λ (n : ℕ). n + busy states) (longer i rest) ∙ kept.counted in
        let same = length-set states i Live in
        omega (arith, more, counted, same)

-- the tag of a free index is free
pub state_of_command : (age i : ℕ) (free : List ℕ) (states : List TagState) → i < 2048 → get_or states i Foreign ≡ Free → state_of (record { age = age; free = free; states = states }) (command_tag age i) ≡ Free
state_of_command age i free states small is =
    rw (div-mul-add age (2 ^ 28) i (omega arith), mod-mul-add age (2 ^ 28) i (omega arith)) (rw (same_number age) is)

-- where the list is empty, no tag is free
pub none_is_free : (age : ℕ) (free tags : List ℕ) (states : List TagState) (room : ℕ) → free ≡ [] → IsKept age free states room → (tag : ℕ) → state_of (record { age = age; free = tags; states = states }) tag ≡ Free → ⊥
none_is_free age free tags states room empty kept tag is = by_age (eqb (tag / 2 ^ 28) age) is
  where
    at_index : get_or states (tag % 2 ^ 28) Foreign ≡ Free → ⊥
    at_index is =
        let i : ℕ = tag % 2 ^ 28 in
        let none : 0 ≡ bit (is_free (get_or states i Live)) = subst (λ (xs : List ℕ). copies i xs ≡ bit (is_free (get_or states i Live))) empty (kept.once i) in
        ⊎_elim
        (λ (within : i < length states). let e : bit (is_free (get_or states i Live)) ≡ 1 = ap (λ (s : TagState). bit (is_free s)) (get_or_default states i Live Foreign within ∙ is) in absurd (omega arith))
        (λ (past : length states ≤ i). foreign_is_not_free (sym (get_or_past states i Foreign past) ∙ is))
        (lt_or_le i (length states))

    by_age : (same : Bool) → cond same (get_or states (tag % 2 ^ 28) Foreign) Foreign ≡ Free → ⊥
    by_age true is = at_index is
    by_age false is = foreign_is_not_free is

-- how often a number stands in a row of numbers
copies_before : (a n k : ℕ) → k < a → copies k (range_with_len a n) ≡ 0
copies_before a zero k before = refl
copies_before a (suc n) k before =
    copies_of_other k a (range_with_len (a + 1) n) (λ e. absurd (omega arith)) ∙ copies_before (a + 1) n k (omega arith)

copies_past : (a n k : ℕ) → a + n ≤ k → copies k (range_with_len a n) ≡ 0
copies_past a zero k past = refl
copies_past a (suc n) k past =
    copies_of_other k a (range_with_len (a + 1) n) (λ e. absurd (omega arith)) ∙ copies_past (a + 1) n k (omega arith)

copies_within : (a n k : ℕ) → a ≤ k → k < a + n → copies k (range_with_len a n) ≡ 1
copies_within a zero k low high = absurd (omega arith)
copies_within a (suc n) k low high =
    ⊎_elim
    (λ (e : k ≡ a). subst (λ (j : ℕ). copies j (range_with_len a (suc n)) ≡ 1) (sym e) (copies_of_first a (range_with_len (a + 1) n) ∙ ap (λ (m : ℕ). 1 + m) (copies_before (a + 1) n a (omega arith))))
    (λ (apart : k ≡ a → ⊥). copies_of_other k a (range_with_len (a + 1) n) apart ∙ copies_within (a + 1) n k (above a k low apart) (omega arith))
    (cases_eq k a)
  where
    above : (a k : ℕ) → a ≤ k → (k ≡ a → ⊥) → a + 1 ≤ k
    above a k low apart = grind arith

busy_none : (n : ℕ) → busy (replicate n Free) ≡ 0
busy_none zero = refl
busy_none (suc n) = sum_by-cons (λ s. cond (not (is_free s)) 1 0) Free (replicate n Free) ∙ zero-add (busy (replicate n Free)) ∙ busy_none n

-- a pool whose tags are all free
pub kept_full : (age count room : ℕ) → age < 16 → count ≤ 2048 → count ≤ room → IsKept age (range_with_len 0 count) (replicate count Free) room
kept_full age count room young few roomy =
    let long = length-replicate count Free in
    let listed = length-range_with_len 0 count in
    let none = busy_none count in
    record {
      age_fits = young;
      few = omega arith;
      once = once_at;
      counted = omega arith;
      has_room = omega arith;
    }
  where
    once_at : (k : ℕ) → copies k (range_with_len 0 count) ≡ bit (is_free (slice_index_or (replicate count Free) k Live))
    once_at k =
        ⊎_elim
        (λ (within : k < count). copies_within 0 count k (omega arith) (omega arith) ∙ ap (λ (s : TagState). bit (is_free s)) (sym (get_or-replicate count k Free Live within)))
        (λ (past : count ≤ k). copies_past 0 count k (omega arith) ∙ ap (λ (s : TagState). bit (is_free s)) (sym (get_or_past (replicate count Free) k Live (let long = length-replicate count Free in omega arith))))
        (lt_or_le k count)

pub row_push : (n : ℕ) → range_with_len 0 (n + 1) ≡ range_with_len 0 n ++ n ∷ []
row_push n = sym (map_same (range_with_len 0 (n + 1))) ∙ map-range_with_len_more (λ k. k) 0 n n (omega arith) ∙ ap (λ (xs : List ℕ). xs ++ n ∷ []) (map_same (range_with_len 0 n))
  where
    map_same : (xs : List ℕ) → map (λ k. k) xs ≡ xs
    map_same [] = refl
    map_same (x ∷ xs) = ap (λ (ys : List ℕ). x ∷ ys) (map_same xs)

pub empty_by_length : {X : Type 0} (xs : List X) → length xs ≡ 0 → xs ≡ []
empty_by_length [] e = refl
empty_by_length (x ∷ xs) e = absurd (let more = length_more x xs in omega arith)
  where
    length_more : {X : Type 0} (x : X) (xs : List X) → length (x ∷ xs) ≡ length xs + 1
    length_more x xs = grind (arith, common_steps)

-- a list's first item and the others
pub split_first : (xs : List ℕ) (x : ℕ) → 0 < length xs → x ≡ get_or xs 0 x → xs ≡ x ∷ drop 1 xs
split_first [] x some is = absurd (omega arith)
split_first (y ∷ ys) x some is = ap (λ (z : ℕ). z ∷ ys) (sym is)

pub kept_all : (age count : ℕ) (free : List ℕ) (states : List TagState) (room : ℕ) → free ≡ range_with_len 0 count → states ≡ replicate count Free → age < 16 → count ≤ 2048 → count ≤ room → IsKept age free states room
kept_all age count free states room listed filled young few roomy = rw (listed, filled) (kept_full age count room young few roomy)
