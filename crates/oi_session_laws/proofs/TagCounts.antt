-- Counting tags.
use Rattle.oi_history.specs.Tags.{fresh_tags}
use Rattle.oi_history.specs.Tasks.{is_live_on}
use Rattle.oi_history.specs.declared.task.Task.{Task}
use Rattle.std.proofs.Common.{◌≡◌, ◌∙◌, ◌+◌, ◌≤◌, ◌==◌, ℕ, Bool, true, false, not, List, [], ◌∷◌, ◌++◌, filter, cond, drop, ap, sym, refl, arith, nat_eq, Some, slice_get, ◌*◌, ◌^◌, ◌<◌, suc, zero, map}
use Rattle.std.proofs.lemmas.Bool.Decides.{nat_tests}
use Rattle.oi_base.specs.Counts.{bit}
use Rattle.oi_base.specs.declared.tag.Tag.{Tag}
use Rattle.oi_history.specs.declared.allocated.Allocated.{Allocated}
use Rattle.oi_session_laws.specs.Tags.{holdings, allocations, copies}
use Rattle.std.specs.List.{range_with_len}

pub copies-append : (tag : ℕ) (xs ys : List Tag) → copies tag (xs ++ ys) ≡ copies tag xs + copies tag ys
copies-append tag [] ys = omega arith
copies-append tag (x ∷ xs) ys = let more = copies-append tag xs ys in omega (arith, more)

pub allocations-append : (tag : ℕ) (xs ys : List Allocated) → allocations tag (xs ++ ys) ≡ allocations tag xs + allocations tag ys
allocations-append tag [] ys = omega arith
allocations-append tag (x ∷ xs) ys = let more = allocations-append tag xs ys in omega (arith, more)

pub holdings-append : (id : ℕ) (xs ys : List Allocated) → holdings id (xs ++ ys) ≡ holdings id xs + holdings id ys
holdings-append id [] ys = omega arith
holdings-append id (x ∷ xs) ys = let more = holdings-append id xs ys in omega (arith, more)

pub same_bit : (a b : ℕ) → a ≡ b → bit (nat_eq a b) ≡ 1
same_bit a b is = let t : nat_eq a b ≡ true = grind (arith, nat_tests, is) in ap bit t

pub other_test : (a b : ℕ) → (a ≡ b → ⊥) → nat_eq a b ≡ false
other_test a b differs = grind (arith, nat_tests, differs)

pub other_bit : (a b : ℕ) → (a ≡ b → ⊥) → bit (nat_eq a b) ≡ 0
other_bit a b differs = ap bit (other_test a b differs)

pub equal_from : (a b : ℕ) → nat_eq a b ≡ true → a ≡ b
equal_from a b is = grind (arith, nat_tests, is)

pub same_test : (a : ℕ) → nat_eq a a ≡ true
same_test a = grind (arith, nat_tests)

pub decide : (a b : ℕ) (P : Type 0) → ((a ≡ b) → P) → ((a ≡ b → ⊥) → P) → P
decide a b P same other = step (nat_eq a b) refl
  where
    step : (c : Bool) → nat_eq a b ≡ c → P
    step true is = same (equal_from a b is)
    step false is = other (λ e. let t : nat_eq a b ≡ true = grind (arith, nat_tests, e) in absurd cc)

-- a tag that is released leaves the allocated ones

pub without-same : (tag : ℕ) (busy : List Allocated) → allocations tag (filter (λ a. not (a.tag.0 == tag)) busy) ≡ 0
without-same tag [] = refl
without-same tag (a ∷ busy) = step (nat_eq a.tag.0 tag) refl (without-same tag busy)
  where
    step : (b : Bool) → nat_eq a.tag.0 tag ≡ b → allocations tag (filter (λ a. not (a.tag.0 == tag)) busy) ≡ 0
        → allocations tag (cond (not b) (a ∷ filter (λ a. not (a.tag.0 == tag)) busy) (filter (λ a. not (a.tag.0 == tag)) busy)) ≡ 0
    step true is rest = rest
    step false is rest = let mine : bit (nat_eq a.tag.0 tag) ≡ 0 = ap bit is in omega (arith, rest, mine)

pub without-other : (gone tag : ℕ) (busy : List Allocated) → (gone ≡ tag → ⊥) → allocations tag (filter (λ a. not (a.tag.0 == gone)) busy) ≡ allocations tag busy
without-other gone tag [] differs = refl
without-other gone tag (a ∷ busy) differs = step (nat_eq a.tag.0 gone) refl (without-other gone tag busy differs)
  where
    step : (b : Bool) → nat_eq a.tag.0 gone ≡ b → allocations tag (filter (λ a. not (a.tag.0 == gone)) busy) ≡ allocations tag busy
        → allocations tag (cond (not b) (a ∷ filter (λ a. not (a.tag.0 == gone)) busy) (filter (λ a. not (a.tag.0 == gone)) busy)) ≡ bit (a.tag.0 == tag) + allocations tag busy
    step true is rest =
        let same = equal_from a.tag.0 gone is in
        let mine = other_bit a.tag.0 tag (λ e. differs (sym same ∙ e)) in
        omega (arith, rest, mine)
    step false is rest = omega (arith, rest)

pub holdings-fewer : (gone id : ℕ) (busy : List Allocated) → holdings id (filter (λ a. not (a.tag.0 == gone)) busy) ≤ holdings id busy
holdings-fewer gone id [] = omega arith
holdings-fewer gone id (a ∷ busy) = step (nat_eq a.tag.0 gone) (holdings-fewer gone id busy)
  where
    step : (b : Bool) → holdings id (filter (λ a. not (a.tag.0 == gone)) busy) ≤ holdings id busy
        → holdings id (cond (not b) (a ∷ filter (λ a. not (a.tag.0 == gone)) busy) (filter (λ a. not (a.tag.0 == gone)) busy)) ≤ bit (a.id == id) + holdings id busy
    step true rest = omega (arith, rest)
    step false rest = omega (arith, rest)

first_of : (tags : List Tag) (tag : Tag) → slice_get tags 0 ≡ Some tag → tags ≡ tag ∷ drop 1 tags
first_of [] tag is = absurd cc
first_of (t ∷ tags) tag is = let same : t ≡ tag = cc in ap (λ (x : Tag). x ∷ tags) same

pub counted_first : (tags : List Tag) (tag : Tag) (n : ℕ) → slice_get tags 0 ≡ Some tag → copies n tags ≡ bit (tag.0 == n) + copies n (drop 1 tags)
counted_first tags tag n is = ap (copies n) (first_of tags tag is)

-- the tags of a connection differ

fresh_below : (base a n tag : ℕ) → tag < base + a → copies tag (map (λ i. record { 0 = base + i }) (range_with_len a n)) ≡ 0
fresh_below base a zero tag less = refl
fresh_below base a (suc n) tag less =
    let mine = other_bit (base + a) tag (λ is. omega (arith, less, is)) in
    let rest = fresh_below base (a + 1) n tag (omega (arith, less)) in
    omega (arith, mine, rest)

fresh_first : (base a n tag : ℕ) (b : Bool) → nat_eq (base + a) tag ≡ b → copies tag (map (λ i. record { 0 = base + i }) (range_with_len (a + 1) n)) ≤ 1
    → bit b + copies tag (map (λ i. record { 0 = base + i }) (range_with_len (a + 1) n)) ≤ 1
fresh_first base a n tag true is rest =
    let same = equal_from (base + a) tag is in
    let none = fresh_below base (a + 1) n tag (omega (arith, same)) in
    omega (arith, none)
fresh_first base a n tag false is rest = omega (arith, rest)

fresh_once : (base a n tag : ℕ) → copies tag (map (λ i. record { 0 = base + i }) (range_with_len a n)) ≤ 1
fresh_once base a zero tag = omega arith
fresh_once base a (suc n) tag = fresh_first base a n tag (nat_eq (base + a) tag) refl (fresh_once base (a + 1) n tag)

pub fresh_tags_once : (age count tag : ℕ) → copies tag (fresh_tags age count) ≤ 1
fresh_tags_once age count tag = fresh_once (age * 2 ^ 28) 0 count tag

-- whether a submission is live on a tag

abbrev pub live_at : ℕ → ℕ → List Task → Bool
live_at tag id [] = false
live_at tag zero (t ∷ ts) = is_live_on tag t.fate
live_at tag (suc id) (t ∷ ts) = live_at tag id ts
