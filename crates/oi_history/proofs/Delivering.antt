-- Submissions that are due, where all of them lie between two places.
use Rattle.std.proofs.Common.{◌≡◌, ◌∙◌, ◌≤◌, ◌<◌, ◌+◌, ◌&&◌, ◌⊎◌, inl, inr, ℕ, suc, zero, Bool, true, false, not, List, [], ◌∷◌, ◌++◌, length, Some, ap, sym, refl, arith, append-nil, slice_get, count_by, cond, map, take, drop, min}
use Rattle.std.proofs.lemmas.List.{take-append-drop}
use Rattle.std.proofs.lemmas.List.Sums.{sum_by-cons}
use Rattle.std.proofs.lemmas.Option.{slice_get_within}
use Rattle.oi_history.specs.Indices.{AreSettledBut}
use Rattle.oi_history.specs.Tasks.{due_from, due_in, due_of, is_done, is_due, told_task}
use Rattle.oi_history.specs.declared.fate.Delivered.{Delivered}
use Rattle.oi_history.specs.declared.fate.Fate.{Fate}
use Rattle.oi_history.specs.declared.fate.Fate.TheVariants.{Waiting, Live, Done}
use Rattle.oi_history.specs.declared.task.Task.{Task}
use Rattle.oi_history.proofs.Places.{due_from-append}

pub all_within : (ts : List Task) → AreSettledBut 0 (length ts) ts
all_within ts id t at = inr (omega arith, slice_get_within ts id t at)

-- handed out exactly where it is done
abbrev pub AreSettled : List Task → Type 0
AreSettled ts = (id : ℕ) (t : Task) → slice_get ts id ≡ Some t → t.told ≡ is_done t.fate

get_take : (n : ℕ) (ts : List Task) (id : ℕ) (t : Task) → slice_get (take n ts) id ≡ Some t → (id < n) × (slice_get ts id ≡ Some t)
get_take zero ts id t at = absurd cc
get_take (suc n) [] id t at = absurd cc
get_take (suc n) (u ∷ ts) zero t at = (omega arith, at)
get_take (suc n) (u ∷ ts) (suc id) t at =
    let more = get_take n ts id t at in
    (omega (arith, more.0), more.1)

get_drop : (n : ℕ) (ts : List Task) (id : ℕ) (t : Task) → slice_get (drop n ts) id ≡ Some t → slice_get ts (n + id) ≡ Some t
get_drop zero ts id t at = ap (slice_get ts) (zero_more id) ∙ at
  where
    zero_more : (k : ℕ) → 0 + k ≡ k
    zero_more k = omega arith
get_drop (suc n) [] id t at = absurd cc
get_drop (suc n) (u ∷ ts) id t at = ap (slice_get (u ∷ ts)) (one_more n id) ∙ get_drop n ts id t at
  where
    one_more : (m k : ℕ) → suc m + k ≡ suc (m + k)
    one_more m k = omega arith

settled_first : (low high : ℕ) (ts : List Task) → AreSettledBut low high ts → AreSettled (take low ts)
settled_first low high ts h id t at =
    let from = get_take low ts id t at in
    either (h id t from.1) from.0
  where
    either : (t.told ≡ is_done t.fate) ⊎ ((low ≤ id) × (id < high)) → id < low → t.told ≡ is_done t.fate
    either (inl is) under = is
    either (inr within) under = absurd (omega (arith, within.0))

settled_last : (low high n : ℕ) (ts : List Task) → AreSettledBut low high ts → min high (length ts) ≤ n → AreSettled (drop n ts)
settled_last low high n ts h past id t at =
    let from = get_drop n ts id t at in
    let there = slice_get_within ts (n + id) t from in
    either (h (n + id) t from) there
  where
    either : (t.told ≡ is_done t.fate) ⊎ ((low ≤ n + id) × (n + id < high)) → n + id < length ts → t.told ≡ is_done t.fate
    either (inl is) there = is
    either (inr within) there = absurd (omega (arith, within.1, past))

settled_behind : (t : Task) (ts : List Task) → AreSettled (t ∷ ts) → AreSettled ts
settled_behind t ts h id u at = h (suc id) u at

-- what is due

due_told : (id : ℕ) (t : Task) (f : Fate) → t.told ≡ is_done f → due_of id t f ≡ []
due_told id t (Waiting tries) is = refl
due_told id t (Live generation tag tries) is = refl
due_told id t (Done outcome at) is = rw is refl

due_none : (n : ℕ) (ts : List Task) → AreSettled ts → due_from n ts ≡ []
due_none n [] h = refl
due_none n (t ∷ ts) h = rw (due_told n t t.fate (h 0 t refl)) (due_none (n + 1) ts (settled_behind t ts h))

pub due_first : (low high : ℕ) (ts : List Task) → AreSettledBut low high ts → [] ≡ due_from 0 (take low ts)
due_first low high ts h = sym (due_none 0 (take low ts) (settled_first low high ts h))

pub due_last : (low high n : ℕ) (ts : List Task) (out : List Delivered) → AreSettledBut low high ts → min high (length ts) ≤ n → out ≡ due_from 0 (take n ts) → out ≡ due_in ts
due_last low high n ts out h past is =
    is ∙ (sym (append-nil (due_from 0 (take n ts))) ∙ (ap (λ (z : List Delivered). due_from 0 (take n ts) ++ z) (sym (due_none (0 + length (take n ts)) (drop n ts) (settled_last low high n ts h past)))
    ∙ (sym (due_from-append 0 (take n ts) (drop n ts)) ∙ ap (due_from 0) (take-append-drop n ts))))

-- how many

is_due_told : (told done : Bool) → told ≡ done → (done && not told) ≡ false
is_due_told true true is = refl
is_due_told false false is = refl
is_due_told true false is = refl
is_due_told false true is = absurd cc

due-cons : (t : Task) (ts : List Task) → count_by is_due (t ∷ ts) ≡ cond (is_due t) 1 0 + count_by is_due ts
due-cons t ts = sum_by-cons (λ (x : Task). cond (is_due x) 1 0) t ts

count_none : (ts : List Task) → AreSettled ts → count_by is_due ts ≡ 0
count_none [] h = refl
count_none (t ∷ ts) h = omega (arith, due-cons t ts, ap (λ (b : Bool). cond {A = ℕ} b 1 0) (is_due_told t.told (is_done t.fate) (h 0 t refl)), count_none ts (settled_behind t ts h))

pub count_first : (low high : ℕ) (ts : List Task) → AreSettledBut low high ts → 0 ≡ count_by is_due (take low ts)
count_first low high ts h = sym (count_none (take low ts) (settled_first low high ts h))

count-append : (ts us : List Task) → count_by is_due (ts ++ us) ≡ count_by is_due ts + count_by is_due us
count-append [] us = omega arith
count-append (t ∷ ts) us = omega (arith, due-cons t ts, due-cons t (ts ++ us), count-append ts us)

pub count_last : (low high n count : ℕ) (ts : List Task) → AreSettledBut low high ts → min high (length ts) ≤ n → count ≡ count_by is_due (take n ts) → count ≡ count_by is_due ts
count_last low high n count ts h past is =
    omega (arith, is, count-append (take n ts) (drop n ts), count_none (drop n ts) (settled_last low high n ts h past), ap (λ (z : List Task). count_by is_due z) (take-append-drop n ts))

-- all are handed out

same_told : (t : Task) (b : Bool) → t.told ≡ b → record t { told = b } ≡ t
same_told t b is = ap (λ (c : Bool). let made : Task = record t { told = c } in made) (sym is)

told_same : (ts : List Task) → AreSettled ts → map told_task ts ≡ ts
told_same [] h = refl
told_same (t ∷ ts) h =
    ap (λ (z : Task). z ∷ map told_task ts) (same_told t (is_done t.fate) (h 0 t refl)) ∙ ap (λ (z : List Task). t ∷ z) (told_same ts (settled_behind t ts h))

pub told_first : (low high : ℕ) (ts : List Task) → AreSettledBut low high ts → ts ≡ map told_task (take low ts) ++ drop low ts
told_first low high ts h =
    sym (take-append-drop low ts) ∙ ap (λ (z : List Task). z ++ drop low ts) (sym (told_same (take low ts) (settled_first low high ts h)))

told-append : (ts us : List Task) → map told_task (ts ++ us) ≡ map told_task ts ++ map told_task us
told-append [] us = refl
told-append (t ∷ ts) us = ap (λ (z : List Task). told_task t ∷ z) (told-append ts us)

pub told_last : (low high n : ℕ) (ts us : List Task) → AreSettledBut low high ts → min high (length ts) ≤ n → us ≡ map told_task (take n ts) ++ drop n ts → us ≡ map told_task ts
told_last low high n ts us h past is =
    is ∙ (ap (λ (z : List Task). map told_task (take n ts) ++ z) (sym (told_same (drop n ts) (settled_last low high n ts h past)))
    ∙ (sym (told-append (take n ts) (drop n ts)) ∙ ap (map told_task) (take-append-drop n ts)))
