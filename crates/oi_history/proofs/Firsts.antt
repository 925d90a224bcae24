-- The first of some submissions that passes, and how many do, from what is known place by place.
use Rattle.std.proofs.Common.{◌≡◌, ◌≢◌, ◌∙◌, ◌≤◌, ◌<◌, ◌+◌, ◌==◌, ◌||◌, min, ◌⊎◌, inl, inr, ℕ, suc, zero, Bool, true, false, cond, List, [], ◌∷◌, ◌++◌, length, Option, Some, None, ap, subst, sym, refl, arith, get_or, slice_get, count_by, nat_lt, map, position}
use Rattle.std.proofs.lemmas.Bool.{false≢true}
use Rattle.std.proofs.lemmas.Bool.Decides.{eqb_tells, nat_tests}
use Rattle.std.proofs.lemmas.List.Quantifiers.{position-Some}
use Rattle.std.proofs.lemmas.List.Sums.{fails_before_first, position_or_len_is, sum_by-cons}
use Rattle.std.proofs.lemmas.Option.{get_or_from_slice_get, same_Some, slice_get-get_or, slice_get_cases, slice_get_within}
use Rattle.std.specs.List.{position_or_len}
use Rattle.oi_history.specs.Indices.{IsFirstBut, IsUpTo, earlier, first_with}
use Rattle.oi_history.specs.Tasks.{changed}
use Rattle.oi_history.specs.declared.task.Task.{Task}

abbrev pub NoneBelow : (Task → Bool) → ℕ → List Task → Type 0
NoneBelow p n ts = (k : ℕ) (t : Task) → k < n → slice_get ts k ≡ Some t → p t ≡ false

pub lt_true : (a b : ℕ) → a < b → nat_lt a b ≡ true
lt_true a b h = grind (arith, nat_tests)

pub lt_false : (a b : ℕ) → b ≤ a → nat_lt a b ≡ false
lt_false a b h = grind (arith, nat_tests)

pub lt_from : (a b : ℕ) → nat_lt a b ≡ true → a < b
lt_from a b h = grind (arith, nat_tests)

pub le_from : (a b : ℕ) → nat_lt a b ≡ false → b ≤ a
le_from a b h = grind (arith, nat_tests)

position_at : (p : Task → Bool) (ts : List Task) (n : ℕ) → position_or_len p ts ≡ n → position p ts ≡ cond (nat_lt n (length ts)) (Some n) None
position_at p ts n is = ap (λ (m : ℕ). cond (nat_lt m (length ts)) (Some m) None) is

pub first_at : (p : Task → Bool) (ts : List Task) (i : ℕ) (x : Task) → slice_get ts i ≡ Some x → p x ≡ true → NoneBelow p i ts → position p ts ≡ Some i
first_at p ts i x at passes below =
    let there : i < length ts = slice_get_within ts i x at in
    let n : position_or_len p ts ≡ i = position_or_len_is p ts i x (omega arith) (λ k lt. below k (get_or ts k x) lt (slice_get-get_or ts k x (omega arith))) (λ lt. ap p (get_or_from_slice_get ts i x x at) ∙ passes) in
    position_at p ts i n ∙ ap (λ (b : Bool). cond b (Some i) None) (lt_true i (length ts) there)

pub first_none : (p : Task → Bool) (ts : List Task) → ((k : ℕ) (t : Task) → slice_get ts k ≡ Some t → p t ≡ false) → position p ts ≡ None
first_none p [] none = refl
first_none p (t ∷ ts) none =
    let us : List Task = t ∷ ts in
    let n : position_or_len p us ≡ length us = position_or_len_is p us (length us) t (omega arith) (λ k lt. none k (get_or us k t) (slice_get-get_or us k t lt)) (λ lt. absurd (omega arith)) in
    position_at p us (length us) n ∙ ap (λ (b : Bool). cond b (Some (length us)) None) (lt_false (length us) (length us) (omega arith))

pub first_below : (p : Task → Bool) (ts : List Task) (i : ℕ) → position p ts ≡ Some i → NoneBelow p i ts
first_below p ts i is k t lt at = sym (ap p (get_or_from_slice_get ts k t t at)) ∙ (position-Some p ts i t is).2 k lt

pub first_inside : (p : Task → Bool) (ts : List Task) (k : ℕ) → position p ts ≡ Some k → k < length ts
first_inside p [] k is = absurd cc
first_inside p (t ∷ ts) k is = (position-Some p (t ∷ ts) k t is).0

past_all : (b : Bool) (n : ℕ) → cond b (Some n) None ≡ None → b ≡ false
past_all true n is = absurd cc
past_all false n is = refl

pub none_first : (p : Task → Bool) (ts : List Task) → position p ts ≡ None → (k : ℕ) (t : Task) → slice_get ts k ≡ Some t → p t ≡ false
none_first p ts is k t at =
    let past : length ts ≤ position_or_len p ts = le_from (position_or_len p ts) (length ts) (past_all (nat_lt (position_or_len p ts) (length ts)) (position_or_len p ts) is) in
    let there : k < length ts = slice_get_within ts k t at in
    sym (ap p (get_or_from_slice_get ts k t t at)) ∙ fails_before_first p ts k t (omega arith)

pub none_more : (p : Task → Bool) (ts : List Task) (n : ℕ) (x : Task) → slice_get ts n ≡ Some x → p x ≡ false → NoneBelow p n ts → NoneBelow p (n + 1) ts
none_more p ts n x at off below k t lt found = either (eqb_tells k n)
  where
    either : ((k == n) ≡ true) × (k ≡ n) ⊎ ((k == n) ≡ false) × (k ≢ n) → p t ≡ false
    either (inl here) =
        let same : x ≡ t = same_Some x t (sym at ∙ (ap (slice_get ts) (sym here.1) ∙ found)) in
        sym (ap p same) ∙ off
    either (inr other) = below k t (omega (arith, other.1)) found

-- one place changed

pub get_moved : (id : ℕ) (f : Task → Task) (ts : List Task) (k : ℕ) → k ≢ id → slice_get (changed id f ts) k ≡ slice_get ts k
get_moved id f [] k other = refl
get_moved zero f (t ∷ ts) zero other = absurd (other refl)
get_moved zero f (t ∷ ts) (suc k) other = refl
get_moved (suc id) f (t ∷ ts) zero other = refl
get_moved (suc id) f (t ∷ ts) (suc k) other = get_moved id f ts k (λ is. other (ap suc is))

pub moved_from : (id : ℕ) (f : Task → Task) (ts : List Task) (x : Task) → slice_get (changed id f ts) id ≡ Some x → (y : Task) × (slice_get ts id ≡ Some y) × (x ≡ f y)
moved_from id f [] x at = absurd cc
moved_from zero f (t ∷ ts) x at = (t, refl, sym (same_Some (f t) x at))
moved_from (suc id) f (t ∷ ts) x at = moved_from id f ts x at

pub get_at_moved : (id : ℕ) (f : Task → Task) (ts : List Task) (y : Task) → slice_get ts id ≡ Some y → slice_get (changed id f ts) id ≡ Some (f y)
get_at_moved id f [] y at = absurd cc
get_at_moved zero f (t ∷ ts) y at = ap (λ (z : Task). Some (f z)) (same_Some t y at)
get_at_moved (suc id) f (t ∷ ts) y at = get_at_moved id f ts y at

count-cons : (p : Task → Bool) (t : Task) (ts : List Task) → count_by p (t ∷ ts) ≡ cond (p t) 1 0 + count_by p ts
count-cons p t ts = sum_by-cons (λ (x : Task). cond (p x) 1 0) t ts

count_first : (p : Task → Bool) (t u : Task) (ts : List Task) → count_by p (u ∷ ts) + cond (p t) 1 0 ≡ count_by p (t ∷ ts) + cond (p u) 1 0
count_first p t u ts = omega (arith, count-cons p t ts, count-cons p u ts)

count_later : (p : Task → Bool) (t : Task) (ts us : List Task) (m n : ℕ) → count_by p us + m ≡ count_by p ts + n → count_by p (t ∷ us) + m ≡ count_by p (t ∷ ts) + n
count_later p t ts us m n h = omega (arith, count-cons p t ts, count-cons p t us, h)

pub count_moved : (p : Task → Bool) (id : ℕ) (f : Task → Task) (ts : List Task) (y : Task) → slice_get ts id ≡ Some y → count_by p (changed id f ts) + cond (p y) 1 0 ≡ count_by p ts + cond (p (f y)) 1 0
count_moved p id f [] y at = absurd cc
count_moved p zero f (t ∷ ts) y at =
    let same : t ≡ y = same_Some t y at in
    rw (← same) (count_first p t (f t) ts)
count_moved p (suc id) f (t ∷ ts) y at = count_later p t ts (changed id f ts) (cond (p y) 1 0) (cond (p (f y)) 1 0) (count_moved p id f ts y at)

count_more : (p : Task → Bool) (t : Task) (ts : List Task) (m : ℕ) → m ≤ count_by p ts → m ≤ count_by p (t ∷ ts)
count_more p t ts m h = omega (arith, count-cons p t ts, h)

count_head : (p : Task → Bool) (t : Task) (ts : List Task) → cond (p t) 1 0 ≤ count_by p (t ∷ ts)
count_head p t ts = omega (arith, count-cons p t ts)

pub count_at : (p : Task → Bool) (id : ℕ) (ts : List Task) (y : Task) → slice_get ts id ≡ Some y → cond (p y) 1 0 ≤ count_by p ts
count_at p id [] y at = absurd cc
count_at p zero (t ∷ ts) y at =
    let same : t ≡ y = same_Some t y at in
    rw (← same) (count_head p t ts)
count_at p (suc id) (t ∷ ts) y at = count_more p t ts (cond (p y) 1 0) (count_at p id ts y at)

-- the first after one moved on

off_unless : (b : Bool) → (b ≡ true → ⊥) → b ≡ false
off_unless true h = absurd (h refl)
off_unless false h = refl

off_at : (p : Task → Bool) (ts : List Task) (id k : ℕ) (x t : Task) → slice_get ts id ≡ Some x → p x ≡ false → k ≡ id → slice_get ts k ≡ Some t → p t ≡ false
off_at p ts id k x t at off is found =
    let same : x ≡ t = same_Some x t (sym at ∙ (ap (slice_get ts) (sym is) ∙ found)) in
    sym (ap p same) ∙ off

-- none below a place passes but perhaps the one that moved on
none_under : (p : Task → Bool) (id n : ℕ) (first : Option ℕ) (ts : List Task) → IsFirstBut p id first ts → ((k : ℕ) → k < n → IsUpTo first k → ⊥) → ((k : ℕ) (t : Task) → k < n → k ≡ id → slice_get ts k ≡ Some t → p t ≡ false)
    → NoneBelow p n ts
none_under p id n first ts h far here k t lt at = either k t lt at (eqb_tells k id)
  where
    either : (k : ℕ) (t : Task) → k < n → slice_get ts k ≡ Some t → ((k == id) ≡ true) × (k ≡ id) ⊎ ((k == id) ≡ false) × (k ≢ id) → p t ≡ false
    either k t lt at (inl is) = here k t lt is.1 at
    either k t lt at (inr other) = off_unless (p t) (λ on. far k lt (h.least k t at other.1 on))

not_up : (first : Option ℕ) (i k : ℕ) → first ≡ Some i → k < i → IsUpTo first k → ⊥
not_up first i k is lt up =
    let upto : i ≤ k = subst (λ (o : Option ℕ). IsUpTo o k) is up in
    absurd (omega arith)

none_up : (first : Option ℕ) (k : ℕ) → first ≡ None → IsUpTo first k → ⊥
none_up first k is up = subst (λ (o : Option ℕ). IsUpTo o k) is up

pub first_stays : (p : Task → Bool) (id i : ℕ) (first : Option ℕ) (ts : List Task) → IsFirstBut p id first ts → first ≡ Some i → i < id → position p ts ≡ Some i
first_stays p id i first ts h is lt =
    let found = h.found i is (λ same. omega arith) in
    first_at p ts i found.0 found.1 found.2 (none_under p id i first ts h (λ k under. not_up first i k is under) (λ k t under same at. absurd (omega arith)))

pub first_later : (p : Task → Bool) (id i : ℕ) (first : Option ℕ) (ts : List Task) (x : Task) → IsFirstBut p id first ts → first ≡ Some i → slice_get ts id ≡ Some x → p x ≡ false → i ≢ id → position p ts ≡ Some i
first_later p id i first ts x h is at off other =
    let found = h.found i is other in
    first_at p ts i found.0 found.1 found.2 (none_under p id i first ts h (λ k under. not_up first i k is under) (λ k t under same found. off_at p ts id k x t at off same found))

pub first_here : (p : Task → Bool) (id : ℕ) (first : Option ℕ) (ts : List Task) (x : Task) → IsFirstBut p id first ts → ((k : ℕ) → k < id → IsUpTo first k → ⊥) → slice_get ts id ≡ Some x → p x ≡ true → position p ts ≡ Some id
first_here p id first ts x h far at on = first_at p ts id x at on (none_under p id id first ts h far (λ k t under same found. absurd (omega arith)))

pub first_new : (p : Task → Bool) (id : ℕ) (first : Option ℕ) (ts : List Task) (x : Task) → IsFirstBut p id first ts → first ≡ None → slice_get ts id ≡ Some x → p x ≡ true → position p ts ≡ Some id
first_new p id first ts x h is at on = first_here p id first ts x h (λ k under. none_up first k is) at on

pub first_sooner : (p : Task → Bool) (id i : ℕ) (first : Option ℕ) (ts : List Task) (x : Task) → IsFirstBut p id first ts → first ≡ Some i → id ≤ i → slice_get ts id ≡ Some x → p x ≡ true → position p ts ≡ Some id
first_sooner p id i first ts x h is le at on = first_here p id first ts x h (λ k under. not_up first i k is (omega arith)) at on

pub first_gone : (p : Task → Bool) (id : ℕ) (first : Option ℕ) (ts : List Task) (x : Task) → IsFirstBut p id first ts → first ≡ Some id → slice_get ts id ≡ Some x → p x ≡ false → NoneBelow p (id + 1) ts
first_gone p id first ts x h is at off k t lt found = either k t lt found (eqb_tells k id)
  where
    either : (k : ℕ) (t : Task) → k < id + 1 → slice_get ts k ≡ Some t → ((k == id) ≡ true) × (k ≡ id) ⊎ ((k == id) ≡ false) × (k ≢ id) → p t ≡ false
    either k t lt found (inl here) = off_at p ts id k x t at off here.1 found
    either k t lt found (inr other) = off_unless (p t) (λ on. not_up first id k is (omega arith) (h.least k t found other.1 on))

pub first_nowhere : (p : Task → Bool) (id : ℕ) (first : Option ℕ) (ts : List Task) (x : Task) → IsFirstBut p id first ts → first ≡ None → slice_get ts id ≡ Some x → p x ≡ false → position p ts ≡ None
first_nowhere p id first ts x h is at off =
    first_none p ts (λ k t found. none_under p id (length ts) first ts h (λ k under. none_up first k is) (λ k t under same found. off_at p ts id k x t at off same found) k t (slice_get_within ts k t found) found)

least_of : (p : Task → Bool) (ts : List Task) (o : Option ℕ) (k : ℕ) (t : Task) → position p ts ≡ o → slice_get ts k ≡ Some t → p t ≡ true → IsUpTo o k
least_of p ts None k t is at on = absurd (false≢true (sym (none_first p ts is k t at) ∙ on))
least_of p ts (Some i) k t is at on = not_below (nat_lt k i) refl
  where
    not_below : (b : Bool) → nat_lt k i ≡ b → i ≤ k
    not_below true lt = absurd (false≢true (sym (first_below p ts i is k t (lt_from k i lt) at) ∙ on))
    not_below false lt = le_from k i lt

-- the first before it is the first but for it
pub first_but : (p : Task → Bool) (id : ℕ) (f : Task → Task) (ts us : List Task) (first : Option ℕ) → us ≡ changed id f ts → first ≡ position p ts → IsFirstBut p id first us
first_but p id f ts us first moved is = record {
  found = λ k here other.
      let was : position p ts ≡ Some k = sym is ∙ here in
      found_at k was other (slice_get_cases ts k).1;
  least = λ k t at other on.
      let was : slice_get ts k ≡ Some t = sym (get_moved id f ts k other) ∙ (ap (λ (z : List Task). slice_get z k) (sym moved) ∙ at) in
      least_of p ts first k t (sym is) was on;
}
  where
    found_at : (k : ℕ) → position p ts ≡ Some k → k ≢ id → ((x : Task) × (k < length ts) × (slice_get ts k ≡ Some x) × (get_or ts k x ≡ x)) ⊎ ((length ts ≤ k) × (slice_get ts k ≡ None))
        → (t : Task) × (slice_get us k ≡ Some t) × (p t ≡ true)
    found_at k was other (inl there) =
        (there.0, ap (λ (z : List Task). slice_get z k) moved ∙ (get_moved id f ts k other ∙ there.2), sym (ap p there.3) ∙ (position-Some p ts k there.0 was).1)
    found_at k was other (inr past) = absurd (omega (arith, first_inside p ts k was))

-- where one that does not pass moves on and does not pass
pub same_first : (p : Task → Bool) (id : ℕ) (f : Task → Task) (ts : List Task) (y : Task) (o : Option ℕ) → slice_get ts id ≡ Some y → p y ≡ false → p (f y) ≡ false → position p ts ≡ o → position p (changed id f ts) ≡ o
same_first p id f ts y None at was is first = first_nowhere p id None (changed id f ts) (f y) (first_but p id f ts (changed id f ts) None refl (sym first)) refl (get_at_moved id f ts y at) is
same_first p id f ts y (Some i) at was is first =
    first_later p id i (Some i) (changed id f ts) (f y) (first_but p id f ts (changed id f ts) (Some i) refl (sym first)) refl (get_at_moved id f ts y at) is
    (λ same. false≢true (sym was ∙ (sym (ap p (get_or_from_slice_get ts i y y (ap (slice_get ts) same ∙ at))) ∙ (position-Some p ts i y first).1)))

-- one submission more

get_front : (ts : List Task) (t : Task) (k : ℕ) (x : Task) → slice_get ts k ≡ Some x → slice_get (ts ++ t ∷ []) k ≡ Some x
get_front [] t k x at = absurd cc
get_front (s ∷ ts) t zero x at = at
get_front (s ∷ ts) t (suc k) x at = get_front ts t k x at

get_back : (ts : List Task) (t : Task) → slice_get (ts ++ t ∷ []) (length ts) ≡ Some t
get_back [] t = refl
get_back (s ∷ ts) t = get_back ts t

pub get_of : (ts : List Task) (t : Task) (k : ℕ) (x : Task) → slice_get (ts ++ t ∷ []) k ≡ Some x → (slice_get ts k ≡ Some x) ⊎ ((k ≡ length ts) × (t ≡ x))
get_of [] t zero x at = inr (refl, same_Some t x at)
get_of [] t (suc k) x at = absurd cc
get_of (s ∷ ts) t zero x at = inl at
get_of (s ∷ ts) t (suc k) x at = further k (get_of ts t k x at)
  where
    further : (k : ℕ) → (slice_get ts k ≡ Some x) ⊎ ((k ≡ length ts) × (t ≡ x)) → (slice_get ts k ≡ Some x) ⊎ ((suc k ≡ suc (length ts)) × (t ≡ x))
    further k (inl front) = inl front
    further k (inr back) = inr (ap suc back.0, back.1)

front_get : (ts : List Task) (t : Task) (k : ℕ) (x : Task) → k < length ts → slice_get (ts ++ t ∷ []) k ≡ Some x → slice_get ts k ≡ Some x
front_get [] t k x under at = absurd (omega arith)
front_get (s ∷ ts) t zero x under at = at
front_get (s ∷ ts) t (suc k) x under at = front_get ts t k x (omega arith) at

pub count-append : (p : Task → Bool) (ts : List Task) (t : Task) → count_by p (ts ++ t ∷ []) ≡ count_by p ts + cond (p t) 1 0
count-append p [] t = omega (arith, count-cons p t [])
count-append p (s ∷ ts) t = omega (arith, count-cons p s ts, count-cons p s (ts ++ t ∷ []), count-append p ts t)

pub position-append : (p : Task → Bool) (ts : List Task) (t : Task) (o : Option ℕ) → position p ts ≡ o → position p (ts ++ t ∷ []) ≡ first_with o (p t) (length ts)
position-append p ts t (Some i) is =
    let there : i < length ts = (position-Some p ts i t is).0 in
    let passes : p (get_or ts i t) ≡ true = (position-Some p ts i t is).1 in
    let within : slice_get (ts ++ t ∷ []) i ≡ Some (get_or ts i t) = get_front ts t i (get_or ts i t) (slice_get-get_or ts i t there) in
    first_at p (ts ++ t ∷ []) i (get_or ts i t) within passes (λ k x under at. first_below p ts i is k x under (front_get ts t k x (omega arith) at))
position-append p ts t None is = behind (p t) refl
  where
    each : p t ≡ false → (k : ℕ) (x : Task) → (slice_get ts k ≡ Some x) ⊎ ((k ≡ length ts) × (t ≡ x)) → p x ≡ false
    each off k x (inl front) = none_first p ts is k x front
    each off k x (inr back) = ap p (sym back.1) ∙ off

    behind : (b : Bool) → p t ≡ b → position p (ts ++ t ∷ []) ≡ first_with None b (length ts)
    behind true on = first_at p (ts ++ t ∷ []) (length ts) t (get_back ts t) on (λ k x under at. none_first p ts is k x (front_get ts t k x under at))
    behind false off = first_none p (ts ++ t ∷ []) (λ k x at. each off k x (get_of ts t k x at))

pub first_without : (o : Option ℕ) (n : ℕ) → first_with o false n ≡ o
first_without (Some i) n = refl
first_without None n = refl

-- tests that agree, and one that is either of two

pub position_like : (p q : Task → Bool) (ts : List Task) (o : Option ℕ) → ((k : ℕ) (t : Task) → slice_get ts k ≡ Some t → p t ≡ q t) → position p ts ≡ o → position q ts ≡ o
position_like p q ts None same is = first_none q ts (λ k t at. sym (same k t at) ∙ none_first p ts is k t at)
position_like p q ts (Some i) same is = found ts same is
  where
    found : (ts : List Task) → ((k : ℕ) (t : Task) → slice_get ts k ≡ Some t → p t ≡ q t) → position p ts ≡ Some i → position q ts ≡ Some i
    found [] same is = absurd cc
    found (s ∷ ts) same is =
        let us : List Task = s ∷ ts in
        let at = slice_get-get_or us i s (position-Some p us i s is).0 in
        first_at q us i (get_or us i s) at (sym (same i (get_or us i s) at) ∙ (position-Some p us i s is).1) (λ k t under at. sym (same k t at) ∙ first_below p us i is k t under at)

or_right : (b : Bool) → (b || true) ≡ true
or_right true = refl
or_right false = refl

pub position-or : (p q r : Task → Bool) (ts : List Task) (o u : Option ℕ) → ((t : Task) → r t ≡ (p t || q t)) → position p ts ≡ o → position q ts ≡ u → position r ts ≡ earlier o u
position-or p q r ts None None either is iq =
    first_none r ts (λ k t at. either t ∙ (ap (λ (b : Bool). b || q t) (none_first p ts is k t at) ∙ none_first q ts iq k t at))
position-or p q r ts None (Some k) either is iq =
    position_like q r ts (Some k) (λ j t at. sym (either t ∙ ap (λ (b : Bool). b || q t) (none_first p ts is j t at))) iq
position-or p q r ts (Some i) None either is iq =
    position_like p r ts (Some i) (λ j t at. sym (either t ∙ (ap (λ (b : Bool). p t || b) (none_first q ts iq j t at) ∙ or_none (p t)))) is
  where
    or_none : (b : Bool) → (b || false) ≡ b
    or_none true = refl
    or_none false = refl
position-or p q r [] (Some i) (Some k) either is iq = absurd cc
position-or p q r (s ∷ ts) (Some i) (Some k) either is iq = lesser (nat_lt i k) refl
  where
    us : List Task
    us = s ∷ ts

    neither : (n : ℕ) → n ≤ i → n ≤ k → NoneBelow r n us
    neither n below_i below_k j t under at = either t ∙ (ap (λ (b : Bool). b || q t) (first_below p us i is j t (omega arith) at) ∙ first_below q us k iq j t (omega arith) at)

    lesser : (b : Bool) → nat_lt i k ≡ b → position r us ≡ Some (min i k)
    lesser true lt =
        let least : min i k ≡ i = omega (arith, lt_from i k lt) in
        first_at r us i (get_or us i s) (slice_get-get_or us i s (position-Some p us i s is).0) (either (get_or us i s) ∙ ap (λ (b : Bool). b || q (get_or us i s)) (position-Some p us i s is).1) (neither i (omega arith) (omega (arith, lt_from i k lt)))
        ∙ ap (λ (n : ℕ). Some n) (sym least)
    lesser false ge =
        let least : min i k ≡ k = omega (arith, le_from i k ge) in
        first_at r us k (get_or us k s) (slice_get-get_or us k s (position-Some q us k s iq).0) (either (get_or us k s) ∙ (ap (λ (b : Bool). p (get_or us k s) || b) (position-Some q us k s iq).1 ∙ or_right (p (get_or us k s))))
        (neither k (omega (arith, le_from i k ge)) (omega arith)) ∙ ap (λ (n : ℕ). Some n) (sym least)

pub length-moved : (id : ℕ) (f : Task → Task) (ts : List Task) → length (changed id f ts) ≡ length ts
length-moved id f [] = refl
length-moved zero f (t ∷ ts) = refl
length-moved (suc id) f (t ∷ ts) = ap suc (length-moved id f ts)

-- all changed

pub get_of_map : (f : Task → Task) (ts : List Task) (k : ℕ) (x : Task) → slice_get (map f ts) k ≡ Some x → (y : Task) × (slice_get ts k ≡ Some y) × (x ≡ f y)
get_of_map f [] k x at = absurd cc
get_of_map f (t ∷ ts) zero x at = (t, refl, sym (same_Some (f t) x at))
get_of_map f (t ∷ ts) (suc k) x at = get_of_map f ts k x at

get_map : (f : Task → Task) (ts : List Task) (k : ℕ) (y : Task) → slice_get ts k ≡ Some y → slice_get (map f ts) k ≡ Some (f y)
get_map f [] k y at = absurd cc
get_map f (t ∷ ts) zero y at = ap (λ (z : Task). Some (f z)) (same_Some t y at)
get_map f (t ∷ ts) (suc k) y at = get_map f ts k y at

pub count-map : (p : Task → Bool) (f : Task → Task) (ts : List Task) → ((t : Task) → p (f t) ≡ p t) → count_by p (map f ts) ≡ count_by p ts
count-map p f [] same = refl
count-map p f (t ∷ ts) same = omega (arith, count-cons p t ts, count-cons p (f t) (map f ts), count-map p f ts same, ap (λ (b : Bool). cond {A = ℕ} b 1 0) (same t))

pub position-map : (p : Task → Bool) (f : Task → Task) (ts : List Task) (o : Option ℕ) → ((t : Task) → p (f t) ≡ p t) → position p ts ≡ o → position p (map f ts) ≡ o
position-map p f ts None same is =
    first_none p (map f ts) (λ k x at.
    let from = get_of_map f ts k x at in
    ap p from.2 ∙ (same from.0 ∙ none_first p ts is k from.0 from.1))
position-map p f [] (Some i) same is = absurd cc
position-map p f (s ∷ ts) (Some i) same is =
    let us : List Task = s ∷ ts in
    let y = get_or us i s in
    first_at p (map f us) i (f y) (get_map f us i y (slice_get-get_or us i s (position-Some p us i s is).0)) (same y ∙ (position-Some p us i s is).1)
    (λ k x under at.
    let from = get_of_map f us k x at in
    ap p from.2 ∙ (same from.0 ∙ first_below p us i is k from.0 under from.1))
