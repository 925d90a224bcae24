-- What was handed out of the submissions, and what is due.
use Rattle.oi_session_laws.proofs.TagCounts.{other_test, same_test}
use Rattle.std.proofs.Common.{◌≡◌, ◌<◌, ◌+◌, ℕ, suc, zero, Bool, true, false, List, [], ◌∷◌, ◌++◌, sym, refl, arith, if◌then◌else◌}
use Rattle.oi_base.specs.Counts.{bit}
use Rattle.oi_history.specs.Tasks.{due_from, due_of, is_done}
use Rattle.oi_history.specs.declared.fate.Delivered.{Delivered}
use Rattle.oi_history.specs.declared.fate.Fate.{Fate}
use Rattle.oi_history.specs.declared.fate.Fate.TheVariants.{Waiting, Live, Done}
use Rattle.oi_history.specs.declared.task.Task.{Task}
use Rattle.oi_session_laws.specs.Answers.{times}

-- one that was handed out is done
pub record IsSound (t : Task) : Type 0 where
  pub done : t.told ≡ true → is_done t.fate ≡ true

abbrev pub AreSound : List Task → Type 0
AreSound [] = Unit {0}
AreSound (t ∷ ts) = IsSound t × AreSound ts

abbrev pub told_at : ℕ → List Task → ℕ
told_at id [] = 0
told_at zero (t ∷ ts) = bit t.told
told_at (suc id) (t ∷ ts) = told_at id ts

pub times-append : (id : ℕ) (xs ys : List Delivered) → times id (xs ++ ys) ≡ times id xs + times id ys
times-append id [] ys = omega arith
times-append id (x ∷ xs) ys = let more = times-append id xs ys in omega (arith, more)

-- none, and then some more
pub more_of_none : (n m : ℕ) → m ≡ n → 0 + n ≡ m
more_of_none n m same = omega (arith, same)

-- one submission that is due
one_due : (b : Bool) (k : ℕ) (d : Delivered) → (d.id ≡ k → ⊥) → times k (if b then [] else d ∷ []) ≡ 0
one_due true k d differs = refl
one_due false k d differs = rw (other_test d.id k differs) refl

other_due : (k base : ℕ) (t : Task) (f : Fate) → (base ≡ k → ⊥) → times k (due_of base t f) ≡ 0
other_due k base t (Waiting tries) differs = refl
other_due k base t (Live generation tag tries) differs = refl
other_due k base t (Done outcome at) differs = one_due t.told k (record { id = base; outcome = outcome }) differs

zero_bit : (b : Bool) → (b ≡ true → false ≡ true) → bit b ≡ 0
zero_bit true differs = let f : false ≡ true = differs refl in absurd cc
zero_bit false differs = refl

due_once : (b : Bool) (k : ℕ) (d : Delivered) → d.id ≡ k → times k (if b then [] else d ∷ []) + bit b ≡ 1
due_once true k d same = refl
due_once false k d same = rw (same, same_test k) refl

mine_due : (k base : ℕ) (t : Task) (f : Fate) → base ≡ k → (t.told ≡ true → is_done f ≡ true) → times k (due_of base t f) + bit t.told ≡ bit (is_done f)
mine_due k base t (Waiting tries) same sound = more_of_none _ _ (sym (zero_bit t.told sound))
mine_due k base t (Live generation tag tries) same sound = more_of_none _ _ (sym (zero_bit t.told sound))
mine_due k base t (Done outcome at) same sound = due_once t.told k (record { id = base; outcome = outcome }) same

below : (k base : ℕ) (ts : List Task) → k < base → times k (due_from base ts) ≡ 0
below k base [] less = refl
below k base (t ∷ ts) less =
    let split = times-append k (due_of base t t.fate) (due_from (base + 1) ts) in
    let mine = other_due k base t t.fate (λ same. omega (arith, less, same)) in
    let rest = below k (base + 1) ts (omega (arith, less)) in
    omega (arith, split, mine, rest)

-- done or not, as a count
abbrev pub done_at : ℕ → List Task → ℕ
done_at id [] = 0
done_at zero (t ∷ ts) = bit (is_done t.fate)
done_at (suc id) (t ∷ ts) = done_at id ts

pub due_all : (k id base : ℕ) (ts : List Task) → k ≡ base + id → AreSound ts → times k (due_from base ts) + told_at id ts ≡ done_at id ts
due_all k id base [] same p = refl
due_all k zero base (t ∷ ts) same p =
    let split = times-append k (due_of base t t.fate) (due_from (base + 1) ts) in
    let mine = mine_due k base t t.fate (omega (arith, same)) p.0.done in
    let rest = below k (base + 1) ts (omega (arith, same)) in
    omega (arith, split, mine, rest)
due_all k (suc id) base (t ∷ ts) same p =
    let split = times-append k (due_of base t t.fate) (due_from (base + 1) ts) in
    let mine = other_due k base t t.fate (λ e. omega (arith, same, e)) in
    let rest = due_all k id (base + 1) ts (omega (arith, same)) p.1 in
    omega (arith, split, mine, rest)
