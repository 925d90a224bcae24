-- Connections of different numbers.
use Rattle.std.proofs.Common.{ℕ, Bool, true, false, ◌≡◌, ◌∙◌, Option, Some, None, List, [], ◌∷◌, ◌++◌, refl, ap, sym, subst, if◌then◌else◌, ◌==◌}
use Rattle.std.proofs.lemmas.Bool.{eq-eqb, eqb-true}
use Rattle.oi_target.proofs.Linked.{AreKept}
use Rattle.oi_target.proofs.Placed.{link_placed, others_placed, over}
use Rattle.oi_target.specs.Targets.{link_of, placed, without}
use Rattle.oi_target.specs.declared.link.Link.{Link}

-- no two connections have one number
abbrev pub AreUnique : List Link → Type 0
AreUnique [] = Unit {0}
AreUnique (l ∷ ls) = (link_of l.number ls ≡ None) × AreUnique ls

pub true_not : {C : Type 0} → true ≡ false → C
true_not e = absurd (let n : ⊥ = cc in n)

pub found_not : {C : Type 0} (l : Link) → Some l ≡ None → C
found_not l e = absurd (let n : ⊥ = cc in n)

-- a number that none has is not the first one's, and the rest has it not
pub none_first : (n : ℕ) (l : Link) (ls : List Link) → link_of n (l ∷ ls) ≡ None → ((l.number == n) ≡ false) × (link_of n ls ≡ None)
none_first n l ls h = go (l.number == n) refl h where
  go : (b : Bool) → (l.number == n) ≡ b → (if b then Some l else link_of n ls) ≡ None → ((l.number == n) ≡ false) × (link_of n ls ≡ None)
  go true is e = found_not l e
  go false is e = (is, e)

-- none has the number of a connection that was taken out
pub taken_out : (n : ℕ) (ls : List Link) → AreUnique ls → link_of n (without n ls) ≡ None
taken_out n [] u = refl
taken_out n (l ∷ ls) u = go (l.number == n) refl (taken_out n ls u.1) where
  go : (b : Bool) → (l.number == n) ≡ b → link_of n (without n ls) ≡ None → link_of n (if b then ls else l ∷ without n ls) ≡ None
  go true is was = subst (λ (m : ℕ). link_of m ls ≡ None) (eqb-true l.number n is) u.0
  go false is was = ap (λ (b : Bool). if b then Some l else link_of n (without n ls)) is ∙ was

-- the others are found as before
pub others_found : (n m : ℕ) (ls : List Link) → (m == n) ≡ false → link_of n (without m ls) ≡ link_of n ls
others_found n m [] d = refl
others_found n m (l ∷ ls) d = go (l.number == m) refl (others_found n m ls d) where
  go : (b : Bool) → (l.number == m) ≡ b → link_of n (without m ls) ≡ link_of n ls → link_of n (if b then ls else l ∷ without m ls) ≡ link_of n (l ∷ ls)
  go true is was = sym (ap (λ (b : Bool). if b then Some l else link_of n ls) (ap (λ (k : ℕ). k == n) (eqb-true l.number m is) ∙ d))
  go false is was = ap (λ (o : Option Link). if l.number == n then Some l else o) was

pub none_without : (n m : ℕ) (ls : List Link) → link_of n ls ≡ None → link_of n (without m ls) ≡ None
none_without n m [] h = refl
none_without n m (l ∷ ls) h = go (l.number == m) (none_first n l ls h) (λ e. none_without n m ls e) where
  go : (b : Bool) → ((l.number == n) ≡ false) × (link_of n ls ≡ None) → (link_of n ls ≡ None → link_of n (without m ls) ≡ None)
      → link_of n (if b then ls else l ∷ without m ls) ≡ None
  go true first more = first.1
  go false first more = ap (λ (b : Bool). if b then Some l else link_of n (without m ls)) first.0 ∙ more first.1

pub unique_without : (m : ℕ) (ls : List Link) → AreUnique ls → AreUnique (without m ls)
unique_without m [] u = tt
unique_without m (l ∷ ls) u = go (l.number == m) (unique_without m ls u.1) where
  go : (b : Bool) → AreUnique (without m ls) → AreUnique (if b then ls else l ∷ without m ls)
  go true was = u.1
  go false was = (none_without l.number m ls u.0, was)

-- behind the others
pub found_behind : (n : ℕ) (ls : List Link) (k : Link) → link_of n ls ≡ None → link_of n (ls ++ k ∷ []) ≡ (if k.number == n then Some k else None)
found_behind n [] k h = refl
found_behind n (l ∷ ls) k h =
    let first = none_first n l ls h in
    ap (λ (b : Bool). if b then Some l else link_of n (ls ++ k ∷ [])) first.0 ∙ found_behind n ls k first.1

pub found_before : (n : ℕ) (ls : List Link) (k : Link) → (k.number == n) ≡ false → link_of n (ls ++ k ∷ []) ≡ link_of n ls
found_before n [] k d = ap (λ (b : Bool). if b then Some k else None) d
found_before n (l ∷ ls) k d = ap (λ (o : Option Link). if l.number == n then Some l else o) (found_before n ls k d)

swapped : (a b : ℕ) → (a == b) ≡ false → (b == a) ≡ false
swapped a b d = go (b == a) refl where
  go : (c : Bool) → (b == a) ≡ c → (b == a) ≡ false
  go true is = true_not (sym (eq-eqb a b (sym (eqb-true b a is))) ∙ d)
  go false is = is

pub unique_behind : (ls : List Link) (k : Link) → AreUnique ls → link_of k.number ls ≡ None → AreUnique (ls ++ k ∷ [])
unique_behind [] k u h = (refl, tt)
unique_behind (l ∷ ls) k u h =
    let first = none_first k.number l ls h in
    (found_before l.number ls k (swapped l.number k.number first.0) ∙ u.0, unique_behind ls k u.1 first.1)

pub none_kept : (n : ℕ) (ls ks : List Link) → AreKept ls ks → link_of n ls ≡ None → link_of n ks ≡ None
none_kept n [] [] are h = refl
none_kept n [] (k ∷ ks) are h = absurd are
none_kept n (l ∷ ls) [] are h = absurd are
none_kept n (l ∷ ls) (k ∷ ks) are h =
    let first = none_first n l ls h in
    ap (λ (b : Bool). if b then Some k else link_of n ks) (ap (λ (z : ℕ). z == n) are.0.number ∙ first.0) ∙ none_kept n ls ks are.1 first.1

pub unique_kept : (ls ks : List Link) → AreKept ls ks → AreUnique ls → AreUnique ks
unique_kept [] [] are u = tt
unique_kept [] (k ∷ ks) are u = absurd are
unique_kept (l ∷ ls) [] are u = absurd are
unique_kept (l ∷ ls) (k ∷ ks) are u =
    (none_kept k.number ls ks are.1 (subst (λ (n : ℕ). link_of n ls ≡ None) (sym are.0.number) u.0), unique_kept ls ks are.1 u.1)

pub none_placed : (n : ℕ) (k : Link) (ls : List Link) → link_of n ls ≡ None → link_of n (placed k ls) ≡ None
none_placed n k ls h = go (k.number == n) refl where
  go : (b : Bool) → (k.number == n) ≡ b → link_of n (placed k ls) ≡ None
  go true is =
      let same = eqb-true k.number n is in
      subst (λ (z : ℕ). link_of z (placed k ls) ≡ None) same
      (link_placed k ls ∙ ap (over (λ l. k)) (subst (λ (z : ℕ). link_of z ls ≡ None) (sym same) h))
  go false is = others_placed n k ls is ∙ h

pub unique_placed : (k : Link) (ls : List Link) → AreUnique ls → AreUnique (placed k ls)
unique_placed k [] u = tt
unique_placed k (l ∷ ls) u = go (l.number == k.number) refl (unique_placed k ls u.1) where
  go : (b : Bool) → (l.number == k.number) ≡ b → AreUnique (placed k ls) → AreUnique (if b then k ∷ ls else l ∷ placed k ls)
  go true is was = (subst (λ (z : ℕ). link_of z ls ≡ None) (eqb-true l.number k.number is) u.0, u.1)
  go false is was = (none_placed l.number k ls u.0, was)
