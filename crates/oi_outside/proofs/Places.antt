-- Where an element stands that a search finds.
use Rattle.std.proofs.Common.{ℕ, suc, Bool, true, false, cond, not, ◌+◌, ◌<◌, ◌≤◌, ◌≡◌, ◌∙◌, List, [], ◌∷◌, length, Option, Some, None, inl, inr, refl, sym, ap, subst, arith}
use Rattle.std.specs.Prelude.{nat_lt}
use Rattle.std.specs.List.{find, position, position_or_len, remove, slice_get}
use Rattle.std.proofs.lemmas.List.Folds.{find_at}
use Rattle.std.proofs.lemmas.Option.{slice_get_cases}
use Rattle.std.proofs.lemmas.Bool.{ltb-true, lt-ltb}
use Rattle.oi_outside.specs.Nets.{without_first}

module _ {X : Type 0} (p : X → Bool) where
  is_first : (n i : ℕ) (b : Bool) → cond b (Some n) None ≡ Some i → n ≡ i
  is_first n i true e = cc
  is_first n i false e = cc

  -- nothing passes where no place is found
  pub find-no_place : (xs : List X) → position p xs ≡ None → find p xs ≡ None
  find-no_place xs e =
      elim (slice_get_cases xs (position_or_len p xs)).1 [
        | inl h ↦ (let held : nat_lt (position_or_len p xs) (length xs) ≡ true = lt-ltb (position_or_len p xs) (length xs) h.1 in
            let bad : ◌≡◌ {A = Option ℕ} (Some (position_or_len p xs)) None = sym (ap (λ b. cond b (Some (position_or_len p xs)) None) held) ∙ e in cc)
        | inr h ↦ find_at p xs ∙ h.1
      ]

  onward : (xs : List X) (x : X) (n : ℕ) → remove xs n ≡ without_first p xs → remove (x ∷ xs) (1 + n) ≡ x ∷ without_first p xs
  onward xs x n e = let next : 1 + n ≡ suc n = omega arith in ap (remove (x ∷ xs)) next ∙ ap (λ ys. x ∷ ys) e

  pub remove-first : (xs : List X) → position_or_len p xs < length xs → remove xs (position_or_len p xs) ≡ without_first p xs
  remove-first [] h = absurd (omega arith)
  remove-first (x ∷ xs) h = by (p x) h (λ k. remove-first xs k)
    where
      by : (b : Bool) → cond (not b) (1 + position_or_len p xs) 0 < length (x ∷ xs) → (position_or_len p xs < length xs → remove xs (position_or_len p xs) ≡ without_first p xs) → remove (x ∷ xs) (cond (not b) (1 + position_or_len p xs) 0) ≡ cond b xs (x ∷ without_first p xs)
      by true k rest = refl
      by false k rest = onward xs x (position_or_len p xs) (rest (omega arith))

  -- what stands where a place is found
  pub record StandsAt (xs : List X) (i : ℕ) : Type 0 where
    pub element : X
    pub found : find p xs ≡ Some element
    pub inside : i < length xs
    pub get : slice_get xs i ≡ Some element
    pub rest : remove xs i ≡ without_first p xs

  pub stands : (xs : List X) (i : ℕ) → position p xs ≡ Some i → StandsAt xs i
  stands xs i e =
      let n : ℕ = position_or_len p xs in
      let here : n ≡ i = is_first n i (nat_lt n (length xs)) e in
      elim (slice_get_cases xs n).1 [
        | inl h ↦ subst (StandsAt xs) here (record { element = h.0; found = find_at p xs ∙ h.2; inside = h.1; get = h.2; rest = remove-first xs h.1 })
        | inr h ↦ absurd (past n (nat_lt n (length xs)) refl h.0 e)
      ]
    where
      past : (n : ℕ) (b : Bool) → nat_lt n (length xs) ≡ b → length xs ≤ n → cond b (Some n) None ≡ Some i → ⊥
      past n true t h k = let lt : n < length xs = ltb-true n (length xs) t in omega arith
      past n false t h k = cc
