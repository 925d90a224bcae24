-- What the calls of a store leave of the records that it tells.
use Rattle.std.proofs.Common.{ℕ, Bool, ◌≡◌, ◌∙◌, List, Option, Some, None, Result, Ok, Err, ◌⊎◌, inl, inr, refl, sym, subst, ap}
use Rattle.std.specs.Option.{unwrap_or}
use Rattle.oi_outside.specs.declared.store_error.StoreError.{StoreError}
use Rattle.oi_outside.specs.declared.store_error.StoreError.TheVariants.{Failed, Memory}
use Rattle.oi_outside.specs.Records.{Records, Ascends, lookup, paths, with_path, without_path}
use Rattle.oi_outside.specs.Stores.{Lists, Puts, Removes, IsToldAt, told_at, told_with, told_without}
use Rattle.std.specs.List.{All}
use Rattle.std.specs.Str.{IsUtf8}
use Rattle.oi_outside.proofs.Records.{Ascends-paths, with_path-here, with_path-other, without_path-here, without_path-other}

-- what was told before is told behind
pub put_told : (m : Records) (p t : List ℕ) (old new : Option Records) → old ≡ Some m → new ≡ told_with old p t → new ≡ Some (with_path m p t)
put_told m p t old new was e = e ∙ ap (λ o. told_with o p t) was

pub taken_told : (m : Records) (p : List ℕ) (old new : Option Records) → old ≡ Some m → new ≡ told_without old p → new ≡ Some (without_path m p)
taken_told m p old new was e = e ∙ ap (λ o. told_without o p) was

-- whatever a write answers, the records are told behind it: as before, or with the text
pub Puts-told : (r : Result (Unit {0}) StoreError) (m : Records) (p t : List ℕ) (old new : Option Records) → old ≡ Some m → Puts r p t old new → (new ≡ Some m) ⊎ (new ≡ Some (with_path m p t))
Puts-told (Ok x) m p t old new was h = inr (put_told m p t old new was h)
Puts-told (Err Failed) m p t old new was (inl h) = inl (h ∙ was)
Puts-told (Err Failed) m p t old new was (inr h) = inr (put_told m p t old new was h)
Puts-told (Err Memory) m p t old new was h = inl (h ∙ was)

-- whatever a removal answers, the records are told behind it: as before, or without the path
pub Removes-told : (r : Result Bool StoreError) (m : Records) (p : List ℕ) (old new : Option Records) → old ≡ Some m → Removes r p old new → (new ≡ Some m) ⊎ (new ≡ Some (without_path m p))
Removes-told (Ok x) m p old new was h = inr (taken_told m p old new was h.0)
Removes-told (Err Failed) m p old new was (inl h) = inl (h ∙ was)
Removes-told (Err Failed) m p old new was (inr h) = inr (taken_told m p old new was h)
Removes-told (Err Memory) m p old new was h = inl (h ∙ was)

same_Some : (m n : Records) → Some m ≡ Some n → m ≡ n
same_Some m n e = ap (λ o. unwrap_or o m) e

-- the paths of the records, which are texts, are what a list gives
pub Lists-paths : (m : Records) (found : List (List ℕ)) → found ≡ paths m → All IsUtf8 found → Lists (Ok found) (Some m) (Some m)
Lists-paths m found is texts = (
  refl,
  subst (λ (ps : List (List ℕ)). Ascends ps) (sym is) (Ascends-paths m),
  texts,
  λ n told. is ∙ ap (λ (o : Records). paths o) (same_Some m n told),
)

-- a change at p leaves what is told of q
with_other : (p t q : List ℕ) → (q ≡ p → ⊥) → (o : Option Records) → told_at (told_with o p t) q ≡ told_at o q
with_other p t q apart None = refl
with_other p t q apart (Some m) = ap (λ (x : Option (List ℕ)). Some x) (with_path-other m p t q apart)

without_other : (p q : List ℕ) → (q ≡ p → ⊥) → (o : Option Records) → told_at (told_without o p) q ≡ told_at o q
without_other p q apart None = refl
without_other p q apart (Some m) = ap (λ (x : Option (List ℕ)). Some x) (without_path-other m p q apart)

told_same : (q : List ℕ) (old new : Option Records) → new ≡ old → told_at new q ≡ told_at old q
told_same q old new e = ap (λ (o : Option Records). told_at o q) e

-- whatever a write or a removal answers, every other path is as before
pub Puts-others : (r : Result (Unit {0}) StoreError) (p t q : List ℕ) (old new : Option Records) → (q ≡ p → ⊥) → Puts r p t old new → told_at new q ≡ told_at old q
Puts-others (Ok x) p t q old new apart h = told_same q _ new h ∙ with_other p t q apart old
Puts-others (Err Failed) p t q old new apart (inl h) = told_same q old new h
Puts-others (Err Failed) p t q old new apart (inr h) = told_same q _ new h ∙ with_other p t q apart old
Puts-others (Err Memory) p t q old new apart h = told_same q old new h

pub Removes-others : (r : Result Bool StoreError) (p q : List ℕ) (old new : Option Records) → (q ≡ p → ⊥) → Removes r p old new → told_at new q ≡ told_at old q
Removes-others (Ok x) p q old new apart h = told_same q _ new h.0 ∙ without_other p q apart old
Removes-others (Err Failed) p q old new apart (inl h) = told_same q old new h
Removes-others (Err Failed) p q old new apart (inr h) = told_same q _ new h ∙ without_other p q apart old
Removes-others (Err Memory) p q old new apart h = told_same q old new h

-- what stands at a path still stands there behind a call that leaves what is told of it
pub IsToldAt-kept : (q : List ℕ) (x : Option (List ℕ)) (old new : Option Records) → told_at new q ≡ told_at old q → IsToldAt old q x → IsToldAt new q x
IsToldAt-kept q x None new same held n e =
    let bad : ◌≡◌ {A = Option (Option (List ℕ))} None (Some (lookup n q)) = sym same ∙ ap (λ (o : Option Records). told_at o q) e in cc
IsToldAt-kept q x (Some m) new same held n e =
    let at : ◌≡◌ {A = Option (Option (List ℕ))} (Some (lookup n q)) (Some (lookup m q)) = ap (λ (o : Option Records). told_at o q) (sym e) ∙ same in
    ap (λ (o : Option (Option (List ℕ))). unwrap_or o x) at ∙ held m refl

-- an accepted write or removal did at its path what it says
pub Puts-here : (x : Unit {0}) (p t : List ℕ) (old new : Option Records) → Puts (Ok x) p t old new → IsToldAt new p (Some t)
Puts-here x p t None new h n e = let bad : ◌≡◌ {A = Option Records} None (Some n) = sym h ∙ e in cc
Puts-here x p t (Some m) new h n e = ap (λ (o : Records). lookup o p) (same_Some n _ (sym e ∙ h)) ∙ with_path-here m p t

pub Removes-here : (was : Bool) (p : List ℕ) (old new : Option Records) → Removes (Ok was) p old new → IsToldAt new p None
Removes-here was p None new h n e = let bad : ◌≡◌ {A = Option Records} None (Some n) = sym h.0 ∙ e in cc
Removes-here was p (Some m) new h n e = ap (λ (o : Records). lookup o p) (same_Some n _ (sym e ∙ h.0)) ∙ without_path-here m p
