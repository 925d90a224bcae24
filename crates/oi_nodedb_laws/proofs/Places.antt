-- Where the record of a path is.
use Rattle.std.proofs.Common.{◌≡◌, ◌∙◌, inl, inr, ℕ, Bool, true, false, true≢false, cond, List, [], ◌∷◌, ◌++◌, Option, Some, None, is_some, unwrap_or, refl, sym, ap, subst, get_or, arith, bytes_eq}
use Rattle.std.specs.List.{All, Contains}
use Rattle.std.proofs.lemmas.List.Elements.{Contains-append_right, Contains-get_or}
use Rattle.std.proofs.lemmas.Slice.Eq.{bytes_eq-Decides}
use Rattle.oi_settings.specs.Keys.{path_text}
use Rattle.oi_settings.specs.Texts.{Node}
use Rattle.oi_nodedb.specs.declared.filter.Filter.{Filter}
use Rattle.oi_nodedb.specs.Filters.{matches, matching}
use Rattle.oi_nodedb.proofs.Loading.{contains_cases, contains_first, contains_rest}
use Rattle.oi_nodedb_laws.specs.Touches.{record_on}
use Rattle.oi_nodedb_laws.proofs.Apart.{AreApart, none_matching, same_path}

pub none_in : (x : Node) → Contains [] x → ⊥
none_in x (k, small, is) = omega (arith, small)

pub each_of : (P : Node → Type 0) (xs : List Node) → ((x : Node) → Contains xs x → P x) → All P xs
each_of P xs holds_of k d small = holds_of (get_or xs k d) (Contains-get_or xs k d small)

pub same_node : (a b : Node) → ◌≡◌ {A = Option Node} (Some a) (Some b) → a ≡ b
same_node a b e = ap (λ (o : Option Node). unwrap_or o a) e

-- a record with a path that no record has
pub none_not_there : (q : List ℕ) (ns : List Node) (n : Node) → record_on q ns ≡ None → Contains ns n → q ≡ path_text n.key → ⊥
none_not_there q [] n none c same = none_in n c
none_not_there q (m ∷ ms) n none c same = go (bytes_eq q (path_text m.key)) refl none (none_not_there q ms n)
  where
    go : (b : Bool) → bytes_eq q (path_text m.key) ≡ b → cond b (Some m) (record_on q ms) ≡ None → (record_on q ms ≡ None → Contains ms n → q ≡ path_text n.key → ⊥) → ⊥
    go true here absent more = true≢false (ap is_some absent)
    go false here absent more = elim (contains_cases m ms n c) [
      | inl one ↦ true≢false (sym ((bytes_eq-Decides q (path_text m.key)).1 (same ∙ ap (λ (z : Node). path_text z.key) (sym one))) ∙ here)
      | inr later ↦ more absent later same
    ]

pub found_there : (q : List ℕ) (ns : List Node) (n : Node) → record_on q ns ≡ Some n → Contains ns n × (q ≡ path_text n.key)
found_there q [] n e = absurd (true≢false (sym (ap is_some e)))
found_there q (m ∷ ms) n e = go (bytes_eq q (path_text m.key)) refl e (found_there q ms n)
  where
    go : (b : Bool) → bytes_eq q (path_text m.key) ≡ b → cond b (Some m) (record_on q ms) ≡ Some n → (record_on q ms ≡ Some n → Contains ms n × (q ≡ path_text n.key))
        → Contains (m ∷ ms) n × (q ≡ path_text n.key)
    go true here is more =
        let same : m ≡ n = same_node m n is in
        (subst (λ (x : Node). Contains (m ∷ ms) x) same (contains_first m ms), same_path q (path_text m.key) here ∙ ap (λ (x : Node). path_text x.key) same)
    go false here is more = let found = more is in (contains_rest m ms n found.0, found.1)

pub there_found : (ns : List Node) (n : Node) → AreApart ns → Contains ns n → record_on (path_text n.key) ns ≡ Some n
there_found [] n apart c = absurd (none_in n c)
there_found (m ∷ ms) n apart c = elim (contains_cases m ms n c) [
  | inl same ↦
      ap (λ (b : Bool). cond b (Some m) (record_on (path_text n.key) ms)) ((bytes_eq-Decides (path_text n.key) (path_text m.key)).1 (ap (λ (x : Node). path_text x.key) (sym same)))
      ∙ ap (λ (x : Node). Some x) same
  | inr later ↦ go (bytes_eq (path_text n.key) (path_text m.key)) refl (there_found ms n apart.1 later)
]
  where
    go : (b : Bool) → bytes_eq (path_text n.key) (path_text m.key) ≡ b → record_on (path_text n.key) ms ≡ Some n → cond b (Some m) (record_on (path_text n.key) ms) ≡ Some n
    go true here more =
        let same : path_text n.key ≡ path_text m.key = same_path (path_text n.key) (path_text m.key) here in
        let bad : ◌≡◌ {A = Option Node} (Some n) None = sym more ∙ ap (λ (p : List ℕ). record_on p ms) same ∙ apart.0 in
        absurd (true≢false (ap is_some bad))
    go false here more = more

-- a record that is meant is among those that are
pub meant_in : (f : Filter) (xs : List Node) (n : Node) → Contains xs n → matches f n.key ≡ true → Contains (matching f xs) n
meant_in f [] n c is = absurd (none_in n c)
meant_in f (x ∷ xs) n c is = elim (contains_cases x xs n c) [
  | inl same ↦
      subst (λ (b : Bool). Contains (cond b (x ∷ matching f xs) (matching f xs)) n) (sym (ap (λ (m : Node). matches f m.key) same ∙ is))
      (subst (λ (m : Node). Contains (x ∷ matching f xs) m) same (contains_first x (matching f xs)))
  | inr later ↦ go (matches f x.key) (meant_in f xs n later is)
]
  where
    go : (b : Bool) → Contains (matching f xs) n → Contains (cond b (x ∷ matching f xs) (matching f xs)) n
    go true more = contains_rest x (matching f xs) n more
    go false more = more

-- one that is not meant has no path of those that are
pub not_meant : (f : Filter) (xs : List Node) (n : Node) → AreApart xs → Contains xs n → matches f n.key ≡ false → record_on (path_text n.key) (matching f xs) ≡ None
not_meant f [] n apart c other = refl
not_meant f (x ∷ xs) n apart c other = elim (contains_cases x xs n c) [
  | inl same ↦
      ap (λ (b : Bool). record_on (path_text n.key) (cond b (x ∷ matching f xs) (matching f xs))) (ap (λ (m : Node). matches f m.key) same ∙ other)
      ∙ none_matching f (path_text n.key) xs (ap (λ (m : Node). record_on (path_text m.key) xs) (sym same) ∙ apart.0)
  | inr later ↦ go (matches f x.key) (bytes_eq (path_text n.key) (path_text x.key)) refl later (not_meant f xs n apart.1 later other)
]
  where
    go : (b d : Bool) → bytes_eq (path_text n.key) (path_text x.key) ≡ d → Contains xs n → record_on (path_text n.key) (matching f xs) ≡ None
        → record_on (path_text n.key) (cond b (x ∷ matching f xs) (matching f xs)) ≡ None
    go b true here later more =
        absurd (none_not_there (path_text x.key) xs n apart.0 later (sym (same_path (path_text n.key) (path_text x.key) here)))
    go true false here later more = ap (λ (d : Bool). cond d (Some x) (record_on (path_text n.key) (matching f xs))) here ∙ more
    go false false here later more = more

-- a record in front of another has another path
pub front_other : (xs ys : List Node) (n m : Node) → AreApart (xs ++ m ∷ ys) → Contains xs n → path_text n.key ≡ path_text m.key → ⊥
front_other [] ys n m apart c same = none_in n c
front_other (x ∷ xs) ys n m apart c same = elim (contains_cases x xs n c) [
  | inl one ↦
      none_not_there (path_text x.key) (xs ++ m ∷ ys) m apart.0 (Contains-append_right xs (m ∷ ys) m (contains_first m ys)) (ap (λ (z : Node). path_text z.key) one ∙ same)
  | inr later ↦ front_other xs ys n m apart.1 later same
]
