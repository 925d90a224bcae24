-- The records that a tree with strings as its paths holds.
use Rattle.std.proofs.Common.{ℕ, Bool, true, false, cond, ◌&&◌, ◌≡◌, ◌∙◌, List, [], ◌∷◌, ◌++◌, Option, Some, None, refl, sym, ap, subst, map}
use Rattle.std.specs.Prelude.{T}
use Rattle.std.specs.declared.cmp.Ordering.TheVariants.{Less}
use Rattle.std.specs.Ordering.{nat_cmp, is_lt, is_eq}
use Rattle.std.specs.Cmp.Lexicographic.{slice_cmp, nat_list_cmp_total, nat_list_eq_equiv}
use Rattle.std.specs.List.{AllByRecursion}
use Rattle.std.specs.List.Sorted.{IsStrictlySortedBy}
use Rattle.std.specs.Map.{keys_of, lookup as lookup_by}
use Rattle.std.specs.BTreeMap.{BTreeMap, UpdatesBy, is_at}
use Rattle.std.specs.FinMap.{entries, from_entries, from_sorted, get-from_entries, get-from_sorted, entries-from_sorted, same_map}
use Rattle.std.specs.FinMap.Entries.{find, is_sorted, below_all}
use Rattle.std.specs.Str.{bytes_eq}
use Rattle.std.specs.String.{string_bytes, string_cmp}
use Rattle.std.specs.declared.string.String.{String}
use Rattle.std.proofs.lemmas.List.{append_assoc}
use Rattle.std.proofs.lemmas.Map.Text.{btree_map_updates_text}
use Rattle.oi_outside.specs.MemStores.{by_bytes, records_of}
use Rattle.oi_outside.specs.Records.{lookup, with_path, without_path, paths}
use Rattle.oi_outside.proofs.Records.{tells_apart, same_records, lookup-with_path, lookup-without_path}

both : (a b : Bool) → T a → T b → T (a && b)
both true b x y = y
both false b x y = x

-- entries in order make the records with these entries
made : (es : List (List ℕ × List ℕ)) → T (is_sorted (slice_cmp nat_cmp) es) → entries (from_entries {R = slice_cmp nat_cmp} es) ≡ es
made es h =
    ap entries (same_map nat_list_cmp_total tells_apart (from_entries es) (from_sorted es) (λ q. get-from_entries nat_list_cmp_total es q ∙ sym (get-from_sorted (slice_cmp nat_cmp) es q h)))
    ∙ entries-from_sorted (slice_cmp nat_cmp) es h

module _ {A : Type 0} where
  find-by_bytes : (q : List ℕ) (es : List (String A × List ℕ)) → find (slice_cmp nat_cmp) q (by_bytes es) ≡ lookup_by (is_at (λ k. slice_cmp nat_cmp q (string_bytes k))) es
  find-by_bytes q [] = refl
  find-by_bytes q (e ∷ es) = ap (cond (is_eq (slice_cmp nat_cmp q (string_bytes e.0))) (Some e.1)) (find-by_bytes q es)

  -- a path has the text that the tree has there
  pub lookup-records_of : (q : List ℕ) (es : List (String A × List ℕ)) → lookup (records_of es) q ≡ lookup_by (is_at (λ k. slice_cmp nat_cmp q (string_bytes k))) es
  lookup-records_of q es = get-from_entries nat_list_cmp_total (by_bytes es) q ∙ find-by_bytes q es

  -- after a change at p
  changed : (m n : BTreeMap (String A) (List ℕ)) (p : List ℕ) (w : Option (List ℕ)) → UpdatesBy string_cmp (λ k. slice_cmp nat_cmp p (string_bytes k)) m n w → (q : List ℕ) → lookup (records_of n.entries) q ≡ cond (bytes_eq q p) w (lookup (records_of m.entries) q)
  changed m n p w updates q =
      lookup-records_of q n.entries
      ∙ btree_map_updates_text p m n w updates q
      ∙ (λ i. cond (nat_list_eq_equiv.symm p q i) w (sym (lookup-records_of q m.entries) i))

  pub records_of-put : (m n : BTreeMap (String A) (List ℕ)) (p t : List ℕ) → UpdatesBy string_cmp (λ k. slice_cmp nat_cmp p (string_bytes k)) m n (Some t) → records_of n.entries ≡ with_path (records_of m.entries) p t
  records_of-put m n p t updates = same_records _ _ (λ q. changed m n p (Some t) updates q ∙ sym (lookup-with_path (records_of m.entries) p t q))

  pub records_of-taken : (m n : BTreeMap (String A) (List ℕ)) (p : List ℕ) → UpdatesBy string_cmp (λ k. slice_cmp nat_cmp p (string_bytes k)) m n None → records_of n.entries ≡ without_path (records_of m.entries) p
  records_of-taken m n p updates = same_records _ _ (λ q. changed m n p None updates q ∙ sym (lookup-without_path (records_of m.entries) p q))

  below : (k : String A) (es : List (String A × List ℕ)) → AllByRecursion (λ j. string_cmp k j ≡ Less) (keys_of es) → T (below_all (slice_cmp nat_cmp) (string_bytes k) (by_bytes es))
  below k [] h = tt
  below k (e ∷ es) h = both _ _ (subst (λ o. T (is_lt o)) (sym h.0) tt) (below k es h.1)

  sorted : (es : List (String A × List ℕ)) → IsStrictlySortedBy string_cmp (keys_of es) → T (is_sorted (slice_cmp nat_cmp) (by_bytes es))
  unfolding IsStrictlySortedBy
  sorted [] h = tt
  sorted (e ∷ es) h = both _ _ (below e.0 es h.0) (sorted es h.1)

  heads : (es : List (String A × List ℕ)) → map (λ e. e.0) (by_bytes es) ≡ map (λ k. string_bytes k) (keys_of es)
  heads [] = refl
  heads (e ∷ es) = ap (λ ps. string_bytes e.0 ∷ ps) (heads es)

  -- the paths are those of the tree, in its order
  pub paths-records_of : (es : List (String A × List ℕ)) → IsStrictlySortedBy string_cmp (keys_of es) → paths (records_of es) ≡ map (λ k. string_bytes k) (keys_of es)
  paths-records_of es h = ap (map (λ e. e.0)) (made (by_bytes es) (sorted es h)) ∙ heads es

  -- one more path was found, and one less is left
  pub found_one : (found more : List (List ℕ)) (label : List ℕ) (k : String A) (ks rest : List (String A)) (all : List (List ℕ)) → found ++ map (λ j. string_bytes j) ks ≡ all → ks ≡ k ∷ rest → label ≡ string_bytes k → more ≡ found ++ label ∷ [] → more ++ map (λ j. string_bytes j) rest ≡ all
  found_one found more label k ks rest all before front is pushed =
      ap (λ (ps : List (List ℕ)). ps ++ map (λ j. string_bytes j) rest) pushed
      ∙ append_assoc found (label ∷ []) (map (λ j. string_bytes j) rest)
      ∙ ap (λ (p : List ℕ). found ++ p ∷ map (λ j. string_bytes j) rest) is
      ∙ ap (λ (js : List (String A)). found ++ map (λ j. string_bytes j) js) (sym front)
      ∙ before
