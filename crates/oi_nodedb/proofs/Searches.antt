-- What a binary search among records in order finds.
use Rattle.std.proofs.Common.{◌≡◌, ℕ, ◌<◌, ◌≤◌, inl, inr, List, [], Some, None, IsSome, is_some, IfErr, IfOk, Result, Ok, Err, sym, ap, ◌∙◌, insert, length, get_or, slice_get, arith}
use Rattle.std.specs.List.Sorted.{IsBinarySearchResult, IsSearchInRange}
use Rattle.std.specs.Ordering.{is_eq}
use Rattle.std.specs.declared.cmp.Ordering.TheVariants.{Less, Greater}
use Rattle.std.proofs.lemmas.Bool.{cases_lt}
use Rattle.std.proofs.lemmas.Option.{slice_get-get_or}
use Rattle.oi_settings.specs.Keys.{Key, key_cmp}
use Rattle.oi_settings.specs.Texts.{Node}
use Rattle.oi_nodedb.specs.Databases.{Ascends, record_at, with_record}
use Rattle.oi_nodedb.proofs.Orders.{insert-with_record, record_at-absent, record_at-place, searchable}

module _ (nodes : List Node) (key : Key) (ascends : Ascends nodes) where
  pub within : (r : Result ℕ ℕ) → IsSearchInRange r (length nodes) → IfOk r (λ at. at < length nodes)
  within (Ok i) range = range
  within (Err i) range = tt

  spare : Node
  spare = record { key = key; pairs = [] }

  pub found : (r : Result ℕ ℕ) → IsSearchInRange r (length nodes) → IsBinarySearchResult (λ n. key_cmp n.key key) nodes r
      → IfOk r (λ at. IsSome (record_at key nodes) × (slice_get nodes at ≡ record_at key nodes))
  found (Ok i) range held =
      let there : record_at key nodes ≡ Some (get_or nodes i spare) = record_at-place key nodes i spare ascends range (held spare) in
      (ap is_some there, slice_get-get_or nodes i spare range ∙ sym there)
  found (Err i) range held = tt

  -- at each place the key is below, or above
  not_there : (i : ℕ) → ((k : ℕ) (d : Node) → 0 ≤ k → k < i → key_cmp (get_or nodes k d).key key ≡ Less)
      → ((k : ℕ) (d : Node) → i ≤ k → k < length nodes → key_cmp (get_or nodes k d).key key ≡ Greater) → record_at key nodes ≡ None
  not_there i below above =
      record_at-absent key nodes (λ k d small. elim (cases_lt k i) [
        | inl before ↦ ap is_eq (below k d (omega arith) before)
        | inr behind ↦ ap is_eq (above k d behind small)
      ])

  pub absent : (r : Result ℕ ℕ) → IsSearchInRange r (length nodes) → IsBinarySearchResult (λ n. key_cmp n.key key) nodes r
      → IfErr r (λ at. (at ≤ length nodes) × (record_at key nodes ≡ None))
  absent (Ok i) range held = tt
  absent (Err i) range held =
      let parts = held (searchable nodes key ascends) in
      (range, not_there i parts.0 parts.1)

  pub gap : (r : Result ℕ ℕ) → IsSearchInRange r (length nodes) → IsBinarySearchResult (λ n. key_cmp n.key key) nodes r
      → IfErr r (λ at. (n : Node) → n.key ≡ key → insert nodes at n ≡ with_record n nodes)
  gap (Ok i) range held = tt
  gap (Err i) range held =
      let parts = held (searchable nodes key ascends) in
      λ n same.
      insert-with_record n nodes i range
      (λ k d small. ap (λ (q : Key). key_cmp (get_or nodes k d).key q) same ∙ parts.0 k d (omega arith) small)
      (λ k d least small. ap (λ (q : Key). key_cmp (get_or nodes k d).key q) same ∙ parts.1 k d least small)
