-- Texts in ascending order have bytes in ascending order.
use Rattle.std.proofs.Common.{ℕ, ◌≡◌, List, [], ◌∷◌, sym, map, subst}
use Rattle.std.specs.declared.cmp.Ordering.TheVariants.{Less}
use Rattle.std.specs.Ordering.{nat_cmp}
use Rattle.std.specs.Cmp.Lexicographic.{slice_cmp}
use Rattle.std.specs.List.{All, AllByRecursion}
use Rattle.std.specs.List.Sorted.{IsStrictlySortedBy}
use Rattle.std.specs.Str.{IsUtf8}
use Rattle.std.specs.String.{string_bytes, string_cmp}
use Rattle.std.specs.declared.string.String.{String}
use Rattle.oi_outside.specs.Records.{Ascends}
use Rattle.oi_net.specs.Paths.{ArePaths}

module _ {A : Type 0} where
  below : (k : String A) (ks : List (String A)) → AllByRecursion (λ j. string_cmp k j ≡ Less) ks → AllByRecursion (λ bs. slice_cmp nat_cmp (string_bytes k) bs ≡ Less) (map (λ j. string_bytes j) ks)
  below k [] h = tt
  below k (j ∷ ks) h = (h.0, below k ks h.1)

  -- the bytes of texts in order are in order
  pub Ascends-bytes : (ks : List (String A)) → IsStrictlySortedBy string_cmp ks → Ascends (map (λ k. string_bytes k) ks)
  unfolding IsStrictlySortedBy
  Ascends-bytes [] h = tt
  Ascends-bytes (k ∷ ks) h = (below k ks h.0, Ascends-bytes ks h.1)

  pub ArePaths-bytes : (found : List (List ℕ)) (ks : List (String A)) → found ≡ map (λ k. string_bytes k) ks → IsStrictlySortedBy string_cmp ks → All IsUtf8 found → ArePaths found
  ArePaths-bytes found ks is sorted texts = (subst (λ (ps : List (List ℕ)). Ascends ps) (sym is) (Ascends-bytes ks sorted), texts)
