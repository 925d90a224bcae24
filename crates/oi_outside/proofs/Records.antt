-- Laws of records by path.
use Rattle.std.proofs.Common.{ℕ, Bool, true, false, cond, ◌&&◌, ◌≡◌, ◌∙◌, List, [], ◌∷◌, Option, Some, None, refl, sym, ap, map}
use Rattle.std.specs.Prelude.{T}
use Rattle.std.specs.declared.cmp.Ordering.{Ordering}
use Rattle.std.specs.declared.cmp.Ordering.TheVariants.{Less, Equal, Greater}
use Rattle.std.specs.Ordering.{nat_cmp, is_lt}
use Rattle.std.specs.Cmp.Lexicographic.{slice_cmp, nat_list_cmp_total, nat_list_eq_equiv, texts_ties}
use Rattle.std.specs.List.{All, AllByRecursion, Contains, list_any}
use Rattle.std.specs.List.Sorted.{IsStrictlySortedBy}
use Rattle.std.specs.Str.{bytes_eq}
use Rattle.std.specs.FinMap.{IsAntisymmetric, nat_cmp-IsAntisymmetric, slice_cmp-IsAntisymmetric, entries, entries_sorted, same_map, get-insert, get-remove, contains_key-keys}
use Rattle.std.specs.FinMap.Entries.{is_sorted, below_all}
use Rattle.std.proofs.lemmas.Map.Views.{All-from_any, Contains-from_any, list_any-from_Contains}
use Rattle.std.proofs.lemmas.Slice.Eq.{bytes_eq-Decides}
use Rattle.oi_outside.specs.Records.{Records, Ascends, lookup, has_path, with_path, without_path, paths}

-- the order of bytes tells paths apart
pub tells_apart : IsAntisymmetric (slice_cmp nat_cmp)
tells_apart = slice_cmp-IsAntisymmetric nat_cmp-IsAntisymmetric

not_true : (b : Bool) → (b ≡ true → ⊥) → b ≡ false
not_true true h = absurd (h refl)
not_true false h = refl

pub same_path : (p : List ℕ) → bytes_eq p p ≡ true
same_path p = (bytes_eq-Decides p p).1 refl

pub other_path : (q p : List ℕ) → (q ≡ p → ⊥) → bytes_eq q p ≡ false
other_path q p apart = not_true (bytes_eq q p) (λ e. apart ((bytes_eq-Decides q p).0 e))

-- records that have the same text at each path are the same
pub same_records : (m n : Records) → ((q : List ℕ) → lookup m q ≡ lookup n q) → m ≡ n
same_records m n same = same_map nat_list_cmp_total tells_apart m n same

-- the text at any path behind a change
pub lookup-with_path : (m : Records) (p t q : List ℕ) → lookup (with_path m p t) q ≡ cond (bytes_eq q p) (Some t) (lookup m q)
lookup-with_path m p t q = get-insert nat_list_cmp_total m p t q ∙ ap (λ b. cond b (Some t) (lookup m q)) (sym (texts_ties q p))

pub lookup-without_path : (m : Records) (p q : List ℕ) → lookup (without_path m p) q ≡ cond (bytes_eq q p) None (lookup m q)
lookup-without_path m p q = get-remove nat_list_cmp_total m p q ∙ ap (λ b. cond b None (lookup m q)) (sym (texts_ties q p))

-- the same, at the path of the change and at another
pub with_path-here : (m : Records) (p t : List ℕ) → lookup (with_path m p t) p ≡ Some t
with_path-here m p t = lookup-with_path m p t p ∙ ap (λ b. cond b (Some t) (lookup m p)) (same_path p)

pub with_path-other : (m : Records) (p t q : List ℕ) → (q ≡ p → ⊥) → lookup (with_path m p t) q ≡ lookup m q
with_path-other m p t q apart = lookup-with_path m p t q ∙ ap (λ b. cond b (Some t) (lookup m q)) (other_path q p apart)

pub without_path-here : (m : Records) (p : List ℕ) → lookup (without_path m p) p ≡ None
without_path-here m p = lookup-without_path m p p ∙ ap (λ b. cond b None (lookup m p)) (same_path p)

pub without_path-other : (m : Records) (p q : List ℕ) → (q ≡ p → ⊥) → lookup (without_path m p) q ≡ lookup m q
without_path-other m p q apart = lookup-without_path m p q ∙ ap (λ b. cond b None (lookup m q)) (other_path q p apart)

-- b: it is the path of the change; x: the text that comes; y: the text that was
kept : (b : Bool) (x y : Option (List ℕ)) → (b ≡ true → y ≡ x) → cond b x y ≡ y
kept true x y h = sym (h refl)
kept false x y h = refl

last : (b : Bool) (x y z : Option (List ℕ)) → cond b x (cond b y z) ≡ cond b x z
last true x y z = refl
last false x y z = refl

-- a change to what is there already changes nothing
pub with_path-held : (m : Records) (p t : List ℕ) → lookup m p ≡ Some t → with_path m p t ≡ m
with_path-held m p t held =
    same_records _ _ (λ q. lookup-with_path m p t q
    ∙ kept (bytes_eq q p) (Some t) (lookup m q) (λ e. ap (lookup m) ((bytes_eq-Decides q p).0 e) ∙ held))

pub without_path-absent : (m : Records) (p : List ℕ) → lookup m p ≡ None → without_path m p ≡ m
without_path-absent m p absent =
    same_records _ _ (λ q. lookup-without_path m p q
    ∙ kept (bytes_eq q p) None (lookup m q) (λ e. ap (lookup m) ((bytes_eq-Decides q p).0 e) ∙ absent))

-- of two changes at one path the last one counts
pub with_path-with_path : (m : Records) (p s t : List ℕ) → with_path (with_path m p s) p t ≡ with_path m p t
with_path-with_path m p s t =
    same_records _ _ (λ q. lookup-with_path (with_path m p s) p t q
    ∙ ap (cond (bytes_eq q p) (Some t)) (lookup-with_path m p s q)
    ∙ last (bytes_eq q p) (Some t) (Some s) (lookup m q)
    ∙ sym (lookup-with_path m p t q))

pub without_path-with_path : (m : Records) (p s : List ℕ) → without_path (with_path m p s) p ≡ without_path m p
without_path-with_path m p s =
    same_records _ _ (λ q. lookup-without_path (with_path m p s) p q
    ∙ ap (cond (bytes_eq q p) None) (lookup-with_path m p s q)
    ∙ last (bytes_eq q p) None (Some s) (lookup m q)
    ∙ sym (lookup-without_path m p q))

pub with_path-without_path : (m : Records) (p t : List ℕ) → with_path (without_path m p) p t ≡ with_path m p t
with_path-without_path m p t =
    same_records _ _ (λ q. lookup-with_path (without_path m p) p t q
    ∙ ap (cond (bytes_eq q p) (Some t)) (lookup-without_path m p q)
    ∙ last (bytes_eq q p) (Some t) None (lookup m q)
    ∙ sym (lookup-with_path m p t q))

-- a path is listed exactly where it has a text
pub has_path-paths : (m : Records) (q : List ℕ) → has_path m q ≡ list_any (bytes_eq q) (paths m)
has_path-paths m q = contains_key-keys m q ∙ ap (λ (test : List ℕ → Bool). list_any test (paths m)) (λ i p. sym (texts_ties q p) i)

pub Contains-paths : (m : Records) (q : List ℕ) → has_path m q ≡ true → Contains (paths m) q
Contains-paths m q has = Contains-from_any (λ x y. (bytes_eq-Decides x y).0) q (paths m) (sym (has_path-paths m q) ∙ has)

pub has_path-listed : (m : Records) (q : List ℕ) → Contains (paths m) q → has_path m q ≡ true
has_path-listed m q listed = has_path-paths m q ∙ list_any-from_Contains nat_list_eq_equiv q (paths m) listed

pub All-paths : (m : Records) → All (λ q. has_path m q ≡ true) (paths m)
All-paths m = All-from_any nat_list_eq_equiv (λ q. has_path m q ≡ true) (paths m) (λ q listed. has_path-paths m q ∙ listed)

left : (a b : Bool) → T (a && b) → T a
left true b h = tt
left false b h = h

right : (a b : Bool) → T (a && b) → T b
right true b h = h
right false b h = absurd h

less : (o : Ordering) → T (is_lt o) → o ≡ Less
less Less h = refl
less Equal h = absurd h
less Greater h = absurd h

above : (p : List ℕ) (es : List (List ℕ × List ℕ)) → T (below_all (slice_cmp nat_cmp) p es) → AllByRecursion (λ q. slice_cmp nat_cmp p q ≡ Less) (map (λ e. e.0) es)
above p [] h = tt
above p (e ∷ es) h = (less _ (left _ _ h), above p es (right _ _ h))

ascends : (es : List (List ℕ × List ℕ)) → T (is_sorted (slice_cmp nat_cmp) es) → Ascends (map (λ e. e.0) es)
unfolding IsStrictlySortedBy
ascends [] h = tt
ascends (e ∷ es) h = (above e.0 es (left _ _ h), ascends es (right _ _ h))

-- the paths ascend
pub Ascends-paths : (m : Records) → Ascends (paths m)
Ascends-paths m = ascends (entries m) (entries_sorted m)
