-- The first bad text is one, and so are the records of a store.
use Rattle.std.proofs.Common.{◌≡◌, inl, inr, ◌∙◌, ℕ, true≢false, List, [], ◌∷◌, Option, Some, unwrap_or, refl, sym, ap, subst, arith}
use Rattle.std.specs.Cmp.Lexicographic.{nat_list_cmp_total, slice_cmp}
use Rattle.std.specs.List.{AllByRecursion, Contains}
use Rattle.std.specs.List.Sorted.{IsStrictlySortedBy}
use Rattle.std.specs.Ordering.{is_lt, nat_cmp, ordering_reverse}
use Rattle.std.specs.declared.cmp.Ordering.{Ordering}
use Rattle.std.specs.declared.cmp.Ordering.TheVariants.{Less, Equal, Greater}
use Rattle.std.proofs.lemmas.Cmp.{tied_itself}
use Rattle.std.proofs.lemmas.List.Elements.{All-contains}
use Rattle.std.proofs.lemmas.Map.Lookups.{exact_bytes}
use Rattle.oi_base.specs.Counts.{told}
use Rattle.oi_outside.specs.Records.{Records, lookup}
use Rattle.oi_settings.specs.KeyOrder.{key_total}
use Rattle.oi_settings.specs.Keys.{Key, key_cmp, path_text}
use Rattle.oi_settings.specs.Texts.{IsStored, Node}
use Rattle.oi_settings.proofs.Stops.{bad_not_stored, one_bad_line, one_record}
use Rattle.oi_nodedb.specs.Databases.{Ascends, keys_of}
use Rattle.oi_nodedb.specs.Loads.{IsBadAt, IsFirstBad, IsLoaded, IsRecordAt}
use Rattle.oi_nodedb.proofs.Loading.{contains_cases, contains_first, contains_rest}

same_text : (a b : List ℕ) → ◌≡◌ {A = Option (List ℕ)} (Some a) (Some b) → a ≡ b
same_text a b e = ap (λ (o : Option (List ℕ)). unwrap_or o a) e

-- ---- bad texts

-- a bad text is no record's
no_record : (path text : List ℕ) (line : ℕ) (node : Node) → IsBadAt path text line → IsRecordAt path text node → ⊥
no_record path text line node (inl bad) is = bad_not_stored text bad.0 node bad.2 is.1
no_record path text line node (inr other) is =
    let found = other.1 in
    found.2 (is.0 ∙ ap (λ (n : Node). path_text n.key) (one_record text node found.0 is.1 found.1))

-- a text is bad at one line
one_line : (path text : List ℕ) (line other : ℕ) → IsBadAt path text line → IsBadAt path text other → line ≡ other
one_line path text line other (inl bad) (inl also) = bad.1 ∙ ap told (one_bad_line text bad.0 also.0 bad.2 also.2) ∙ sym also.1
one_line path text line other (inl bad) (inr also) = absurd (bad_not_stored text bad.0 also.1.0 bad.2 also.1.1)
one_line path text line other (inr bad) (inl also) = absurd (bad_not_stored text also.0 bad.1.0 also.2 bad.1.1)
one_line path text line other (inr bad) (inr also) = bad.0 ∙ sym also.0

-- none is below the first
not_below : (records : Records) (a b : List ℕ) (line other : ℕ) → IsFirstBad records a line → IsFirstBad records b other → slice_cmp nat_cmp a b ≡ Less → ⊥
not_below records a b line other x y less =
    let found = y.first a x.text x.node_path less x.there in
    no_record a x.text line found.0 x.bad found.1

first_path : (records : Records) (a b : List ℕ) (line other : ℕ) → IsFirstBad records a line → IsFirstBad records b other → a ≡ b
first_path records a b line other x y = go (slice_cmp nat_cmp a b) refl
  where
    go : (o : Ordering) → slice_cmp nat_cmp a b ≡ o → a ≡ b
    go Less e = absurd (not_below records a b line other x y e)
    go Equal e = exact_bytes a b e
    go Greater e = absurd (not_below records b a other line y x (nat_list_cmp_total.antisymm b a ∙ ap ordering_reverse e))

first_line : (records : Records) (path : List ℕ) (line other : ℕ) → IsFirstBad records path line → IsFirstBad records path other → line ≡ other
first_line records path line other x y =
    one_line path x.text line other x.bad (subst (λ (t : List ℕ). IsBadAt path t other) (same_text y.text x.text (sym y.there ∙ x.there)) y.bad)

pub one_first_bad : (records : Records) (a b : List ℕ) (line other : ℕ) → IsFirstBad records a line → IsFirstBad records b other → (a ≡ b) × (line ≡ other)
one_first_bad records a b line other x y =
    let paths = first_path records a b line other x y in
    (paths, first_line records a line other x (subst (λ (p : List ℕ). IsFirstBad records p other) (sym paths) y))

pub load_is_sound : (records : Records) (path : List ℕ) (line : ℕ) (nodes : List Node) → IsFirstBad records path line → IsLoaded records nodes → ⊥
load_is_sound records path line nodes bad loaded =
    let found = loaded.all path bad.text bad.node_path bad.there in
    no_record path bad.text line found.0 bad.bad found.2

-- ---- records in order

none_in : (x : Node) → Contains [] x → ⊥
none_in x (k, small, is) = omega (arith, small)

less_itself : (k : Key) → key_cmp k k ≡ Less → ⊥
less_itself k less = true≢false (ap is_lt (sym less ∙ tied_itself key_total k))

-- each record behind the first is above it
above : (x : Node) (xs : List Node) → AllByRecursion (λ k. key_cmp x.key k ≡ Less) (keys_of xs) → (y : Node) → Contains xs y → key_cmp x.key y.key ≡ Less
above x [] all y c = absurd (none_in y c)
above x (z ∷ zs) all y c = elim (contains_cases z zs y c) [
  | inl same ↦ subst (λ (n : Node). key_cmp x.key n.key ≡ Less) same all.0
  | inr later ↦ above x zs all.1 y later
]

abbrev AreIn : List Node → List Node → Type 0
AreIn a b = (n : Node) → Contains a n → Contains b n

-- the first of each is in the other
same_first : (x y : Node) (xs ys : List Node) → Ascends (x ∷ xs) → Ascends (y ∷ ys) → Contains (y ∷ ys) x → Contains (x ∷ xs) y → x ≡ y
unfolding IsStrictlySortedBy
same_first x y xs ys up also here there = elim (contains_cases y ys x here) [
  | inl same ↦ sym same
  | inr later ↦ elim (contains_cases x xs y there) [
    | inl same ↦ same
    | inr behind ↦
        absurd (less_itself x.key (key_total.trans x.key y.key x.key (above x xs up.0 y behind) (above y ys also.0 x later)))
  ]
]

-- what is behind the first of one is behind that of the other
rest_in : (x y : Node) (xs ys : List Node) → x ≡ y → Ascends (x ∷ xs) → AreIn (x ∷ xs) (y ∷ ys) → AreIn xs ys
unfolding IsStrictlySortedBy
rest_in x y xs ys same up into n c = elim (contains_cases y ys n (into n (contains_rest x xs n c))) [
  | inl first ↦ absurd (less_itself x.key (subst (λ (z : Node). key_cmp x.key z.key ≡ Less) (sym first ∙ sym same) (above x xs up.0 n c)))
  | inr later ↦ later
]

one_list : (a b : List Node) → Ascends a → Ascends b → AreIn a b → AreIn b a → a ≡ b
unfolding IsStrictlySortedBy
one_list [] [] up also into back = refl
one_list [] (y ∷ ys) up also into back = absurd (none_in y (back y (contains_first y ys)))
one_list (x ∷ xs) [] up also into back = absurd (none_in x (into x (contains_first x xs)))
one_list (x ∷ xs) (y ∷ ys) up also into back =
    let firsts = same_first x y xs ys up also (into x (contains_first x xs)) (back y (contains_first y ys)) in
    let rests = one_list xs ys up.1 also.1 (rest_in x y xs ys firsts up into) (rest_in y x ys xs (sym firsts) also back) in
    λ i. firsts i ∷ rests i

-- a record of one list is one of the other
all_in : (records : Records) (a b : List Node) → IsLoaded records a → IsLoaded records b → AreIn a b
all_in records a b x y n c =
    let held = All-contains (λ m. (text : List ℕ) × (lookup records (path_text m.key) ≡ Some text) × IsStored text m) a n x.each c in
    let found = y.all (path_text n.key) held.0 (_, refl) held.1 in
    subst (λ (m : Node). Contains b m) (one_record held.0 found.0 n found.2.1 held.2) found.1

pub one_load : (records : Records) (a b : List Node) → Ascends a → Ascends b → IsLoaded records a → IsLoaded records b → a ≡ b
one_load records a b up also x y = one_list a b up also (all_in records a b x y) (all_in records b a y x)
