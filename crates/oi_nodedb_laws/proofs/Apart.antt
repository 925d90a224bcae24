-- Records of one list have paths of their own.
use Rattle.std.proofs.Common.{◌≡◌, ◌∙◌, ℕ, Bool, true, false, true≢false, cond, List, [], ◌∷◌, ◌++◌, Option, Some, None, is_some, refl, sym, ap, map, filter, bytes_eq}
use Rattle.std.specs.List.{All, AllByRecursion}
use Rattle.std.specs.List.Sorted.{IsStrictlySortedBy}
use Rattle.std.specs.Option.{option_map}
use Rattle.std.specs.Ordering.{is_eq, is_lt}
use Rattle.std.specs.declared.cmp.Ordering.TheVariants.{Less}
use Rattle.std.proofs.lemmas.Cmp.{tied_itself}
use Rattle.std.proofs.lemmas.List.Elements.{All-head, All-tail}
use Rattle.std.proofs.lemmas.Slice.Eq.{bytes_eq-Decides}
use Rattle.oi_settings.specs.KeyOrder.{key_total}
use Rattle.oi_settings.specs.Keys.{IsKey, Key, key_cmp, path_text}
use Rattle.oi_settings.specs.Texts.{IsNode, Node}
use Rattle.oi_settings.proofs.Paths.{one_path}
use Rattle.oi_nodedb.specs.declared.filter.Filter.{Filter}
use Rattle.oi_nodedb.specs.Databases.{Ascends, keys_of, record_at, with_value}
use Rattle.oi_nodedb.specs.Filters.{matches, matching}
use Rattle.oi_nodedb_laws.specs.Courses.{IsDatabase}
use Rattle.oi_nodedb_laws.specs.Touches.{record_on}

-- no record has the path of one before it
abbrev pub AreApart : List Node → Type 0
AreApart [] = Unit {0}
AreApart (n ∷ ns) = (record_on (path_text n.key) ns ≡ None) × AreApart ns

less_apart : (a b : Key) → key_cmp a b ≡ Less → a ≡ b → ⊥
less_apart a b less same = true≢false (ap is_lt (sym less ∙ sym (ap (key_cmp a) same) ∙ tied_itself key_total a))

pub same_path : (p q : List ℕ) → bytes_eq p q ≡ true → p ≡ q
same_path p q e = (bytes_eq-Decides p q).0 e

none_behind : (n : Node) (ns : List Node) → AllByRecursion (λ k. key_cmp n.key k ≡ Less) (keys_of ns) → IsKey n.key → All (λ m. IsNode m) ns
    → record_on (path_text n.key) ns ≡ None
none_behind n [] all valid each = refl
none_behind n (m ∷ ms) all valid each = go (bytes_eq (path_text n.key) (path_text m.key)) refl (none_behind n ms all.1 valid (All-tail (λ x. IsNode x) m ms each))
  where
    go : (b : Bool) → bytes_eq (path_text n.key) (path_text m.key) ≡ b → record_on (path_text n.key) ms ≡ None → cond b (Some m) (record_on (path_text n.key) ms) ≡ None
    go true e more =
        absurd (less_apart n.key m.key all.0 (one_path n.key m.key valid (All-head (λ x. IsNode x) m ms each).valid (same_path (path_text n.key) (path_text m.key) e)))
    go false e more = more

all_apart : (ns : List Node) → Ascends ns → All (λ n. IsNode n) ns → AreApart ns
unfolding IsStrictlySortedBy
all_apart [] ascends each = tt
all_apart (n ∷ ns) ascends each = (
  none_behind n ns ascends.0 (All-head (λ x. IsNode x) n ns each).valid (All-tail (λ x. IsNode x) n ns each),
  all_apart ns ascends.1 (All-tail (λ x. IsNode x) n ns each),
)

pub database_apart : (ns : List Node) → IsDatabase ns → AreApart ns
database_apart ns is = all_apart ns is.ascends is.each

-- ---- parts of a list

no_record : {n : Node} → ◌≡◌ {A = Option Node} (Some n) None → ⊥
no_record e = true≢false (ap is_some e)

-- none in the whole, none in the front
pub none_in_front : (q : List ℕ) (xs ys : List Node) → record_on q (xs ++ ys) ≡ None → record_on q xs ≡ None
none_in_front q [] ys none = refl
none_in_front q (x ∷ xs) ys none = go (bytes_eq q (path_text x.key)) none (none_in_front q xs ys)
  where
    go : (b : Bool) → cond b (Some x) (record_on q (xs ++ ys)) ≡ None → (record_on q (xs ++ ys) ≡ None → record_on q xs ≡ None) → cond b (Some x) (record_on q xs) ≡ None
    go true absent more = absurd (no_record absent)
    go false absent more = more absent

pub front_apart : (xs ys : List Node) → AreApart (xs ++ ys) → AreApart xs
front_apart [] ys apart = tt
front_apart (x ∷ xs) ys apart = (none_in_front (path_text x.key) xs ys apart.0, front_apart xs ys apart.1)

-- none in the whole, none in what is kept of the front
pub none_kept : (p : Node → Bool) (q : List ℕ) (xs ys : List Node) → record_on q (xs ++ ys) ≡ None → record_on q (filter p xs ++ ys) ≡ None
none_kept p q [] ys none = none
none_kept p q (x ∷ xs) ys none = go (p x) (bytes_eq q (path_text x.key)) refl none (none_kept p q xs ys)
  where
    go : (b c : Bool) → bytes_eq q (path_text x.key) ≡ c → cond c (Some x) (record_on q (xs ++ ys)) ≡ None → (record_on q (xs ++ ys) ≡ None → record_on q (filter p xs ++ ys) ≡ None)
        → record_on q (cond b (x ∷ filter p xs) (filter p xs) ++ ys) ≡ None
    go b true e absent more = absurd (no_record absent)
    go true false e absent more = ap (λ (d : Bool). cond d (Some x) (record_on q (filter p xs ++ ys))) e ∙ more absent
    go false false e absent more = more absent

pub none_matching : (f : Filter) (q : List ℕ) (xs : List Node) → record_on q xs ≡ None → record_on q (matching f xs) ≡ None
none_matching f q [] none = refl
none_matching f q (x ∷ xs) none = go (matches f x.key) (bytes_eq q (path_text x.key)) refl none (none_matching f q xs)
  where
    go : (b c : Bool) → bytes_eq q (path_text x.key) ≡ c → cond c (Some x) (record_on q xs) ≡ None → (record_on q xs ≡ None → record_on q (matching f xs) ≡ None)
        → record_on q (cond b (x ∷ matching f xs) (matching f xs)) ≡ None
    go b true e absent more = absurd (no_record absent)
    go true false e absent more = ap (λ (d : Bool). cond d (Some x) (record_on q (matching f xs))) e ∙ more absent
    go false false e absent more = more absent

pub matching_apart : (f : Filter) (xs : List Node) → AreApart xs → AreApart (matching f xs)
matching_apart f [] apart = tt
matching_apart f (x ∷ xs) apart = go (matches f x.key) (matching_apart f xs apart.1)
  where
    go : (b : Bool) → AreApart (matching f xs) → AreApart (cond b (x ∷ matching f xs) (matching f xs))
    go true more = (none_matching f (path_text x.key) xs apart.0, more)
    go false more = more

-- the same records with another value
pub on_with : (name value : List ℕ) (q : List ℕ) (xs : List Node) → record_on q (map (with_value name value) xs) ≡ option_map (with_value name value) (record_on q xs)
on_with name value q [] = refl
on_with name value q (x ∷ xs) = go (bytes_eq q (path_text x.key)) (on_with name value q xs)
  where
    go : (b : Bool) → record_on q (map (with_value name value) xs) ≡ option_map (with_value name value) (record_on q xs)
        → cond b (Some (with_value name value x)) (record_on q (map (with_value name value) xs)) ≡ option_map (with_value name value) (cond b (Some x) (record_on q xs))
    go true more = refl
    go false more = more

pub with_apart : (name value : List ℕ) (xs : List Node) → AreApart xs → AreApart (map (with_value name value) xs)
with_apart name value [] apart = tt
with_apart name value (x ∷ xs) apart =
    (on_with name value (path_text x.key) xs ∙ ap (option_map (with_value name value)) apart.0, with_apart name value xs apart.1)

-- ---- a new key

-- where no record has the key, none has its path
pub none_on : (key : Key) (ns : List Node) → IsKey key → All (λ n. IsNode n) ns → record_at key ns ≡ None → record_on (path_text key) ns ≡ None
none_on key [] valid each none = refl
none_on key (n ∷ ns) valid each none =
    go (bytes_eq (path_text key) (path_text n.key)) (is_eq (key_cmp n.key key)) refl refl none (none_on key ns valid (All-tail (λ x. IsNode x) n ns each))
  where
    tied : bytes_eq (path_text key) (path_text n.key) ≡ true → is_eq (key_cmp n.key key) ≡ true
    tied e =
        let same : key ≡ n.key = one_path key n.key valid (All-head (λ x. IsNode x) n ns each).valid (same_path (path_text key) (path_text n.key) e) in
        ap (λ (k : Key). is_eq (key_cmp n.key k)) same ∙ ap is_eq (tied_itself key_total n.key)

    go : (b c : Bool) → bytes_eq (path_text key) (path_text n.key) ≡ b → is_eq (key_cmp n.key key) ≡ c → cond c (Some n) (record_at key ns) ≡ None
        → (record_at key ns ≡ None → record_on (path_text key) ns ≡ None) → cond b (Some n) (record_on (path_text key) ns) ≡ None
    go b true e t absent more = absurd (no_record absent)
    go true false e t absent more = absurd (true≢false (sym (tied e) ∙ t))
    go false false e t absent more = more absent
