-- Records in the order of their keys.
use Rattle.std.proofs.Common.{◌≡◌, ℕ, zero, suc, ◌<◌, ◌≤◌, Bool, true, false, true≢false, cond, List, [], ◌∷◌, ◌++◌, Some, None, is_some, refl, sym, ap, ◌∙◌, subst, filter, insert, length, get_or, arith, add-one}
use Rattle.std.specs.List.{AllByRecursion}
use Rattle.std.specs.List.Sorted.{IsNonDecreasingBy, IsStrictlySortedBy}
use Rattle.std.specs.Ordering.{is_eq, is_lt, ordering_index, ordering_reverse}
use Rattle.std.specs.declared.cmp.Ordering.{Ordering}
use Rattle.std.specs.declared.cmp.Ordering.TheVariants.{Less, Equal, Greater}
use Rattle.std.proofs.lemmas.Cmp.{alike_right}
use Rattle.std.proofs.lemmas.List.Sorted.{searchable_from_sorted}
use Rattle.oi_settings.specs.KeyOrder.{key_total}
use Rattle.oi_settings.specs.Keys.{Key, key_cmp}
use Rattle.oi_settings.specs.Texts.{Node}
use Rattle.oi_nodedb.specs.Databases.{Ascends, keys_of, record_at, with_record}

-- the other way round
pub less_back : (a b : Key) → key_cmp a b ≡ Less → key_cmp b a ≡ Greater
less_back a b e = key_total.antisymm b a ∙ ap ordering_reverse e

pub greater_back : (a b : Key) → key_cmp a b ≡ Greater → key_cmp b a ≡ Less
greater_back a b e = key_total.antisymm b a ∙ ap ordering_reverse e

-- what holds of every key holds of the one at a place
pub key_of_all : (P : Key → Type 0) (nodes : List Node) (i : ℕ) (d : Node) → i < length nodes → AllByRecursion P (keys_of nodes) → P (get_or nodes i d).key
key_of_all P [] i d small all = absurd (omega arith)
key_of_all P (n ∷ ns) zero d small all = all.0
key_of_all P (n ∷ ns) (suc i) d small all = key_of_all P ns i d (omega arith) all.1

-- a record before a gap is below the key, and one behind it is above
pub insert-with_record : (node : Node) (nodes : List Node) (i : ℕ) → i ≤ length nodes → ((k : ℕ) (d : Node) → k < i → key_cmp (get_or nodes k d).key node.key ≡ Less)
    → ((k : ℕ) (d : Node) → i ≤ k → k < length nodes → key_cmp (get_or nodes k d).key node.key ≡ Greater) → insert nodes i node ≡ with_record node nodes
insert-with_record node [] zero within below above = refl
insert-with_record node [] (suc i) within below above = absurd (omega arith)
insert-with_record node (n ∷ ns) zero within below above =
    let e : key_cmp n.key node.key ≡ Greater = above 0 n (omega arith) (omega arith) in
    ap (λ (o : Ordering). cond (is_lt o) (n ∷ with_record node ns) (node ∷ n ∷ ns)) (sym e)
insert-with_record node (n ∷ ns) (suc i) within below above =
    let e : key_cmp n.key node.key ≡ Less = below 0 n (omega arith) in
    ap (λ (ms : List Node). n ∷ ms)
    (insert-with_record node ns i (omega arith) (λ k d small. below (suc k) d (omega arith)) (λ k d least small. above (suc k) d (omega arith) (omega arith)))
    ∙ ap (λ (o : Ordering). cond (is_lt o) (n ∷ with_record node ns) (node ∷ n ∷ ns)) (sym e)

-- no record has the key
pub record_at-absent : (key : Key) (nodes : List Node) → ((k : ℕ) (d : Node) → k < length nodes → is_eq (key_cmp (get_or nodes k d).key key) ≡ false) → record_at key nodes ≡ None
record_at-absent key [] none = refl
record_at-absent key (n ∷ ns) none =
    ap (λ (b : Bool). cond b (Some n) (record_at key ns)) (none 0 n (omega arith)) ∙ record_at-absent key ns (λ k d small. none (suc k) d (omega arith))

-- the record at a place, where its key is the one that is looked for
pub record_at-place : (key : Key) (nodes : List Node) (i : ℕ) (d : Node) → Ascends nodes → i < length nodes → key_cmp (get_or nodes i d).key key ≡ Equal → record_at key nodes ≡ Some (get_or nodes i d)
unfolding IsStrictlySortedBy
record_at-place key [] i d ascends small same = absurd (omega arith)
record_at-place key (n ∷ ns) zero d ascends small same = ap (λ (o : Ordering). cond (is_eq o) (Some n) (record_at key ns)) same
record_at-place key (n ∷ ns) (suc i) d ascends small same =
    let below : key_cmp n.key (get_or ns i d).key ≡ Less = key_of_all (λ k. key_cmp n.key k ≡ Less) ns i d (omega arith) ascends.0 in
    let less : key_cmp n.key key ≡ Less = sym (alike_right key_total (get_or ns i d).key key n.key same) ∙ below in
    ap (λ (o : Ordering). cond (is_eq o) (Some n) (record_at key ns)) less ∙ record_at-place key ns i d ascends.1 (omega arith) same

not_less_next : (nodes : List Node) (k : ℕ) (d : Node) → Ascends nodes → suc k < length nodes → is_lt (key_cmp (get_or nodes (suc k) d).key (get_or nodes k d).key) ≡ false
unfolding IsStrictlySortedBy
not_less_next [] k d ascends small = absurd (omega arith)
not_less_next (n ∷ ns) zero d ascends small =
    ap is_lt (less_back n.key (get_or ns 0 d).key (key_of_all (λ k. key_cmp n.key k ≡ Less) ns 0 d (omega arith) ascends.0))
not_less_next (n ∷ ns) (suc k) d ascends small = not_less_next ns k d ascends.1 (omega arith)

-- a binary search finds its way among them
pub searchable : (nodes : List Node) (key : Key) → Ascends nodes → IsNonDecreasingBy (λ n. ordering_index (key_cmp n.key key)) nodes
searchable nodes key ascends =
    searchable_from_sorted key_total (λ (n : Node). n.key) nodes key
    (λ k d low small. subst (λ (j : ℕ). is_lt (key_cmp (get_or nodes j d).key (get_or nodes k d).key) ≡ false) (sym (add-one k)) (not_less_next nodes k d ascends (omega arith)))

-- what holds of every key holds where one more comes in
all_with : (P : Key → Type 0) (node : Node) (nodes : List Node) → P node.key → AllByRecursion P (keys_of nodes) → AllByRecursion P (keys_of (with_record node nodes))
all_with P node [] one all = (one, tt)
all_with P node (n ∷ ns) one all = go (is_lt (key_cmp n.key node.key)) (all_with P node ns one all.1)
  where
    go : (b : Bool) → AllByRecursion P (keys_of (with_record node ns)) → AllByRecursion P (keys_of (cond b (n ∷ with_record node ns) (node ∷ n ∷ ns)))
    go true more = (all.0, more)
    go false more = (one, (all.0, all.1))

all_above : (low high : Key) (ks : List Key) → key_cmp low high ≡ Less → AllByRecursion (λ k. key_cmp high k ≡ Less) ks → AllByRecursion (λ k. key_cmp low k ≡ Less) ks
all_above low high [] less all = tt
all_above low high (k ∷ ks) less all = (key_total.trans low high k less all.0, all_above low high ks less all.1)

pub Ascends-with_record : (node : Node) (nodes : List Node) → Ascends nodes → record_at node.key nodes ≡ None → Ascends (with_record node nodes)
unfolding IsStrictlySortedBy
Ascends-with_record node [] ascends none = (tt, tt)
Ascends-with_record node (n ∷ ns) ascends none = go (key_cmp n.key node.key) refl none (Ascends-with_record node ns ascends.1)
  where
    go : (o : Ordering) → key_cmp n.key node.key ≡ o → cond (is_eq o) (Some n) (record_at node.key ns) ≡ None → (record_at node.key ns ≡ None → Ascends (with_record node ns))
        → Ascends (cond (is_lt o) (n ∷ with_record node ns) (node ∷ n ∷ ns))
    go Less e absent more = (all_with (λ k. key_cmp n.key k ≡ Less) node ns e ascends.0, more absent)
    go Equal e absent more = absurd (true≢false (ap is_some absent))
    go Greater e absent more =
        let less : key_cmp node.key n.key ≡ Less = greater_back n.key node.key e in
        ((less, all_above node.key n.key (keys_of ns) less ascends.0), ascends)

-- what holds of every key holds where records before a place are left out
all_kept : (P : Key → Type 0) (p : Node → Bool) (xs ys : List Node) → AllByRecursion P (keys_of (xs ++ ys)) → AllByRecursion P (keys_of (filter p xs ++ ys))
all_kept P p [] ys all = all
all_kept P p (x ∷ xs) ys all = go (p x) (all_kept P p xs ys all.1)
  where
    go : (b : Bool) → AllByRecursion P (keys_of (filter p xs ++ ys)) → AllByRecursion P (keys_of (cond b (x ∷ filter p xs) (filter p xs) ++ ys))
    go true more = (all.0, more)
    go false more = more

pub Ascends-kept : (p : Node → Bool) (xs ys : List Node) → Ascends (xs ++ ys) → Ascends (filter p xs ++ ys)
unfolding IsStrictlySortedBy
Ascends-kept p [] ys ascends = ascends
Ascends-kept p (x ∷ xs) ys ascends = go (p x) (Ascends-kept p xs ys ascends.1)
  where
    go : (b : Bool) → Ascends (filter p xs ++ ys) → Ascends (cond b (x ∷ filter p xs) (filter p xs) ++ ys)
    go true more = (all_kept (λ k. key_cmp x.key k ≡ Less) p xs ys ascends.0, more)
    go false more = more
