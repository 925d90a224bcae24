-- The store follows the value: path by path, and as a whole.
use Rattle.std.proofs.Common.{◌≡◌, ◌⊎◌, inl, inr, ℕ, Bool, true, false, true≢false, not, cond, List, [], ◌∷◌, Option, Some, None, unwrap_or, Ok, Err, refl, sym, ap, ◌∙◌, subst, map, filter, get_or, arith, bytes_eq}
use Rattle.std.specs.List.{All, AllByRecursion, Contains}
use Rattle.std.specs.List.Sorted.{IsStrictlySortedBy}
use Rattle.std.specs.Ordering.{is_eq, is_lt}
use Rattle.std.specs.declared.cmp.Ordering.TheVariants.{Less}
use Rattle.std.proofs.lemmas.Cmp.{tied_itself}
use Rattle.std.proofs.lemmas.List.{append-nil}
use Rattle.std.proofs.lemmas.List.Elements.{All-cons, All-contains, All-head, All-nil, All-tail, Contains-get_or}
use Rattle.std.proofs.lemmas.Slice.Eq.{bytes_eq-Decides}
use Rattle.oi_outside.specs.Records.{Records, lookup}
use Rattle.oi_outside.specs.Stores.{IsToldAt, told_at, told_with, told_without}
use Rattle.oi_outside.specs.declared.store_error.StoreError.TheVariants.{Failed as StoreFailed}
use Rattle.oi_outside.proofs.Records.{without_path-here}
use Rattle.oi_outside.proofs.Stores.{IsToldAt-kept, Puts-here, Puts-others, Removes-others}
use Rattle.oi_settings.specs.KeyOrder.{key_total}
use Rattle.oi_settings.specs.Keys.{IsKey, Key, key_cmp, path_text}
use Rattle.oi_settings.specs.Pairs.{put}
use Rattle.oi_settings.specs.Texts.{IsNode, IsStored, Node, text_of}
use Rattle.oi_settings.proofs.Nodes.{node_either}
use Rattle.oi_settings.proofs.Paths.{one_path}
use Rattle.oi_settings.proofs.Stops.{node_stored, stored_node}
use Rattle.oi_settings.proofs.Tables.{open_is_no_part, open_line}
use Rattle.oi_nodedb.specs.declared.filter.Filter.{Filter}
use Rattle.oi_names.specs.declared.session_key.SessionInfo.{SessionInfo}
use Rattle.oi_nodedb.specs.Answers.{Adds, Deletes, IsSetting, Updates}
use Rattle.oi_nodedb.specs.Databases.{Ascends, changed, keys_of, left, record_at, told_removed, told_texts, updated, with_record, with_value, with_value_where}
use Rattle.oi_nodedb.specs.Filters.{matches, matching}
use Rattle.oi_nodedb.specs.Loads.{IsLoaded, IsNodePath, IsRecordAt}
use Rattle.oi_nodedb.proofs.Loading.{All-with_record, contains_cases, contains_first, contains_rest, with_record-itself, with_record-others}
use Rattle.oi_nodedb.proofs.Orders.{Ascends-kept}

-- the path is not that of the record
abbrev Apart : List ℕ → Node → Type 0
Apart q n = q ≡ path_text n.key → ⊥

less_apart : (a b : Key) → key_cmp a b ≡ Less → a ≡ b → ⊥
less_apart a b less same = true≢false (ap is_lt (sym less ∙ sym (ap (key_cmp a) same) ∙ tied_itself key_total a))

-- records behind one in the order have other paths
apart_behind : (n : Node) (ns : List Node) → AllByRecursion (λ k. key_cmp n.key k ≡ Less) (keys_of ns) → IsKey n.key → All (λ m. IsKey m.key) ns → All (Apart (path_text n.key)) ns
apart_behind n [] all valid keys = All-nil (Apart (path_text n.key))
apart_behind n (m ∷ ms) all valid keys =
    All-cons (Apart (path_text n.key)) m ms (λ same. less_apart n.key m.key all.0 (one_path n.key m.key valid (All-head (λ x. IsKey x.key) m ms keys) same))
    (apart_behind n ms all.1 valid (All-tail (λ x. IsKey x.key) m ms keys))

-- a path of none of the records is as before
pub put_elsewhere : (q : List ℕ) (nodes : List Node) (o : Option Records) → All (Apart q) nodes → told_at (told_texts o nodes) q ≡ told_at o q
put_elsewhere q [] o apart = refl
put_elsewhere q (n ∷ ns) o apart =
    put_elsewhere q ns (told_with o (path_text n.key) (text_of n.pairs)) (All-tail (Apart q) n ns apart)
    ∙ Puts-others (Ok tt) (path_text n.key) (text_of n.pairs) q o (told_with o (path_text n.key) (text_of n.pairs)) (All-head (Apart q) n ns apart) refl

pub gone_elsewhere : (q : List ℕ) (nodes : List Node) (o : Option Records) → All (Apart q) nodes → told_at (told_removed o nodes) q ≡ told_at o q
gone_elsewhere q [] o apart = refl
gone_elsewhere q (n ∷ ns) o apart =
    gone_elsewhere q ns (told_without o (path_text n.key)) (All-tail (Apart q) n ns apart)
    ∙ Removes-others (Err StoreFailed) (path_text n.key) q o (told_without o (path_text n.key)) (All-head (Apart q) n ns apart) (inr refl)

here_gone : (o : Option Records) (p : List ℕ) → IsToldAt (told_without o p) p None
here_gone None p n e = let bad : ◌≡◌ {A = Option Records} None (Some n) = e in cc
here_gone (Some m) p n e = ap (λ (x : Option Records). lookup (unwrap_or x m) p) (sym e) ∙ without_path-here m p

-- the text of each record is at its path
pub put_there : (nodes : List Node) (o : Option Records) → Ascends nodes → All (λ n. IsKey n.key) nodes → All (λ n. IsToldAt (told_texts o nodes) (path_text n.key) (Some (text_of n.pairs))) nodes
unfolding IsStrictlySortedBy
put_there [] o ascends keys = All-nil (λ n. IsToldAt o (path_text n.key) (Some (text_of n.pairs)))
put_there (n ∷ ns) o ascends keys =
    let next : Option Records = told_with o (path_text n.key) (text_of n.pairs) in
    All-cons (λ m. IsToldAt (told_texts next ns) (path_text m.key) (Some (text_of m.pairs))) n ns
    (IsToldAt-kept (path_text n.key) (Some (text_of n.pairs)) next (told_texts next ns)
    (put_elsewhere (path_text n.key) ns next (apart_behind n ns ascends.0 (All-head (λ m. IsKey m.key) n ns keys) (All-tail (λ m. IsKey m.key) n ns keys)))
    (Puts-here tt (path_text n.key) (text_of n.pairs) o next refl))
    (put_there ns next ascends.1 (All-tail (λ m. IsKey m.key) n ns keys))

-- and none where it was taken away
pub gone_there : (nodes : List Node) (o : Option Records) → Ascends nodes → All (λ n. IsKey n.key) nodes → All (λ n. IsToldAt (told_removed o nodes) (path_text n.key) None) nodes
unfolding IsStrictlySortedBy
gone_there [] o ascends keys = All-nil (λ n. IsToldAt o (path_text n.key) None)
gone_there (n ∷ ns) o ascends keys =
    let next : Option Records = told_without o (path_text n.key) in
    All-cons (λ m. IsToldAt (told_removed next ns) (path_text m.key) None) n ns
    (IsToldAt-kept (path_text n.key) None next (told_removed next ns)
    (gone_elsewhere (path_text n.key) ns next (apart_behind n ns ascends.0 (All-head (λ m. IsKey m.key) n ns keys) (All-tail (λ m. IsKey m.key) n ns keys)))
    (here_gone o (path_text n.key)))
    (gone_there ns next ascends.1 (All-tail (λ m. IsKey m.key) n ns keys))

-- elements of filtered and mapped lists
none_in : {X : Type 0} (x : X) → Contains [] x → ⊥
none_in x (k, small, is) = omega (arith, small)

contains_map : {X Y : Type 0} (f : X → Y) (xs : List X) (x : X) → Contains xs x → Contains (map f xs) (f x)
contains_map f [] x c = absurd (none_in x c)
contains_map f (y ∷ ys) x c = elim (contains_cases y ys x c) [
  | inl same ↦ subst (λ z. Contains (f y ∷ map f ys) (f z)) same (contains_first (f y) (map f ys))
  | inr later ↦ contains_rest (f y) (map f ys) (f x) (contains_map f ys x later)
]

from_map : {X Y : Type 0} (f : X → Y) (xs : List X) (y : Y) → Contains (map f xs) y → (x : X) × Contains xs x × (f x ≡ y)
from_map f [] y c = absurd (none_in y c)
from_map f (x ∷ xs) y c = elim (contains_cases (f x) (map f xs) y c) [
  | inl same ↦ (x, contains_first x xs, same)
  | inr later ↦ let found = from_map f xs y later in (found.0, contains_rest x xs found.0 found.1, found.2)
]

contains_filter : (p : Node → Bool) (xs : List Node) (x : Node) → Contains xs x → p x ≡ true → Contains (filter p xs) x
contains_filter p [] x c passes = absurd (none_in x c)
contains_filter p (y ∷ ys) x c passes = elim (contains_cases y ys x c) [
  | inl same ↦
      subst (λ (b : Bool). Contains (cond b (y ∷ filter p ys) (filter p ys)) x) (sym (ap p same ∙ passes)) (subst (λ (z : Node). Contains (y ∷ filter p ys) z) same (contains_first y (filter p ys)))
  | inr later ↦ go (p y) (contains_filter p ys x later passes)
]
  where
    go : (b : Bool) → Contains (filter p ys) x → Contains (cond b (y ∷ filter p ys) (filter p ys)) x
    go true more = contains_rest y (filter p ys) x more
    go false more = more

from_filter : (p : Node → Bool) (xs : List Node) (x : Node) → Contains (filter p xs) x → Contains xs x × (p x ≡ true)
from_filter p [] x c = absurd (none_in x c)
from_filter p (y ∷ ys) x c = go (p y) refl c (from_filter p ys x)
  where
    go : (b : Bool) → p y ≡ b → Contains (cond b (y ∷ filter p ys) (filter p ys)) x → (Contains (filter p ys) x → Contains ys x × (p x ≡ true)) → Contains (y ∷ ys) x × (p x ≡ true)
    go true e c more = elim (contains_cases y (filter p ys) x c) [
      | inl same ↦ (subst (λ (z : Node). Contains (y ∷ ys) z) same (contains_first y ys), ap p (sym same) ∙ e)
      | inr later ↦ let found = more later in (contains_rest y ys x found.0, found.1)
    ]
    go false e c more = let found = more c in (contains_rest y ys x found.0, found.1)

each_of : (P : Node → Type 0) (xs : List Node) → ((x : Node) → Contains xs x → P x) → All P xs
each_of P xs holds k d small = holds (get_or xs k d) (Contains-get_or xs k d small)

-- the path is that of one of the records, or of none
among : (q : List ℕ) (ns : List Node) → ((n : Node) × Contains ns n × (q ≡ path_text n.key)) ⊎ All (Apart q) ns
among q [] = inr (All-nil (Apart q))
among q (n ∷ ns) = go (bytes_eq q (path_text n.key)) refl (among q ns)
  where
    go : (b : Bool) → bytes_eq q (path_text n.key) ≡ b → ((m : Node) × Contains ns m × (q ≡ path_text m.key)) ⊎ All (Apart q) ns
        → ((m : Node) × Contains (n ∷ ns) m × (q ≡ path_text m.key)) ⊎ All (Apart q) (n ∷ ns)
    go true e rest = inl (n, contains_first n ns, (bytes_eq-Decides q (path_text n.key)).0 e)
    go false e (inl found) = inl (found.0, contains_rest n ns found.0 found.1, found.2)
    go false e (inr apart) = inr (All-cons (Apart q) n ns (λ same. true≢false (sym ((bytes_eq-Decides q (path_text n.key)).1 same) ∙ e)) apart)

Held : Records → Node → Type 0
Held m n = (text : List ℕ) × (lookup m (path_text n.key) ≡ Some text) × IsStored text n

same_lookup : (m n : Records) (q : List ℕ) (o : Option Records) → Some n ≡ o → told_at o q ≡ told_at (Some m) q → lookup n q ≡ lookup m q
same_lookup m n q o is same =
    let at : ◌≡◌ {A = Option (Option (List ℕ))} (Some (lookup n q)) (Some (lookup m q)) = ap (λ (x : Option Records). told_at x q) is ∙ same in
    ap (λ (x : Option (Option (List ℕ))). unwrap_or x None) at

same_Some : (v w : List ℕ) → ◌≡◌ {A = Option (List ℕ)} (Some v) (Some w) → v ≡ w
same_Some v w e = ap (λ (o : Option (List ℕ)). unwrap_or o []) e

Ascends-matching : (f : Filter) (nodes : List Node) → Ascends nodes → Ascends (matching f nodes)
Ascends-matching f nodes ascends =
    subst (λ (ns : List Node). Ascends ns) (append-nil (matching f nodes))
    (Ascends-kept (λ n. matches f n.key) nodes [] (subst (λ (ns : List Node). Ascends ns) (sym (append-nil nodes)) ascends))

keys_with : (name value : List ℕ) (ns : List Node) → keys_of (map (with_value name value) ns) ≡ keys_of ns
keys_with name value [] = refl
keys_with name value (n ∷ ns) = ap (λ (ks : List Key). n.key ∷ ks) (keys_with name value ns)

-- a store that the records agree with
module _ (m : Records) (old : List Node) (ascends : Ascends old) (loaded : IsLoaded m old) where
  held : (x : Node) → Contains old x → Held m x
  unfolding Held
  held x c = All-contains (λ n. (text : List ℕ) × (lookup m (path_text n.key) ≡ Some text) × IsStored text n) old x loaded.each c

  valid : (x : Node) → Contains old x → IsKey x.key
  unfolding Held
  valid x c = (held x c).2.valid

  node : (x : Node) → Contains old x → IsNode x
  unfolding Held
  node x c = stored_node (held x c).0 x (held x c).2

  -- records with one path have one key
  one_key_at : (x y : Node) → Contains old x → Contains old y → path_text x.key ≡ path_text y.key → x.key ≡ y.key
  one_key_at x y c d same = one_path x.key y.key (valid x c) (valid y d) same

  -- a new record
  module _ (n : Records) (added : Node) (is_node : IsNode added) (new_key : record_at added.key old ≡ None) (after : Some n ≡ told_with (Some m) (path_text added.key) (text_of added.pairs)) where
    add_here : lookup n (path_text added.key) ≡ Some (text_of added.pairs)
    add_here = Puts-here tt (path_text added.key) (text_of added.pairs) (Some m) (Some n) after n refl

    add_other : (q : List ℕ) → (q ≡ path_text added.key → ⊥) → lookup n q ≡ lookup m q
    add_other q apart = same_lookup m n q (Some n) refl (Puts-others (Ok tt) (path_text added.key) (text_of added.pairs) q (Some m) (Some n) apart after)

    not_there : (nodes : List Node) → record_at added.key nodes ≡ None → (x : Node) → Contains nodes x → x.key ≡ added.key → ⊥
    not_there [] none x c same = none_in x c
    not_there (y ∷ ys) none x c same = go (is_eq (key_cmp y.key added.key)) refl none (not_there ys)
      where
        go : (b : Bool) → is_eq (key_cmp y.key added.key) ≡ b → cond b (Some y) (record_at added.key ys) ≡ None
            → (record_at added.key ys ≡ None → (z : Node) → Contains ys z → z.key ≡ added.key → ⊥) → ⊥
        go true e absent more = let bad : ◌≡◌ {A = Option Node} (Some y) None = absent in cc
        go false e absent more = elim (contains_cases y ys x c) [
          | inl one ↦ true≢false (sym (ap is_eq (tied_itself key_total added.key)) ∙ ap (λ (k : Key). is_eq (key_cmp k added.key)) (sym same ∙ ap (λ (z : Node). z.key) (sym one)) ∙ e)
          | inr later ↦ more absent x later same
        ]

    pub add_agrees : IsLoaded n (with_record added old)
    unfolding Held
    add_agrees = record {
      each =
          All-with_record (λ x. (text : List ℕ) × (lookup n (path_text x.key) ≡ Some text) × IsStored text x) added old (text_of added.pairs, add_here, node_stored added is_node)
          (each_of (λ x. (text : List ℕ) × (lookup n (path_text x.key) ≡ Some text) × IsStored text x) old (λ x c.
          let h = held x c in
          (h.0, add_other (path_text x.key) (λ same. not_there old new_key x c (one_path x.key added.key (valid x c) is_node.valid same)) ∙ h.1, h.2)));
      all = λ path text front there. go path text front there (bytes_eq path (path_text added.key)) refl;
    }
      where
        go : (path text : List ℕ) → IsNodePath path → lookup n path ≡ Some text → (b : Bool) → bytes_eq path (path_text added.key) ≡ b
            → (x : Node) × Contains (with_record added old) x × IsRecordAt path text x
        go path text front there true e =
            let same : path ≡ path_text added.key = (bytes_eq-Decides path (path_text added.key)).0 e in
            let is : text_of added.pairs ≡ text = same_Some (text_of added.pairs) text (sym add_here ∙ ap (lookup n) (sym same) ∙ there) in
            (added, with_record-itself added old, (same, subst (λ (t : List ℕ). IsStored t added) is (node_stored added is_node)))
        go path text front there false e =
            let apart : path ≡ path_text added.key → ⊥ = λ same. true≢false (sym ((bytes_eq-Decides path (path_text added.key)).1 same) ∙ e) in
            let found = loaded.all path text front (sym (add_other path apart) ∙ there) in
            (found.0, with_record-others added old found.0 found.1, found.2)

  -- an update
  module _ (n : Records) (f : Filter) (name value : List ℕ) (setting : IsSetting name value) (after : Some n ≡ told_texts (Some m) (changed f name value old)) where
    meant_old : (x : Node) → Contains (matching f old) x → Contains old x × (matches f x.key ≡ true)
    meant_old x c = from_filter (λ y. matches f y.key) old x c

    changed_from : (c : Node) → Contains (changed f name value old) c → (x : Node) × Contains (matching f old) x × (with_value name value x ≡ c)
    changed_from c is_in = from_map (with_value name value) (matching f old) c is_in

    with_value_node : (x : Node) → Contains old x → IsNode (with_value name value x)
    with_value_node x c = node_either {E = Unit {0}} (Ok tt) x.key x.pairs (put name value x.pairs) name name value refl refl tt (node x c) (open_line name value setting.0 setting.1) setting.1 (open_is_no_part name setting.0)

    changed_valid : All (λ c. IsKey c.key) (changed f name value old)
    changed_valid =
        each_of (λ c. IsKey c.key) (changed f name value old) (λ c is_in.
        let x = changed_from c is_in in
        subst (λ (y : Node). IsKey y.key) x.2 (valid x.0 (meant_old x.0 x.1).0))

    changed_ascends : Ascends (changed f name value old)
    changed_ascends = subst (λ (ks : List Key). IsStrictlySortedBy key_cmp ks) (sym (keys_with name value (matching f old))) (Ascends-matching f old ascends)

    at_changed : (c : Node) → Contains (changed f name value old) c → lookup n (path_text c.key) ≡ Some (text_of c.pairs)
    at_changed c is_in =
        All-contains (λ x. IsToldAt (told_texts (Some m) (changed f name value old)) (path_text x.key) (Some (text_of x.pairs))) (changed f name value old) c
        (put_there (changed f name value old) (Some m) changed_ascends changed_valid) is_in n (sym after)

    at_other : (q : List ℕ) → All (Apart q) (changed f name value old) → lookup n q ≡ lookup m q
    at_other q apart = same_lookup m n q (told_texts (Some m) (changed f name value old)) after (put_elsewhere q (changed f name value old) (Some m) apart)

    not_changed : (x : Node) → Contains old x → matches f x.key ≡ false → All (Apart (path_text x.key)) (changed f name value old)
    not_changed x c other =
        each_of (Apart (path_text x.key)) (changed f name value old) (λ d is_in same.
        let y = changed_from d is_in in
        let in_old = meant_old y.0 y.1 in
        let keys : x.key ≡ y.0.key = one_key_at x y.0 c in_old.0 (same ∙ ap (λ (z : Node). path_text z.key) (sym y.2)) in
        true≢false (sym in_old.1 ∙ ap (matches f) (sym keys) ∙ other))

    meant_in : (x : Node) → Contains old x → matches f x.key ≡ true → Contains (changed f name value old) (with_value name value x)
    meant_in x c is = contains_map (with_value name value) (matching f old) x (contains_filter (λ y. matches f y.key) old x c is)

    kept_in : (x : Node) → Contains old x → (b : Bool) → matches f x.key ≡ b → Contains (updated f name value old) (cond b (with_value name value x) x)
    kept_in x c b is =
        subst (λ (d : Bool). Contains (updated f name value old) (cond d (with_value name value x) x)) is (contains_map (with_value_where f name value) old x c)

    held_after : (x : Node) → Contains old x → (b : Bool) → matches f x.key ≡ b → Held n (cond b (with_value name value x) x)
    unfolding Held
    held_after x c true is = (text_of (with_value name value x).pairs, at_changed (with_value name value x) (meant_in x c is), node_stored (with_value name value x) (with_value_node x c))
    held_after x c false is = let h = held x c in (h.0, at_other (path_text x.key) (not_changed x c is) ∙ h.1, h.2)

    pub update_agrees : IsLoaded n (updated f name value old)
    unfolding Held
    update_agrees = record {
      each =
          each_of (λ x. (text : List ℕ) × (lookup n (path_text x.key) ≡ Some text) × IsStored text x) (updated f name value old) (λ y is_in.
          let x = from_map (with_value_where f name value) old y is_in in
          subst (λ (z : Node). Held n z) x.2 (held_after x.0 x.1 (matches f x.0.key) refl));
      all = λ path text front there. go path text front there (among path (changed f name value old));
    }
      where
        go : (path text : List ℕ) → IsNodePath path → lookup n path ≡ Some text → ((c : Node) × Contains (changed f name value old) c × (path ≡ path_text c.key)) ⊎ All (Apart path) (changed f name value old)
            → (x : Node) × Contains (updated f name value old) x × IsRecordAt path text x
        go path text front there (inl (c, is_in, same)) =
            let x = changed_from c is_in in
            let in_old = meant_old x.0 x.1 in
            let is : text_of c.pairs ≡ text = same_Some (text_of c.pairs) text (sym (at_changed c is_in) ∙ ap (lookup n) (sym same) ∙ there) in
            let stored : IsStored (text_of c.pairs) c = subst (λ (z : Node). IsStored (text_of z.pairs) z) x.2 (node_stored (with_value name value x.0) (with_value_node x.0 in_old.0)) in (
              c,
              subst (λ (z : Node). Contains (updated f name value old) z) x.2 (kept_in x.0 in_old.0 true in_old.1),
              (same, subst (λ (t : List ℕ). IsStored t c) is stored),
            )
        go path text front there (inr apart) =
            let found = loaded.all path text front (sym (at_other path apart) ∙ there) in
            by_match found.0 found.1 found.2 (matches f found.0.key) refl
          where
            by_match : (x : Node) → Contains old x → IsRecordAt path text x → (b : Bool) → matches f x.key ≡ b → (y : Node) × Contains (updated f name value old) y × IsRecordAt path text y
            by_match x c is true meant = absurd (All-contains (Apart path) (changed f name value old) (with_value name value x) apart (meant_in x c meant) is.0)
            by_match x c is false other = (x, kept_in x c false other, is)

  -- a deletion
  module _ (n : Records) (f : Filter) (after : Some n ≡ told_removed (Some m) (matching f old)) where
    meant : (x : Node) → Contains (matching f old) x → Contains old x × (matches f x.key ≡ true)
    meant x c = from_filter (λ y. matches f y.key) old x c

    matching_valid : All (λ x. IsKey x.key) (matching f old)
    matching_valid = each_of (λ x. IsKey x.key) (matching f old) (λ x c. valid x (meant x c).0)

    at_gone : (x : Node) → Contains (matching f old) x → lookup n (path_text x.key) ≡ None
    at_gone x c =
        All-contains (λ y. IsToldAt (told_removed (Some m) (matching f old)) (path_text y.key) None) (matching f old) x
        (gone_there (matching f old) (Some m) (Ascends-matching f old ascends) matching_valid) c n (sym after)

    at_left : (q : List ℕ) → All (Apart q) (matching f old) → lookup n q ≡ lookup m q
    at_left q apart = same_lookup m n q (told_removed (Some m) (matching f old)) after (gone_elsewhere q (matching f old) (Some m) apart)

    not_gone : (x : Node) → Contains old x → matches f x.key ≡ false → All (Apart (path_text x.key)) (matching f old)
    not_gone x c other =
        each_of (Apart (path_text x.key)) (matching f old) (λ y is_in same.
        let in_old = meant y is_in in
        true≢false (sym in_old.1 ∙ ap (matches f) (sym (one_key_at x y c in_old.0 same)) ∙ other))

    pub delete_agrees : IsLoaded n (left f old)
    unfolding Held
    delete_agrees = record {
      each =
          each_of (λ x. (text : List ℕ) × (lookup n (path_text x.key) ≡ Some text) × IsStored text x) (left f old) (λ x is_in.
          let from = from_filter (λ y. not (matches f y.key)) old x is_in in
          let h = held x from.0 in
          (h.0, at_left (path_text x.key) (not_gone x from.0 (not_true (matches f x.key) from.1)) ∙ h.1, h.2));
      all = λ path text front there. go path text front there (among path (matching f old));
    }
      where
        not_true : (b : Bool) → not b ≡ true → b ≡ false
        not_true true e = absurd (true≢false (sym e))
        not_true false e = refl

        go : (path text : List ℕ) → IsNodePath path → lookup n path ≡ Some text → ((x : Node) × Contains (matching f old) x × (path ≡ path_text x.key)) ⊎ All (Apart path) (matching f old)
            → (x : Node) × Contains (left f old) x × IsRecordAt path text x
        go path text front there (inl (x, is_in, same)) =
            let bad : ◌≡◌ {A = Option (List ℕ)} None (Some text) = sym (at_gone x is_in) ∙ ap (lookup n) (sym same) ∙ there in cc
        go path text front there (inr apart) =
            let found = loaded.all path text front (sym (at_left path apart) ∙ there) in
            by_match found.0 found.1 found.2 (matches f found.0.key) refl
          where
            by_match : (x : Node) → Contains old x → IsRecordAt path text x → (b : Bool) → matches f x.key ≡ b → (y : Node) × Contains (left f old) y × IsRecordAt path text y
            by_match x c is true meant_is = absurd (All-contains (Apart path) (matching f old) x apart (contains_filter (λ y. matches f y.key) old x c meant_is) is.0)
            by_match x c is false other = (x, contains_filter (λ y. not (matches f y.key)) old x c (ap not other), is)

-- what the calls of the database do, where they are accepted
pub after_add : (added : Node) (b : Bool) (old new : List Node) (m n : Records) → IsNode added → Ascends old → IsLoaded m old → Adds added (Ok b) old new (Some m) (Some n) → IsLoaded n new
after_add added true old new m n is_node ascends loaded adds =
    subst (λ (ns : List Node). IsLoaded n ns) (sym adds.1) (add_agrees m old ascends loaded n added is_node adds.0 adds.2)
after_add added false old new m n is_node ascends loaded adds =
    subst (λ (ns : List Node). IsLoaded n ns) (sym adds.1.0) (subst (λ (r : Records). IsLoaded r old) (ap (λ (o : Option Records). unwrap_or o m) (sym adds.1.1)) loaded)

pub after_update : (f : Filter) (name value : List ℕ) (count : ℕ) (old new : List Node) (m n : Records) → Ascends old → IsLoaded m old → Updates f name value (Ok count) old new (Some m) (Some n) → IsLoaded n new
after_update f name value count old new m n ascends loaded updates =
    subst (λ (ns : List Node). IsLoaded n ns) (sym updates.3) (update_agrees m old ascends loaded n f name value updates.0 updates.4)

pub after_delete : (f : Filter) (living : List SessionInfo) (count : ℕ) (old new : List Node) (m n : Records) → Ascends old → IsLoaded m old → Deletes f living (Ok count) old new (Some m) (Some n) → IsLoaded n new
after_delete f living count old new m n ascends loaded deletes =
    subst (λ (ns : List Node). IsLoaded n ns) (sym deletes.2) (delete_agrees m old ascends loaded n f deletes.3)
