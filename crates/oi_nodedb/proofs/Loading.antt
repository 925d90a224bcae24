-- How far a load has come.
use Rattle.std.proofs.Common.{◌≡◌, ◌⊎◌, inl, inr, ℕ, zero, suc, ◌+◌, ◌<◌, ◌≤◌, Bool, true, false, true≢false, cond, List, [], ◌∷◌, ◌++◌, Option, Some, None, is_some, unwrap_or, Result, Ok, Err, refl, sym, ap, ◌∙◌, subst, take, drop, length, get_or, arith}
use Rattle.std.specs.Prelude.{IsTrue, ◌↔◌}
use Rattle.std.specs.Str.{IsUtf8}
use Rattle.std.specs.Cmp.Lexicographic.{slice_cmp, nat_list_cmp_total}
use Rattle.std.specs.Cmp.{Equal-is}
use Rattle.std.specs.List.{All, AllByRecursion, Contains}
use Rattle.std.specs.List.Sorted.{IsStrictlySortedBy}
use Rattle.std.specs.Ordering.{is_eq, is_lt, nat_cmp, ordering_reverse}
use Rattle.std.specs.declared.cmp.Ordering.{Ordering}
use Rattle.std.specs.declared.cmp.Ordering.TheVariants.{Less}
use Rattle.std.proofs.lemmas.Cmp.{tied_itself}
use Rattle.std.proofs.lemmas.List.{append_assoc, drop_more, take-append-drop, take_all, take_more}
use Rattle.std.proofs.lemmas.List.Elements.{All-contains, All-cons, All-head, All-nil, All-tail, All-weaker, Contains-append_cases, Contains-append_left, Contains-append_right, Contains-push, Contains-push_cases}
use Rattle.std.proofs.lemmas.Map.Views.{All-after_first, All-before_last}
use Rattle.oi_outside.specs.Records.{Records, lookup, paths}
use Rattle.oi_outside.specs.Stores.{IsToldAt}
use Rattle.oi_outside.proofs.Records.{Contains-paths}
use Rattle.oi_settings.specs.Keys.{Key, key_cmp, path_text}
use Rattle.oi_settings.specs.Texts.{IsStored, Node}
use Rattle.oi_settings.proofs.Paths.{order_apart}
use Rattle.oi_nodedb.specs.declared.error.DbError.{DbError}
use Rattle.oi_nodedb.specs.declared.error.DbError.TheVariants.{BadName, BadValue, BadRecord, NoObjects, InUse, StoreFault, Memory}
use Rattle.oi_nodedb.specs.Databases.{Ascends, record_at, with_record}
use Rattle.oi_nodedb.specs.Loads.{IsFirstBad, IsLoaded, IsNodePath, IsReadAs, IsRecordAt, Loads, ReadsAt}
use Rattle.oi_nodedb.proofs.Orders.{Ascends-with_record, record_at-absent}

abbrev path_cmp : List ℕ → List ℕ → Ordering
path_cmp = slice_cmp nat_cmp

abbrev AscendPaths : List (List ℕ) → Type 0
AscendPaths ps = IsStrictlySortedBy path_cmp ps

-- a part of ascending paths ascends
front_all : (P : List ℕ → Type 0) (xs ys : List (List ℕ)) → AllByRecursion P (xs ++ ys) → AllByRecursion P xs
front_all P [] ys all = tt
front_all P (x ∷ xs) ys all = (all.0, front_all P xs ys all.1)

pub front_ascends : (xs ys : List (List ℕ)) → AscendPaths (xs ++ ys) → AscendPaths xs
unfolding IsStrictlySortedBy
front_ascends [] ys ascends = tt
front_ascends (x ∷ xs) ys ascends = (front_all (λ y. path_cmp x y ≡ Less) xs ys ascends.0, front_ascends xs ys ascends.1)

pub back_ascends : (xs ys : List (List ℕ)) → AscendPaths (xs ++ ys) → AscendPaths ys
unfolding IsStrictlySortedBy
back_ascends [] ys ascends = ascends
back_ascends (x ∷ xs) ys ascends = back_ascends xs ys ascends.1

not_itself : (p : List ℕ) → path_cmp p p ≡ Less → ⊥
not_itself p less = true≢false (ap is_lt (sym less ∙ tied_itself nat_list_cmp_total p))

not_both : (p q : List ℕ) → path_cmp p q ≡ Less → path_cmp q p ≡ Less → ⊥
not_both p q less more = true≢false (ap is_lt (sym less ∙ nat_list_cmp_total.antisymm p q ∙ ap ordering_reverse more))

one_only : {X : Type 0} (x y : X) → Contains (x ∷ []) y → x ≡ y
one_only x y (k, small, is) = go k small is
  where
    go : (k : ℕ) → k < 1 → get_or (x ∷ []) k y ≡ y → x ≡ y
    go zero small is = is
    go (suc k) small is = absurd (omega arith)

-- what is below a path is in front of it
pub in_front : (front : List (List ℕ)) (p : List ℕ) (rest : List (List ℕ)) (q : List ℕ) → AscendPaths (front ++ p ∷ rest) → Contains (front ++ p ∷ rest) q → path_cmp q p ≡ Less → Contains front q
in_front front p rest q ascends there less = elim (Contains-append_cases front (p ∷ rest) q there) [
  | inl here ↦ here
  | inr behind ↦ absurd (elim (Contains-append_cases (p ∷ []) rest q behind) [
    | inl same ↦ not_itself p (subst (λ (x : List ℕ). path_cmp x p ≡ Less) (sym (one_only p q same)) less)
    | inr later ↦ not_both p q (All-contains (λ x. path_cmp p x ≡ Less) rest q (All-after_first path_cmp p rest (back_ascends front (p ∷ rest) ascends)) later) less
  ])
]

-- a record among others
pub contains_rest : {X : Type 0} (x : X) (xs : List X) (y : X) → Contains xs y → Contains (x ∷ xs) y
contains_rest x xs y c = Contains-append_right (x ∷ []) xs y c

pub contains_first : {X : Type 0} (x : X) (xs : List X) → Contains (x ∷ xs) x
contains_first x xs = Contains-append_left (x ∷ []) xs x (Contains-push [] x)

pub contains_cases : {X : Type 0} (x : X) (xs : List X) (y : X) → Contains (x ∷ xs) y → (x ≡ y) ⊎ Contains xs y
contains_cases x xs y c = elim (Contains-append_cases (x ∷ []) xs y c) [ inl one ↦ inl (one_only x y one) | inr more ↦ inr more ]

pub with_record-itself : (node : Node) (nodes : List Node) → Contains (with_record node nodes) node
with_record-itself node [] = contains_first node []
with_record-itself node (n ∷ ns) = go (is_lt (key_cmp n.key node.key)) (with_record-itself node ns)
  where
    go : (b : Bool) → Contains (with_record node ns) node → Contains (cond b (n ∷ with_record node ns) (node ∷ n ∷ ns)) node
    go true more = contains_rest n (with_record node ns) node more
    go false more = contains_first node (n ∷ ns)

pub with_record-others : (node : Node) (nodes : List Node) (x : Node) → Contains nodes x → Contains (with_record node nodes) x
with_record-others node [] x c = contains_rest node [] x c
with_record-others node (n ∷ ns) x c = go (is_lt (key_cmp n.key node.key)) (with_record-others node ns x)
  where
    go : (b : Bool) → (Contains ns x → Contains (with_record node ns) x) → Contains (cond b (n ∷ with_record node ns) (node ∷ n ∷ ns)) x
    go true more = elim (contains_cases n ns x c) [
      | inl same ↦ subst (λ (y : Node). Contains (n ∷ with_record node ns) y) same (contains_first n (with_record node ns))
      | inr later ↦ contains_rest n (with_record node ns) x (more later)
    ]
    go false more = contains_rest node (n ∷ ns) x c

pub All-with_record : (P : Node → Type 0) (node : Node) (nodes : List Node) → P node → All P nodes → All P (with_record node nodes)
All-with_record P node [] one all = All-cons P node [] one all
All-with_record P node (n ∷ ns) one all = go (is_lt (key_cmp n.key node.key)) (All-with_record P node ns one (All-tail P n ns all))
  where
    go : (b : Bool) → All P (with_record node ns) → All P (cond b (n ∷ with_record node ns) (node ∷ n ∷ ns))
    go true more = All-cons P n (with_record node ns) (All-head P n ns all) more
    go false more = All-cons P node (n ∷ ns) one all

-- the records of these paths are there
pub record IsPassed (passed : List (List ℕ)) (was : Option Records) (nodes : List Node) : Type 0 where
  pub ascends : Ascends nodes
  pub named : All (λ n. Contains passed (path_text n.key)) nodes
  pub stored : All (λ n. (text : List ℕ) × IsStored text n × IsToldAt was (path_text n.key) (Some text)) nodes
  pub all : (path : List ℕ) → Contains passed path → IsNodePath path
      → IsToldAt was path None ⊎ ((text : List ℕ) × (n : Node) × Contains nodes n × IsRecordAt path text n × IsToldAt was path (Some text))

pub passed_none : (was : Option Records) → IsPassed [] was []
unfolding IsStrictlySortedBy
passed_none was = record {
  ascends = tt;
  named = All-nil (λ n. Contains [] (path_text n.key));
  stored = All-nil (λ n. (text : List ℕ) × IsStored text n × IsToldAt was (path_text n.key) (Some text));
  all = λ path (k, small, is) front. absurd (omega (arith, small));
}

pub passed_over : (passed : List (List ℕ)) (p : List ℕ) (was : Option Records) (nodes : List Node) → IsPassed passed was nodes → (IsNodePath p → IsToldAt was p None) → IsPassed (passed ++ p ∷ []) was nodes
passed_over passed p was nodes so_far none = record {
  ascends = so_far.ascends;
  named = All-weaker (λ n. Contains passed (path_text n.key)) (λ n. Contains (passed ++ p ∷ []) (path_text n.key)) (λ n c. Contains-append_left passed (p ∷ []) (path_text n.key) c) nodes so_far.named;
  stored = so_far.stored;
  all = λ path c front. elim (Contains-push_cases passed p path c) [
    | inl before ↦ so_far.all path before front
    | inr same ↦ inl (subst (λ (x : List ℕ). IsNodePath x → IsToldAt was x None) same none front)
  ];
}

pub passed_one : (passed : List (List ℕ)) (p text : List ℕ) (node : Node) (was : Option Records) (nodes : List Node) → IsPassed passed was nodes → IsRecordAt p text node → IsToldAt was p (Some text)
    → record_at node.key nodes ≡ None → IsPassed (passed ++ p ∷ []) was (with_record node nodes)
passed_one passed p text node was nodes so_far is told new = record {
  ascends = Ascends-with_record node nodes so_far.ascends new;
  named =
      All-with_record (λ n. Contains (passed ++ p ∷ []) (path_text n.key)) node nodes (subst (λ (x : List ℕ). Contains (passed ++ p ∷ []) x) is.0 (Contains-push passed p))
      (All-weaker (λ n. Contains passed (path_text n.key)) (λ n. Contains (passed ++ p ∷ []) (path_text n.key)) (λ n c. Contains-append_left passed (p ∷ []) (path_text n.key) c) nodes so_far.named);
  stored =
      All-with_record (λ n. (t : List ℕ) × IsStored t n × IsToldAt was (path_text n.key) (Some t)) node nodes
      (text, is.1, subst (λ (x : List ℕ). IsToldAt was x (Some text)) is.0 told) so_far.stored;
  all = λ path c front. elim (Contains-push_cases passed p path c) [
    | inl before ↦ go path (so_far.all path before front)
    | inr same ↦ inr (subst (λ (x : List ℕ). Found x) same (text, node, with_record-itself node nodes, is, told))
  ];
}
  where
    Found : List ℕ → Type 0
    Found path = (t : List ℕ) × (n : Node) × Contains (with_record node nodes) n × IsRecordAt path t n × IsToldAt was path (Some t)

    go : (path : List ℕ) → IsToldAt was path None ⊎ ((t : List ℕ) × (n : Node) × Contains nodes n × IsRecordAt path t n × IsToldAt was path (Some t)) → IsToldAt was path None ⊎ Found path
    go path (inl none) = inl none
    go path (inr found) = inr (found.0, found.1, with_record-others node nodes found.1 found.2, found.3, found.4)

-- a path that was not passed has the record of a new key
pub new_key : (passed : List (List ℕ)) (p text : List ℕ) (node : Node) (was : Option Records) (nodes : List Node) → AscendPaths (passed ++ p ∷ []) → IsPassed passed was nodes → IsRecordAt p text node
    → record_at node.key nodes ≡ None
new_key passed p text node was nodes ascends so_far is = record_at-absent node.key nodes (λ k d small. apart (get_or nodes k d) (so_far.named k d small))
  where
    apart : (n : Node) → Contains passed (path_text n.key) → is_eq (key_cmp n.key node.key) ≡ false
    apart n there = go (is_eq (key_cmp n.key node.key)) refl
      where
        go : (b : Bool) → is_eq (key_cmp n.key node.key) ≡ b → is_eq (key_cmp n.key node.key) ≡ false
        go false e = e
        go true e =
            let same : n.key ≡ node.key = order_apart n.key node.key ((Equal-is (key_cmp n.key node.key)).0 e) in
            let at : path_text n.key ≡ p = ap (λ (k : Key). path_text k) same ∙ sym is.0 in
            absurd (not_itself p (All-contains (λ q. path_cmp q p ≡ Less) passed p (All-before_last path_cmp passed p ascends) (subst (λ (x : List ℕ). Contains passed x) at there)))

same_Some : (v w : List ℕ) → ◌≡◌ {A = Option (List ℕ)} (Some v) (Some w) → v ≡ w
same_Some v w e = ap (λ (o : Option (List ℕ)). unwrap_or o []) e

-- all paths were passed
pub loaded : (found : List (List ℕ)) (was : Option Records) (nodes : List Node) (records : Records) → IsPassed found was nodes → was ≡ Some records → found ≡ paths records → IsLoaded records nodes
loaded found was nodes records so_far told listed = record {
  each =
      All-weaker (λ n. (text : List ℕ) × IsStored text n × IsToldAt was (path_text n.key) (Some text)) (λ n. (text : List ℕ) × (lookup records (path_text n.key) ≡ Some text) × IsStored text n)
      (λ n (text, is, at). (text, at records told, is)) nodes so_far.stored;
  all = λ path text front there.
      let in_list : Contains found path = subst (λ (ps : List (List ℕ)). Contains ps path) (sym listed) (Contains-paths records path (ap is_some there)) in
      elim (so_far.all path in_list front) [
        | inl none ↦ absurd (true≢false (ap is_some (sym there ∙ none records told)))
        | inr one ↦ (one.1, one.2, subst (λ (t : List ℕ). IsRecordAt path t one.1) (same_Some one.0 text (sym (one.4 records told) ∙ there)) one.3)
      ];
}

-- the first bad one
pub first_bad : (front : List (List ℕ)) (p : List ℕ) (rest : List (List ℕ)) (was is : Option Records) (nodes : List Node) (named : List ℕ) (line : ℕ) (records : Records)
    → AscendPaths (front ++ p ∷ rest) → IsPassed front was nodes → ReadsAt p (Err (BadRecord named line)) was is → was ≡ Some records → front ++ p ∷ rest ≡ paths records → IsFirstBad records named line
first_bad front p rest was is nodes named line records ascends so_far (same, named_is, node_path, (text, bad, at)) told listed = subst (λ (x : List ℕ). IsFirstBad records x line) (sym named_is) record {
  text = text;
  node_path = node_path;
  there = at records told;
  bad = bad;
  first = λ other stored other_front less there.
      let in_list : Contains (front ++ p ∷ rest) other = subst (λ (ps : List (List ℕ)). Contains ps other) (sym listed) (Contains-paths records other (ap is_some there)) in
      elim (so_far.all other (in_front front p rest other ascends in_list less) other_front) [
        | inl none ↦ absurd (true≢false (ap is_some (sym there ∙ none records told)))
        | inr one ↦ (one.1, subst (λ (t : List ℕ). IsRecordAt other t one.1) (same_Some one.0 stored (sym (one.4 records told) ∙ there)) one.3)
      ];
}

-- one path more
module _ (found : List (List ℕ)) (i : ℕ) (p : List ℕ) (small : i < length found) (read : p ≡ get_or found i p) (was : Option Records) (nodes : List Node) where
  pub parted_at : found ≡ take i found ++ p ∷ drop (i + 1) found
  parted_at = sym (take-append-drop i found) ∙ ap (λ (ps : List (List ℕ)). take i found ++ ps) (drop_more found i p small) ∙ ap (λ (x : List ℕ). take i found ++ x ∷ drop (i + 1) found) (sym read)

  next_front : take (i + 1) found ≡ take i found ++ p ∷ []
  next_front = take_more found i p small ∙ ap (λ (x : List ℕ). take i found ++ x ∷ []) (sym read)

  ascends_to : AscendPaths found → AscendPaths (take i found ++ p ∷ [])
  ascends_to ascends =
      front_ascends (take i found ++ p ∷ []) (drop (i + 1) found)
      (subst (λ (ps : List (List ℕ)). AscendPaths ps) (parted_at ∙ sym (append_assoc (take i found) (p ∷ []) (drop (i + 1) found))) ascends)

  pub step_over : IsPassed (take i found) was nodes → (IsNodePath p → IsToldAt was p None) → IsPassed (take (i + 1) found) was nodes
  step_over so_far none = subst (λ (ps : List (List ℕ)). IsPassed ps was nodes) (sym next_front) (passed_over (take i found) p was nodes so_far none)

  pub is_new : (text : List ℕ) (node : Node) → AscendPaths found → IsPassed (take i found) was nodes → IsRecordAt p text node → record_at node.key nodes ≡ None
  is_new text node ascends so_far is = new_key (take i found) p text node was nodes (ascends_to ascends) so_far is

  pub step_one : (text : List ℕ) (node : Node) (more : List Node) → AscendPaths found → IsPassed (take i found) was nodes → IsRecordAt p text node → IsToldAt was p (Some text) → more ≡ with_record node nodes
      → IsPassed (take (i + 1) found) was more
  step_one text node more ascends so_far is told taken =
      subst (λ (ns : List Node). IsPassed (take (i + 1) found) was ns) (sym taken)
      (subst (λ (ps : List (List ℕ)). IsPassed ps was (with_record node nodes)) (sym next_front)
      (passed_one (take i found) p text node was nodes so_far is told (is_new text node ascends so_far is)))

  pub stopped : (is : Option Records) (d : DbError) → AscendPaths found → ((records : Records) → was ≡ Some records → found ≡ paths records) → IsPassed (take i found) was nodes → ReadsAt p (Err d) was is → Loads (Err d) was is
  stopped is (BadRecord named line) ascends listed so_far reads = (
    reads.0,
    λ records told.
        first_bad (take i found) p (drop (i + 1) found) was is nodes named line records (subst (λ (ps : List (List ℕ)). AscendPaths ps) parted_at ascends) so_far reads told (sym parted_at ∙ listed records told),
  )
  stopped is StoreFault ascends listed so_far reads = reads
  stopped is Memory ascends listed so_far reads = reads
  stopped is (BadName n) ascends listed so_far reads = absurd reads
  stopped is (BadValue n) ascends listed so_far reads = absurd reads
  stopped is NoObjects ascends listed so_far reads = absurd reads
  stopped is (InUse s) ascends listed so_far reads = absurd reads

-- what was read of a store that is as it was
pub ReadsAt-from : (p : List ℕ) (r : Result (Option Node) DbError) (mid was is : Option Records) → mid ≡ was → ReadsAt p r mid is → ReadsAt p r was is
ReadsAt-from p r mid was is same reads = subst (λ (o : Option Records). ReadsAt p r o is) same reads

pub ReadsAt-found : (p : List ℕ) (o q : Option Node) (mid was is : Option Records) → mid ≡ was → o ≡ q → ReadsAt p (Ok o) mid is → ReadsAt p (Ok q) was is
ReadsAt-found p o q mid was is same found reads = subst (λ (x : Option Node). ReadsAt p (Ok x) was is) found (ReadsAt-from p (Ok o) mid was is same reads)

pub all_passed : (found : List (List ℕ)) (n : ℕ) (was : Option Records) (nodes : List Node) → length found ≤ n → IsPassed (take n found) was nodes → IsPassed found was nodes
all_passed found n was nodes all so_far = subst (λ (ps : List (List ℕ)). IsPassed ps was nodes) (take_all n found all) so_far

-- what the list says of the paths
pub listed_text : (found ps : List (List ℕ)) (i : ℕ) (p : List ℕ) → found ≡ ps → All IsUtf8 ps → i < length found → p ≡ get_or found i p → IsUtf8 p
listed_text found ps i p same texts small read =
    subst (λ (x : List ℕ). IsUtf8 x) (sym read) (subst (λ (qs : List (List ℕ)). All IsUtf8 qs) (sym same) texts i p small)

pub listed_ascend : (found ps : List (List ℕ)) → found ≡ ps → AscendPaths ps → AscendPaths found
listed_ascend found ps same ascends = subst (λ (qs : List (List ℕ)). AscendPaths qs) (sym same) ascends

-- a text and its path
pub told_text : (was : Option Records) (p q : List ℕ) (o : Option (List ℕ)) (x : Option (List ℕ)) → q ≡ p → o ≡ x → ((records : Records) → was ≡ Some records → o ≡ lookup records q) → IsToldAt was p x
told_text was p q o x same is finds records told = ap (lookup records) (sym same) ∙ sym (finds records told) ∙ is

pub same_path : (r : Bool) (a p q b : List ℕ) → (IsTrue r ↔ (a ≡ b)) → b ≡ p → r ≡ true → a ≡ q → p ≡ q
same_path r a p q b tested named is own = sym (tested.0 is ∙ named) ∙ own

pub other_path : (r : Bool) (a p q b : List ℕ) → (IsTrue r ↔ (a ≡ b)) → b ≡ p → r ≡ false → a ≡ q → p ≡ q → ⊥
other_path r a p q b tested named is own same = true≢false (sym (tested.1 (own ∙ sym same ∙ sym named)) ∙ is)

pub bad_path : (path text : List ℕ) (n : Node) (d : DbError) → IsStored text n → (path ≡ path_text n.key → ⊥) → (d ≡ Memory) ⊎ (d ≡ BadRecord path 0) → IsReadAs path text (Err d)
bad_path path text n d is apart (inl e) = subst (λ (x : DbError). IsReadAs path text (Err x)) (sym e) tt
bad_path path text n d is apart (inr e) = subst (λ (x : DbError). IsReadAs path text (Err x)) (sym e) (refl, inr (refl, (n, is, apart)))

pub read_as : (path t text : List ℕ) (n : Node) → t ≡ text → IsRecordAt path t n → IsRecordAt path text n
read_as path t text n same is = subst (λ (x : List ℕ). IsRecordAt path x n) same is

pub listed_paths : (found ps : List (List ℕ)) (was : Option Records) → found ≡ ps → ((records : Records) → was ≡ Some records → ps ≡ paths records) → (records : Records) → was ≡ Some records → found ≡ paths records
listed_paths found ps was same listed records told = same ∙ listed records told
