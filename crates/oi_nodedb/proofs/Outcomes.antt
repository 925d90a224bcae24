-- What each outcome of a call leaves.
use Rattle.std.proofs.Common.{◌≡◌, ℕ, suc, ◌+◌, ◌≤◌, ◌<◌, inl, inr, Bool, true, false, not, List, [], ◌∷◌, ◌++◌, Option, None, Result, Ok, Err, refl, sym, ap, ◌∙◌, subst, take, drop, insert, length, get_or, arith, add-one}
use Rattle.std.specs.List.{remove}
use Rattle.std.specs.List.Sorted.{IsStrictlySortedBy}
use Rattle.std.proofs.lemmas.List.{append-nil, append_assoc, drop_at, length-append, length-take-le, take-append-drop, take_at}
use Rattle.std.proofs.lemmas.List.Edits.{get_or-insert_at}
use Rattle.oi_base.specs.Counts.{told}
use Rattle.oi_names.specs.declared.session_key.SessionInfo.{SessionInfo}
use Rattle.oi_outside.specs.Records.{Records}
use Rattle.oi_outside.specs.Stores.{IsTallied, Puts}
use Rattle.oi_outside.specs.declared.store_error.StoreError.{StoreError}
use Rattle.oi_outside.specs.declared.store_error.StoreError.TheVariants.{Failed as StoreFailed, Memory as StoreMemory}
use Rattle.oi_settings.specs.Keys.{Key, key_cmp, path_text}
use Rattle.oi_settings.specs.Pairs.{Pair}
use Rattle.oi_settings.specs.Texts.{Node, text_of}
use Rattle.oi_nodedb.specs.declared.error.DbError.{DbError}
use Rattle.oi_nodedb.specs.declared.error.DbError.TheVariants.{BadName, BadValue, BadRecord, NoObjects, InUse, StoreFault, Memory}
use Rattle.oi_nodedb.specs.declared.filter.Filter.{Filter}
use Rattle.oi_nodedb.specs.Answers.{Adds, Changes, Checks, Deletes, Drops, IsCounted, IsFree, IsSetting, Updates, answer_of, finished}
use Rattle.oi_nodedb.specs.Databases.{Ascends, keys_of, left, record_at, updated, with_record}
use Rattle.oi_nodedb.specs.Filters.{matches, matching}
use Rattle.oi_nodedb.proofs.Orders.{Ascends-kept, Ascends-with_record}
use Rattle.oi_nodedb.proofs.Steps.{keys_of-updated}

-- what comes in and goes out again
pub remove-insert : (nodes : List Node) (i : ℕ) (node : Node) → i ≤ length nodes → remove (insert nodes i node) i ≡ nodes
remove-insert nodes i node within =
    ap (λ (ns : List Node). ns ++ drop (suc i) (take i nodes ++ node ∷ drop i nodes)) (take_at (take i nodes) (node ∷ drop i nodes) i long)
    ∙ ap (λ (ns : List Node). take i nodes ++ ns) tail ∙ take-append-drop i nodes
  where
    long : length (take i nodes) ≡ i
    long = length-take-le i nodes within

    tail : drop (suc i) (take i nodes ++ node ∷ drop i nodes) ≡ drop i nodes
    tail =
        ap (drop (suc i)) (sym (append_assoc (take i nodes) (node ∷ []) (drop i nodes)))
        ∙ drop_at (take i nodes ++ node ∷ []) (drop i nodes) (suc i) (length-append (take i nodes) (node ∷ []) ∙ ap (λ (m : ℕ). m + 1) long ∙ add-one i)

-- the record that was put in its place is the one that is read there
pub inserted_read : (nodes now : List Node) (i : ℕ) (node x : Node) → i ≤ length nodes → now ≡ insert nodes i node → x ≡ get_or now i x → x ≡ node
inserted_read nodes now i node x within is read = read ∙ ap (λ (ns : List Node). get_or ns i x) is ∙ get_or-insert_at nodes i node x within

pub node_is : (n : Node) (key : Key) (pairs : List Pair) → n.key ≡ key → n.pairs ≡ pairs → n ≡ record { key = key; pairs = pairs }
node_is n key pairs same alike i = record { key = same i; pairs = alike i }

-- a fault of the store, told as an answer
pub failed_count : (S T : Type 0) (e : StoreError) (d : DbError) (before now : ℕ) → d ≡ answer_of e → IsTallied {T = S} (Err e) before now → IsCounted {T = T} (Err d) before now
failed_count S T StoreFailed d before now is rose = subst (λ (x : DbError). IsCounted {T = T} (Err x) before now) (sym is) rose
failed_count S T StoreMemory d before now is same = subst (λ (x : DbError). IsCounted {T = T} (Err x) before now) (sym is) same

pub failed_add : (node : Node) (e : StoreError) (d : DbError) (old new : List Node) (was is : Option Records) → record_at node.key old ≡ None → new ≡ old
    → Puts (Err e) (path_text node.key) (text_of node.pairs) was is → d ≡ answer_of e → Adds node (Err d) old new was is
failed_add node StoreFailed d old new was is none same puts told = subst (λ (x : DbError). Adds node (Err x) old new was is) (sym told) (none, same, puts)
failed_add node StoreMemory d old new was is none same puts told = subst (λ (x : DbError). Adds node (Err x) old new was is) (sym told) (same, puts)

-- the records stay in order
pub Adds-ascends : (node : Node) (r : Result Bool DbError) (old new : List Node) (was is : Option Records) → Ascends old → Adds node r old new was is → Ascends new
Adds-ascends node (Ok true) old new was is ascends adds = subst (λ (ns : List Node). Ascends ns) (sym adds.1) (Ascends-with_record node old ascends adds.0)
Adds-ascends node (Ok false) old new was is ascends adds = subst (λ (ns : List Node). Ascends ns) (sym adds.1.0) ascends
Adds-ascends node (Err StoreFault) old new was is ascends adds = subst (λ (ns : List Node). Ascends ns) (sym adds.1) ascends
Adds-ascends node (Err Memory) old new was is ascends adds = subst (λ (ns : List Node). Ascends ns) (sym adds.0) ascends
Adds-ascends node (Err (BadName n)) old new was is ascends adds = absurd adds
Adds-ascends node (Err (BadValue n)) old new was is ascends adds = absurd adds
Adds-ascends node (Err (BadRecord p l)) old new was is ascends adds = absurd adds
Adds-ascends node (Err NoObjects) old new was is ascends adds = absurd adds
Adds-ascends node (Err (InUse s)) old new was is ascends adds = absurd adds

same_keys : (xs ys : List Node) → keys_of xs ≡ keys_of ys → Ascends ys → Ascends xs
same_keys xs ys same ascends = subst (λ (ks : List Key). IsStrictlySortedBy key_cmp ks) (sym same) ascends

Ascends-updated : (f : Filter) (name value : List ℕ) (xs ys : List Node) → Ascends (xs ++ ys) → Ascends (updated f name value xs ++ ys)
Ascends-updated f name value xs ys ascends = same_keys (updated f name value xs ++ ys) (xs ++ ys) (keys_of-updated f name value xs ys) ascends

pub Changes-ascends : (f : Filter) (name value : List ℕ) (r : Result (Unit {0}) StoreError) (old new : List Node) (was is : Option Records) → Ascends old → Changes f name value r old new was is → Ascends new
Changes-ascends f name value (Ok u) old new was is ascends changes =
    subst (λ (ns : List Node). Ascends ns) (sym (changes.0 ∙ sym (append-nil (updated f name value old))))
    (Ascends-updated f name value old [] (subst (λ (ns : List Node). Ascends ns) (sym (append-nil old)) ascends))
Changes-ascends f name value (Err e) old new was is ascends stops =
    subst (λ (ns : List Node). Ascends ns) (sym stops.value_is)
    (Ascends-updated f name value stops.front (stops.node ∷ stops.behind) (subst (λ (ns : List Node). Ascends ns) stops.whole ascends))

pub Drops-ascends : (f : Filter) (r : Result (Unit {0}) StoreError) (old new : List Node) (was is : Option Records) → Ascends old → Drops f r old new was is → Ascends new
Drops-ascends f (Ok u) old new was is ascends drops =
    subst (λ (ns : List Node). Ascends ns) (sym (drops.0 ∙ sym (append-nil (left f old))))
    (Ascends-kept (λ n. not (matches f n.key)) old [] (subst (λ (ns : List Node). Ascends ns) (sym (append-nil old)) ascends))
Drops-ascends f (Err e) old new was is ascends stops =
    subst (λ (ns : List Node). Ascends ns) (sym stops.value_is)
    (Ascends-kept (λ n. not (matches f n.key)) stops.front (stops.node ∷ stops.behind) (subst (λ (ns : List Node). Ascends ns) stops.whole ascends))

-- the same of equal records
pub Adds-same : (a b : Node) (r : Result Bool DbError) (old before new : List Node) (was is : Option Records) → a ≡ b → old ≡ before → Adds a r old new was is → Adds b r before new was is
Adds-same a b r old before new was is same alike adds =
    subst (λ (n : Node). Adds n r before new was is) same (subst (λ (ns : List Node). Adds a r ns new was is) alike adds)

-- an update of a bad name or value changes nothing
pub refused_update : (f : Filter) (name value : List ℕ) (d : DbError) (old : List Node) (was : Option Records) → Checks name value (Err d) → Updates f name value (Err d) old old was was
refused_update f name value (BadName n) old was checks = (checks.0, checks.1, (refl, refl))
refused_update f name value (BadValue n) old was checks = (checks.0, checks.1, checks.2, (refl, refl))
refused_update f name value Memory old was checks = inl (refl, refl)
refused_update f name value (BadRecord p l) old was checks = absurd checks
refused_update f name value NoObjects old was checks = absurd checks
refused_update f name value (InUse s) old was checks = absurd checks
refused_update f name value StoreFault old was checks = absurd checks

pub refused_count : (T : Type 0) (name value : List ℕ) (d : DbError) (before : ℕ) → Checks name value (Err d) → IsCounted {T = T} (Err d) before before
refused_count T name value (BadName n) before checks = refl
refused_count T name value (BadValue n) before checks = refl
refused_count T name value Memory before checks = refl
refused_count T name value (BadRecord p l) before checks = absurd checks
refused_count T name value NoObjects before checks = absurd checks
refused_count T name value (InUse s) before checks = absurd checks
refused_count T name value StoreFault before checks = absurd checks

-- an update or a deletion that went through the records, or stopped
pub Updates-from : (f : Filter) (name value : List ℕ) (r : Result (Unit {0}) StoreError) (meant : ℕ) (old new : List Node) (was is : Option Records) → IsSetting name value → 0 < length (matching f old)
    → meant ≡ length (matching f old) → Changes f name value r old new was is → Updates f name value (finished r meant) old new was is
Updates-from f name value (Ok u) meant old new was is setting some counted changes = (setting, some, ap told counted, changes.0, changes.1)
Updates-from f name value (Err StoreFailed) meant old new was is setting some counted stops = (setting, stops)
Updates-from f name value (Err StoreMemory) meant old new was is setting some counted stops = inr (setting, stops)

pub Deletes-from : (f : Filter) (living : List SessionInfo) (r : Result (Unit {0}) StoreError) (meant : ℕ) (old new : List Node) (was is : Option Records) → IsFree f living old
    → meant ≡ length (matching f old) → Drops f r old new was is → Deletes f living (finished r meant) old new was is
Deletes-from f living (Ok u) meant old new was is free counted drops = (free, ap told counted, drops.0, drops.1)
Deletes-from f living (Err StoreFailed) meant old new was is free counted stops = (free, stops)
Deletes-from f living (Err StoreMemory) meant old new was is free counted stops = inr (free, stops)

pub finished_count : (r : Result (Unit {0}) StoreError) (meant before now : ℕ) → IsTallied r before now → IsCounted (finished r meant) before now
finished_count (Ok u) meant before now same = same
finished_count (Err StoreFailed) meant before now rose = rose
finished_count (Err StoreMemory) meant before now same = same

-- what was counted
empty : (ns : List Node) → length ns ≡ 0 → ns ≡ []
empty [] e = refl
empty (n ∷ ns) e = absurd (omega (arith, e))

pub none_meant : (f : Filter) (a b : List Node) (n : ℕ) → a ≡ b → n ≡ length (matching f a) → n ≡ 0 → matching f b ≡ []
none_meant f a b n same counted is = empty (matching f b) (ap (λ (ns : List Node). length (matching f ns)) (sym same) ∙ sym counted ∙ is)

pub some_meant : (f : Filter) (a b : List Node) (n : ℕ) → a ≡ b → n ≡ length (matching f a) → n ≡ length (matching f b)
some_meant f a b n same counted = counted ∙ ap (λ (ns : List Node). length (matching f ns)) same

pub some_of : (n : ℕ) (ns : List Node) → n ≡ length ns → 0 < n → 0 < length ns
some_of n ns is some = subst (λ (m : ℕ). 0 < m) is some

pub gap_same : (a b : List Node) (at : ℕ) (n : Node) → a ≡ b → insert a at n ≡ with_record n a → insert b at n ≡ with_record n b
gap_same a b at n same gap = subst (λ (ns : List Node). insert ns at n ≡ with_record n ns) same gap

pub Updates-same : (f : Filter) (name value : List ℕ) (r s : Result ℕ DbError) (old before new : List Node) (was is : Option Records) → r ≡ s → old ≡ before → Updates f name value s old new was is
    → Updates f name value r before new was is
Updates-same f name value r s old before new was is same alike updates =
    subst (λ (x : Result ℕ DbError). Updates f name value x before new was is) (sym same) (subst (λ (ns : List Node). Updates f name value s ns new was is) alike updates)

pub Deletes-same : (f : Filter) (living : List SessionInfo) (r s : Result ℕ DbError) (old before new : List Node) (was is : Option Records) → r ≡ s → old ≡ before → Deletes f living s old new was is
    → Deletes f living r before new was is
Deletes-same f living r s old before new was is same alike deletes =
    subst (λ (x : Result ℕ DbError). Deletes f living x before new was is) (sym same) (subst (λ (ns : List Node). Deletes f living s ns new was is) alike deletes)

pub count_same : (r s : Result ℕ DbError) (before now : ℕ) → r ≡ s → IsCounted s before now → IsCounted r before now
count_same r s before now same counted = subst (λ (x : Result ℕ DbError). IsCounted x before now) (sym same) counted

pub Updates-named : (f : Filter) (m name v value : List ℕ) (r : Result ℕ DbError) (old new : List Node) (was is : Option Records) → m ≡ name → v ≡ value → Updates f m v r old new was is → Updates f name value r old new was is
Updates-named f m name v value r old new was is same alike updates =
    subst (λ (x : List ℕ). Updates f x value r old new was is) same (subst (λ (x : List ℕ). Updates f m x r old new was is) alike updates)
