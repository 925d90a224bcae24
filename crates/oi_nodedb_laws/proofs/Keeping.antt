-- The records stay in order and well formed.
use Rattle.std.proofs.Common.{◌≡◌, inl, inr, ℕ, Bool, true, false, cond, not, List, [], ◌∷◌, ◌++◌, Option, None, Result, Ok, Err, refl, sym, subst, filter}
use Rattle.std.specs.List.{All}
use Rattle.std.proofs.lemmas.List.{append-nil}
use Rattle.std.proofs.lemmas.List.Elements.{All-cons, All-head, All-tail}
use Rattle.oi_names.specs.declared.session_key.SessionInfo.{SessionInfo}
use Rattle.oi_outside.specs.Records.{Records}
use Rattle.oi_outside.specs.declared.store_error.StoreError.{StoreError}
use Rattle.oi_outside.specs.declared.store_error.StoreError.TheVariants.{Failed as StoreFailed, Memory as StoreMemory}
use Rattle.oi_settings.specs.Keys.{IsKey, Key}
use Rattle.oi_settings.specs.Pairs.{Pair, put}
use Rattle.oi_settings.specs.Schema.{fresh_pairs, row_named, table}
use Rattle.oi_settings.specs.Texts.{IsLine, IsNode, Node}
use Rattle.oi_settings.proofs.FreshPairs.{fresh_node}
use Rattle.oi_settings.proofs.Nodes.{node_either}
use Rattle.oi_settings.proofs.Tables.{open_is_no_part, open_line, takes_unknown, unknown_is_no_part}
use Rattle.oi_nodedb.specs.declared.error.DbError.{DbError}
use Rattle.oi_nodedb.specs.declared.error.DbError.TheVariants.{BadName, BadValue, BadRecord, NoObjects, InUse, StoreFault, Memory}
use Rattle.oi_nodedb.specs.declared.filter.Filter.{Filter}
use Rattle.oi_nodedb.specs.Answers.{Adds, Deletes, IsSetting, StopsDelete, StopsUpdate, Updates}
use Rattle.oi_nodedb.specs.Databases.{fresh, left, updated, with_record, with_value}
use Rattle.oi_nodedb.specs.Filters.{matches}
use Rattle.oi_nodedb.proofs.Loading.{All-with_record}
use Rattle.oi_nodedb.proofs.Marks.{marked_pairs}
use Rattle.oi_nodedb.proofs.Outcomes.{Adds-ascends, Changes-ascends, Drops-ascends}
use Rattle.oi_nodedb_laws.specs.Courses.{Call, Course, IsAllowed, IsDatabase, Leaves, marked, new_record, new_marked, update, delete}

abbrev AreNodes : List Node → Type 0
AreNodes ns = All (λ n. IsNode n) ns

-- ---- records that come in

marked_node : (key : Key) (name value : List ℕ) → IsKey key → IsLine name value → row_named name table ≡ None → IsNode (marked key name value)
marked_node key name value valid line none =
    let before : Node = fresh key in
    let behind : Node = record { key = key; pairs = put name value (fresh_pairs key) } in
    let is : (behind.key ≡ key) × (behind.pairs ≡ fresh_pairs key ++ (name, value) ∷ []) = marked_pairs behind before key name value name value none refl refl refl refl refl in
    subst (λ (ps : List Pair). IsNode record { key = key; pairs = ps }) is.1
    (node_either {E = Unit {0}} (Ok tt) key (fresh_pairs key) (put name value (fresh_pairs key)) name name value refl refl tt (fresh_node key valid) line (takes_unknown name value none)
    (unknown_is_no_part name none))

pub with_value_node : (name value : List ℕ) (n : Node) → IsSetting name value → IsNode n → IsNode (with_value name value n)
with_value_node name value n setting is =
    node_either {E = Unit {0}} (Ok tt) n.key n.pairs (put name value n.pairs) name name value refl refl tt is (open_line name value setting.0 setting.1) setting.1 (open_is_no_part name setting.0)

-- ---- lists of them

nodes_updated : (f : Filter) (name value : List ℕ) (xs ys : List Node) → IsSetting name value → AreNodes (xs ++ ys) → AreNodes (updated f name value xs ++ ys)
nodes_updated f name value [] ys setting each = each
nodes_updated f name value (x ∷ xs) ys setting each =
    All-cons (λ n. IsNode n) (cond (matches f x.key) (with_value name value x) x) (updated f name value xs ++ ys) (one (matches f x.key))
    (nodes_updated f name value xs ys setting (All-tail (λ n. IsNode n) x (xs ++ ys) each))
  where
    first : IsNode x
    first = All-head (λ n. IsNode n) x (xs ++ ys) each

    one : (b : Bool) → IsNode (cond b (with_value name value x) x)
    one true = with_value_node name value x setting first
    one false = first

nodes_kept : (p : Node → Bool) (xs ys : List Node) → AreNodes (xs ++ ys) → AreNodes (filter p xs ++ ys)
nodes_kept p [] ys each = each
nodes_kept p (x ∷ xs) ys each = go (p x) (nodes_kept p xs ys (All-tail (λ n. IsNode n) x (xs ++ ys) each))
  where
    go : (b : Bool) → AreNodes (filter p xs ++ ys) → AreNodes (cond b (x ∷ filter p xs) (filter p xs) ++ ys)
    go true more = All-cons (λ n. IsNode n) x (filter p xs ++ ys) (All-head (λ n. IsNode n) x (xs ++ ys) each) more
    go false more = more

same_nodes : (xs ys : List Node) → xs ≡ ys → AreNodes ys → AreNodes xs
same_nodes xs ys e each = subst (λ (ns : List Node). AreNodes ns) (sym e) each

whole_updated : (f : Filter) (name value : List ℕ) (ns : List Node) → IsSetting name value → AreNodes ns → AreNodes (updated f name value ns)
whole_updated f name value ns setting each =
    same_nodes (updated f name value ns) (updated f name value ns ++ []) (sym (append-nil (updated f name value ns)))
    (nodes_updated f name value ns [] setting (same_nodes (ns ++ []) ns (append-nil ns) each))

whole_left : (f : Filter) (ns : List Node) → AreNodes ns → AreNodes (left f ns)
whole_left f ns each =
    same_nodes (left f ns) (left f ns ++ []) (sym (append-nil (left f ns)))
    (nodes_kept (λ n. not (matches f n.key)) ns [] (same_nodes (ns ++ []) ns (append-nil ns) each))

-- ---- one call

adds_stay : (node : Node) (answer : Result Bool DbError) (old new : List Node) (was is : Option Records) → IsNode node → IsDatabase old → Adds node answer old new was is → IsDatabase new
adds_stay node answer old new was is valid base adds =
    record { ascends = Adds-ascends node answer old new was is base.ascends adds; each = nodes answer adds }
  where
    nodes : (answer : Result Bool DbError) → Adds node answer old new was is → AreNodes new
    nodes (Ok true) adds = same_nodes new (with_record node old) adds.1 (All-with_record (λ n. IsNode n) node old valid base.each)
    nodes (Ok false) adds = same_nodes new old adds.1.0 base.each
    nodes (Err StoreFault) adds = same_nodes new old adds.1 base.each
    nodes (Err Memory) adds = same_nodes new old adds.0 base.each
    nodes (Err (BadName n)) adds = absurd adds
    nodes (Err (BadValue n)) adds = absurd adds
    nodes (Err (BadRecord p l)) adds = absurd adds
    nodes (Err NoObjects) adds = absurd adds
    nodes (Err (InUse s)) adds = absurd adds

same_base : (new old : List Node) → new ≡ old → IsDatabase old → IsDatabase new
same_base new old e base = subst (λ (ns : List Node). IsDatabase ns) (sym e) base

update_stops : (f : Filter) (name value : List ℕ) (e : StoreError) (old new : List Node) (was is : Option Records) → IsSetting name value → IsDatabase old
    → StopsUpdate f name value e old new was is → IsDatabase new
update_stops f name value e old new was is setting base stops = record {
  ascends = Changes-ascends f name value (Err e) old new was is base.ascends stops;
  each =
      same_nodes new (updated f name value stops.front ++ stops.node ∷ stops.behind) stops.value_is
      (nodes_updated f name value stops.front (stops.node ∷ stops.behind) setting (same_nodes (stops.front ++ stops.node ∷ stops.behind) old (sym stops.whole) base.each));
}

updates_stay : (f : Filter) (name value : List ℕ) (answer : Result ℕ DbError) (old new : List Node) (was is : Option Records) → IsDatabase old
    → Updates f name value answer old new was is → IsDatabase new
updates_stay f name value (Ok n) old new was is base updates = record {
  ascends = Changes-ascends f name value (Ok tt) old new was is base.ascends (updates.3, updates.4);
  each = same_nodes new (updated f name value old) updates.3 (whole_updated f name value old updates.0 base.each);
}
updates_stay f name value (Err StoreFault) old new was is base updates = update_stops f name value StoreFailed old new was is updates.0 base updates.1
updates_stay f name value (Err Memory) old new was is base (inl same) = same_base new old same.0 base
updates_stay f name value (Err Memory) old new was is base (inr stops) = update_stops f name value StoreMemory old new was is stops.0 base stops.1
updates_stay f name value (Err (BadName n)) old new was is base updates = same_base new old updates.2.0 base
updates_stay f name value (Err (BadValue n)) old new was is base updates = same_base new old updates.3.0 base
updates_stay f name value (Err NoObjects) old new was is base updates = same_base new old updates.2.0 base
updates_stay f name value (Err (BadRecord p l)) old new was is base updates = absurd updates
updates_stay f name value (Err (InUse s)) old new was is base updates = absurd updates

delete_stops : (f : Filter) (e : StoreError) (old new : List Node) (was is : Option Records) → IsDatabase old → StopsDelete f e old new was is → IsDatabase new
delete_stops f e old new was is base stops = record {
  ascends = Drops-ascends f (Err e) old new was is base.ascends stops;
  each =
      same_nodes new (left f stops.front ++ stops.node ∷ stops.behind) stops.value_is
      (nodes_kept (λ n. not (matches f n.key)) stops.front (stops.node ∷ stops.behind) (same_nodes (stops.front ++ stops.node ∷ stops.behind) old (sym stops.whole) base.each));
}

deletes_stay : (f : Filter) (living : List SessionInfo) (answer : Result ℕ DbError) (old new : List Node) (was is : Option Records) → IsDatabase old
    → Deletes f living answer old new was is → IsDatabase new
deletes_stay f living (Ok n) old new was is base deletes = record {
  ascends = Drops-ascends f (Ok tt) old new was is base.ascends (deletes.2, deletes.3);
  each = same_nodes new (left f old) deletes.2 (whole_left f old base.each);
}
deletes_stay f living (Err StoreFault) old new was is base deletes = delete_stops f StoreFailed old new was is base deletes.1
deletes_stay f living (Err Memory) old new was is base (inl same) = same_base new old same.0 base
deletes_stay f living (Err Memory) old new was is base (inr stops) = delete_stops f StoreMemory old new was is base stops.1
deletes_stay f living (Err NoObjects) old new was is base deletes = same_base new old deletes.1.0 base
deletes_stay f living (Err (InUse s)) old new was is base deletes = same_base new old deletes.1.0 base
deletes_stay f living (Err (BadName n)) old new was is base deletes = absurd deletes
deletes_stay f living (Err (BadValue n)) old new was is base deletes = absurd deletes
deletes_stay f living (Err (BadRecord p l)) old new was is base deletes = absurd deletes

call_stays : (c : Call) (old new : List Node) (was is : Option Records) → IsAllowed c → IsDatabase old → Leaves c old new was is → IsDatabase new
call_stays (new_record key answer) old new was is allowed base leaves = adds_stay (fresh key) answer old new was is (fresh_node key allowed) base leaves
call_stays (new_marked key name value answer) old new was is allowed base leaves =
    adds_stay (marked key name value) answer old new was is (marked_node key name value allowed.0 allowed.1 allowed.2) base leaves
call_stays (update f name value answer) old new was is allowed base leaves = updates_stay f name value answer old new was is base leaves
call_stays (delete f living answer) old new was is allowed base leaves = deletes_stay f living answer old new was is base leaves

-- ---- calls in a row

pub course_stays : (calls : List Call) (old new : List Node) (was is : Option Records) → Course calls old new was is → IsDatabase old → IsDatabase new
course_stays [] old new was is course base = same_base new old course.0 base
course_stays (c ∷ cs) old new was is course base =
    call_stays c course.0 new course.1 is course.3 (course_stays cs old course.0 was course.1 course.2 base) course.4
