-- What the value has behind calls.
use Rattle.std.proofs.Common.{◌≡◌, ◌∙◌, inl, inr, ℕ, Bool, true, false, true≢false, cond, not, List, [], ◌∷◌, ◌++◌, Option, Some, None, Result, Ok, Err, refl, sym, ap, subst, map, bytes_eq}
use Rattle.std.specs.Option.{option_map}
use Rattle.std.specs.Ordering.{is_lt}
use Rattle.std.proofs.lemmas.List.{append-nil}
use Rattle.oi_names.specs.declared.session_key.SessionInfo.{SessionInfo}
use Rattle.oi_outside.specs.Records.{Records}
use Rattle.oi_outside.specs.declared.store_error.StoreError.{StoreError}
use Rattle.oi_outside.specs.declared.store_error.StoreError.TheVariants.{Failed as StoreFailed, Memory as StoreMemory}
use Rattle.oi_settings.specs.Keys.{IsKey, key_cmp, path_text}
use Rattle.oi_settings.specs.Texts.{Node}
use Rattle.oi_nodedb.specs.declared.error.DbError.{DbError}
use Rattle.oi_nodedb.specs.declared.error.DbError.TheVariants.{BadName, BadValue, BadRecord, NoObjects, InUse, StoreFault, Memory}
use Rattle.oi_nodedb.specs.declared.filter.Filter.{Filter}
use Rattle.oi_nodedb.specs.Answers.{Adds, Deletes, StopsDelete, StopsUpdate, Updates}
use Rattle.oi_nodedb.specs.Databases.{changed, fresh, left, updated, with_record, with_value}
use Rattle.oi_nodedb.specs.Filters.{matches, matching}
use Rattle.oi_nodedb_laws.specs.Courses.{Call, Course, IsAllowed, IsDatabase, Leaves, marked, new_record, new_marked, update, delete}
use Rattle.oi_nodedb_laws.specs.Laws.{Has}
use Rattle.oi_nodedb_laws.specs.Touches.{Change, Touch, added, change_of, delete_took, gone, holds, if_failed, if_taken, if_written, record_on, took, took_to, touched, touched_last, untouched, update_wrote, wrote, wrote_to}
use Rattle.oi_nodedb_laws.proofs.Apart.{AreApart, database_apart, none_in_front, none_kept, none_matching, none_on, on_with, same_path}
use Rattle.oi_nodedb_laws.proofs.Keeping.{course_stays}

-- ---- one change behind another

then_written : (r : Option Node) (t : Touch) (a b c : Option Node) → Has t a b → Has (if_written r untouched) b c → Has (if_written r t) a c
then_written None t a b c before now = subst (λ (d : Option Node). Has t a d) (sym now) before
then_written (Some n) t a b c before now = now

then_taken : (r : Option Node) (t : Touch) (a b c : Option Node) → Has t a b → Has (if_taken r untouched) b c → Has (if_taken r t) a c
then_taken None t a b c before now = subst (λ (d : Option Node). Has t a d) (sym now) before
then_taken (Some n) t a b c before now = now

-- a change in which the store failed is none
not_made : (failed : Bool) (change past : Touch) (a b : Option Node) → Has past a b → Has (if_failed failed change past) a b
not_made false change past a b has = has
not_made true change past a b has = has

was_not_made : (failed : Bool) (change past : Touch) (a b : Option Node) → Has (if_failed failed change past) a b → Has past a b
was_not_made false change past a b has = has
was_not_made true change past a b has = has

behind : (q : List ℕ) (change : Change) (t : Touch) (a b c : Option Node) → Has t a b → Has (touched q change untouched) b c → Has (touched q change t) a c
behind q (wrote ns) t a b c before now = then_written (record_on q ns) t a b c before now
behind q (wrote_to ns n) t a b c before now =
    not_made (bytes_eq q (path_text n.key)) (holds n) (if_written (record_on q ns) t) a c
    (then_written (record_on q ns) t a b c before (was_not_made (bytes_eq q (path_text n.key)) (holds n) (if_written (record_on q ns) untouched) b c now))
behind q (took ns) t a b c before now = then_taken (record_on q ns) t a b c before now
behind q (took_to ns n) t a b c before now =
    not_made (bytes_eq q (path_text n.key)) gone (if_taken (record_on q ns) t) a c
    (then_taken (record_on q ns) t a b c before (was_not_made (bytes_eq q (path_text n.key)) gone (if_taken (record_on q ns) untouched) b c now))

-- ---- the records behind a change

-- a new record
added_on : (q : List ℕ) (node : Node) (ns : List Node) → record_on (path_text node.key) ns ≡ None
    → Has (if_written (record_on q (node ∷ [])) untouched) (record_on q ns) (record_on q (with_record node ns))
added_on q node [] none = go (bytes_eq q (path_text node.key))
  where
    go : (b : Bool) → Has (if_written (cond b (Some node) None) untouched) None (cond b (Some node) None)
    go true = refl
    go false = refl
added_on q node (n ∷ ns) none =
    go (is_lt (key_cmp n.key node.key)) (bytes_eq q (path_text node.key)) (bytes_eq q (path_text n.key)) refl refl (bytes_eq (path_text node.key) (path_text n.key)) refl none (added_on q node ns)
  where
    go : (b c d : Bool) → bytes_eq q (path_text node.key) ≡ c → bytes_eq q (path_text n.key) ≡ d → (e : Bool) → bytes_eq (path_text node.key) (path_text n.key) ≡ e
        → cond e (Some n) (record_on (path_text node.key) ns) ≡ None
        → (record_on (path_text node.key) ns ≡ None → Has (if_written (cond c (Some node) None) untouched) (record_on q ns) (record_on q (with_record node ns)))
        → Has (if_written (cond c (Some node) None) untouched) (cond d (Some n) (record_on q ns)) (record_on q (cond b (n ∷ with_record node ns) (node ∷ n ∷ ns)))
    go b c d here there true same absent more = let bad : ◌≡◌ {A = Option Node} (Some n) None = absent in cc
    go true true true here there false same absent more =
        let path : q ≡ path_text node.key = same_path q (path_text node.key) here in
        absurd (true≢false (sym there ∙ ap (λ (p : List ℕ). bytes_eq p (path_text n.key)) path ∙ same))
    go true true false here there false same absent more = ap (λ (x : Bool). cond x (Some n) (record_on q (with_record node ns))) there ∙ more absent
    go true false true here there false same absent more = ap (λ (x : Bool). cond x (Some n) (record_on q (with_record node ns))) there
    go true false false here there false same absent more = ap (λ (x : Bool). cond x (Some n) (record_on q (with_record node ns))) there ∙ more absent
    go false true d here there false same absent more = ap (λ (x : Bool). cond x (Some node) (record_on q (n ∷ ns))) here
    go false false d here there false same absent more =
        ap (λ (x : Bool). cond x (Some node) (record_on q (n ∷ ns))) here ∙ ap (λ (x : Bool). cond x (Some n) (record_on q ns)) there

-- an update, up to the tail
updated_on : (f : Filter) (name value : List ℕ) (q : List ℕ) (xs ys : List Node) → AreApart (xs ++ ys)
    → Has (if_written (record_on q (changed f name value xs)) untouched) (record_on q (xs ++ ys)) (record_on q (updated f name value xs ++ ys))
updated_on f name value q [] ys apart = refl
updated_on f name value q (x ∷ xs) ys apart = go (matches f x.key) (bytes_eq q (path_text x.key)) refl (updated_on f name value q xs ys apart.1)
  where
    go : (b c : Bool) → bytes_eq q (path_text x.key) ≡ c → Has (if_written (record_on q (changed f name value xs)) untouched) (record_on q (xs ++ ys)) (record_on q (updated f name value xs ++ ys))
        → Has (if_written (record_on q (map (with_value name value) (cond b (x ∷ matching f xs) (matching f xs)))) untouched) (cond c (Some x) (record_on q (xs ++ ys)))
        (record_on q (cond b (with_value name value x) x ∷ (updated f name value xs ++ ys)))
    go true true here more =
        subst (λ (d : Bool). Has (if_written (cond d (Some (with_value name value x)) (record_on q (changed f name value xs))) untouched) (Some x) (cond d (Some (with_value name value x)) (record_on q (updated f name value xs ++ ys)))) (sym here) refl
    go true false here more =
        subst (λ (d : Bool). Has (if_written (cond d (Some (with_value name value x)) (record_on q (changed f name value xs))) untouched) (record_on q (xs ++ ys)) (cond d (Some (with_value name value x)) (record_on q (updated f name value xs ++ ys)))) (sym here) more
    go false true here more =
        let path : q ≡ path_text x.key = same_path q (path_text x.key) here in
        let none : record_on q xs ≡ None = none_in_front q xs ys (ap (λ (p : List ℕ). record_on p (xs ++ ys)) path ∙ apart.0) in
        let unchanged : record_on q (changed f name value xs) ≡ None = on_with name value q (matching f xs) ∙ ap (λ (r : Option Node). option_map (with_value name value) r) (none_matching f q xs none) in
        subst (λ (r : Option Node). Has (if_written r untouched) (Some x) (record_on q (x ∷ (updated f name value xs ++ ys)))) (sym unchanged)
        (ap (λ (d : Bool). cond d (Some x) (record_on q (updated f name value xs ++ ys))) here)
    go false false here more =
        subst (λ (d : Bool). Has (if_written (record_on q (changed f name value xs)) untouched) (record_on q (xs ++ ys)) (cond d (Some x) (record_on q (updated f name value xs ++ ys)))) (sym here) more

-- a deletion, up to the tail
left_on : (f : Filter) (q : List ℕ) (xs ys : List Node) → AreApart (xs ++ ys)
    → Has (if_taken (record_on q (matching f xs)) untouched) (record_on q (xs ++ ys)) (record_on q (left f xs ++ ys))
left_on f q [] ys apart = refl
left_on f q (x ∷ xs) ys apart = go (matches f x.key) (bytes_eq q (path_text x.key)) refl (left_on f q xs ys apart.1)
  where
    go : (b c : Bool) → bytes_eq q (path_text x.key) ≡ c → Has (if_taken (record_on q (matching f xs)) untouched) (record_on q (xs ++ ys)) (record_on q (left f xs ++ ys))
        → Has (if_taken (record_on q (cond b (x ∷ matching f xs) (matching f xs))) untouched) (cond c (Some x) (record_on q (xs ++ ys)))
        (record_on q (cond (not b) (x ∷ left f xs) (left f xs) ++ ys))
    go true true here more =
        let path : q ≡ path_text x.key = same_path q (path_text x.key) here in
        let none : record_on q (xs ++ ys) ≡ None = ap (λ (p : List ℕ). record_on p (xs ++ ys)) path ∙ apart.0 in
        subst (λ (d : Bool). Has (if_taken (cond d (Some x) (record_on q (matching f xs))) untouched) (Some x) (record_on q (left f xs ++ ys))) (sym here)
        (none_kept (λ n. not (matches f n.key)) q xs ys none)
    go true false here more =
        subst (λ (d : Bool). Has (if_taken (cond d (Some x) (record_on q (matching f xs))) untouched) (record_on q (xs ++ ys)) (record_on q (left f xs ++ ys))) (sym here) more
    go false true here more =
        let path : q ≡ path_text x.key = same_path q (path_text x.key) here in
        let none : record_on q xs ≡ None = none_in_front q xs ys (ap (λ (p : List ℕ). record_on p (xs ++ ys)) path ∙ apart.0) in
        subst (λ (r : Option Node). Has (if_taken r untouched) (Some x) (record_on q (x ∷ (left f xs ++ ys)))) (sym (none_matching f q xs none))
        (ap (λ (d : Bool). cond d (Some x) (record_on q (left f xs ++ ys))) here)
    go false false here more =
        subst (λ (d : Bool). Has (if_taken (record_on q (matching f xs)) untouched) (record_on q (xs ++ ys)) (cond d (Some x) (record_on q (left f xs ++ ys)))) (sym here) more

-- the same where the lists are named
update_on : (f : Filter) (name value : List ℕ) (q : List ℕ) (xs ys old new : List Node) → AreApart old → old ≡ xs ++ ys → new ≡ updated f name value xs ++ ys
    → Has (if_written (record_on q (changed f name value xs)) untouched) (record_on q old) (record_on q new)
update_on f name value q xs ys old new apart whole is =
    subst (λ (ns : List Node). Has (if_written (record_on q (changed f name value xs)) untouched) (record_on q ns) (record_on q new)) (sym whole)
    (subst (λ (ns : List Node). Has (if_written (record_on q (changed f name value xs)) untouched) (record_on q (xs ++ ys)) (record_on q ns)) (sym is)
    (updated_on f name value q xs ys (subst (λ (ns : List Node). AreApart ns) whole apart)))

delete_on : (f : Filter) (q : List ℕ) (xs ys old new : List Node) → AreApart old → old ≡ xs ++ ys → new ≡ left f xs ++ ys
    → Has (if_taken (record_on q (matching f xs)) untouched) (record_on q old) (record_on q new)
delete_on f q xs ys old new apart whole is =
    subst (λ (ns : List Node). Has (if_taken (record_on q (matching f xs)) untouched) (record_on q ns) (record_on q new)) (sym whole)
    (subst (λ (ns : List Node). Has (if_taken (record_on q (matching f xs)) untouched) (record_on q (xs ++ ys)) (record_on q ns)) (sym is)
    (left_on f q xs ys (subst (λ (ns : List Node). AreApart ns) whole apart)))

-- ---- one call

same_on : (q : List ℕ) (new old : List Node) → new ≡ old → record_on q new ≡ record_on q old
same_on q new old e = ap (λ (ns : List Node). record_on q ns) e

has_added : (q : List ℕ) (node : Node) (answer : Result Bool DbError) (old new : List Node) (was is : Option Records) → IsKey node.key → IsDatabase old
    → (adds : Adds node answer old new was is) → Has (touched q (added node answer old new was is adds) untouched) (record_on q old) (record_on q new)
has_added q node (Ok true) old new was is valid base adds =
    subst (λ (ns : List Node). Has (if_written (record_on q (node ∷ [])) untouched) (record_on q old) (record_on q ns)) (sym adds.1)
    (added_on q node old (none_on node.key old valid base.each adds.0))
has_added q node (Ok false) old new was is valid base adds = same_on q new old adds.1.0
has_added q node (Err StoreFault) old new was is valid base adds =
    not_made (bytes_eq q (path_text node.key)) (holds node) untouched (record_on q old) (record_on q new) (same_on q new old adds.1)
has_added q node (Err Memory) old new was is valid base adds = same_on q new old adds.0
has_added q node (Err (BadName n)) old new was is valid base adds = absurd adds
has_added q node (Err (BadValue n)) old new was is valid base adds = absurd adds
has_added q node (Err (BadRecord p l)) old new was is valid base adds = absurd adds
has_added q node (Err NoObjects) old new was is valid base adds = absurd adds
has_added q node (Err (InUse s)) old new was is valid base adds = absurd adds

pub update_stopped : (q : List ℕ) (f : Filter) (name value : List ℕ) (e : StoreError) (old new : List Node) (was is : Option Records) → AreApart old
    → (stops : StopsUpdate f name value e old new was is) → Has (if_written (record_on q (changed f name value stops.front)) untouched) (record_on q old) (record_on q new)
update_stopped q f name value e old new was is apart stops =
    update_on f name value q stops.front (stops.node ∷ stops.behind) old new apart stops.whole stops.value_is

has_updated : (q : List ℕ) (f : Filter) (name value : List ℕ) (answer : Result ℕ DbError) (old new : List Node) (was is : Option Records) → AreApart old
    → (updates : Updates f name value answer old new was is) → Has (touched q (update_wrote f name value answer old new was is updates) untouched) (record_on q old) (record_on q new)
has_updated q f name value (Ok n) old new was is apart updates =
    update_on f name value q old [] old new apart (sym (append-nil old)) (updates.3 ∙ sym (append-nil (updated f name value old)))
has_updated q f name value (Err StoreFault) old new was is apart updates =
    not_made (bytes_eq q (path_text updates.1.node.key)) (holds (with_value name value updates.1.node)) (if_written (record_on q (changed f name value updates.1.front)) untouched)
    (record_on q old) (record_on q new) (update_stopped q f name value StoreFailed old new was is apart updates.1)
has_updated q f name value (Err Memory) old new was is apart (inl same) = same_on q new old same.0
has_updated q f name value (Err Memory) old new was is apart (inr stops) = update_stopped q f name value StoreMemory old new was is apart stops.1
has_updated q f name value (Err (BadName n)) old new was is apart updates = same_on q new old updates.2.0
has_updated q f name value (Err (BadValue n)) old new was is apart updates = same_on q new old updates.3.0
has_updated q f name value (Err NoObjects) old new was is apart updates = same_on q new old updates.2.0
has_updated q f name value (Err (BadRecord p l)) old new was is apart updates = absurd updates
has_updated q f name value (Err (InUse s)) old new was is apart updates = absurd updates

pub delete_stopped : (q : List ℕ) (f : Filter) (e : StoreError) (old new : List Node) (was is : Option Records) → AreApart old
    → (stops : StopsDelete f e old new was is) → Has (if_taken (record_on q (matching f stops.front)) untouched) (record_on q old) (record_on q new)
delete_stopped q f e old new was is apart stops = delete_on f q stops.front (stops.node ∷ stops.behind) old new apart stops.whole stops.value_is

has_deleted : (q : List ℕ) (f : Filter) (living : List SessionInfo) (answer : Result ℕ DbError) (old new : List Node) (was is : Option Records) → AreApart old
    → (deletes : Deletes f living answer old new was is) → Has (touched q (delete_took f living answer old new was is deletes) untouched) (record_on q old) (record_on q new)
has_deleted q f living (Ok n) old new was is apart deletes =
    delete_on f q old [] old new apart (sym (append-nil old)) (deletes.2 ∙ sym (append-nil (left f old)))
has_deleted q f living (Err StoreFault) old new was is apart deletes =
    not_made (bytes_eq q (path_text deletes.1.node.key)) gone (if_taken (record_on q (matching f deletes.1.front)) untouched) (record_on q old) (record_on q new)
    (delete_stopped q f StoreFailed old new was is apart deletes.1)
has_deleted q f living (Err Memory) old new was is apart (inl same) = same_on q new old same.0
has_deleted q f living (Err Memory) old new was is apart (inr stops) = delete_stopped q f StoreMemory old new was is apart stops.1
has_deleted q f living (Err NoObjects) old new was is apart deletes = same_on q new old deletes.1.0
has_deleted q f living (Err (InUse s)) old new was is apart deletes = same_on q new old deletes.1.0
has_deleted q f living (Err (BadName n)) old new was is apart deletes = absurd deletes
has_deleted q f living (Err (BadValue n)) old new was is apart deletes = absurd deletes
has_deleted q f living (Err (BadRecord p l)) old new was is apart deletes = absurd deletes

has_one : (q : List ℕ) (c : Call) (old new : List Node) (was is : Option Records) → IsAllowed c → IsDatabase old → (leaves : Leaves c old new was is)
    → Has (touched q (change_of c old new was is leaves) untouched) (record_on q old) (record_on q new)
has_one q (new_record key answer) old new was is allowed base leaves = has_added q (fresh key) answer old new was is allowed base leaves
has_one q (new_marked key name value answer) old new was is allowed base leaves = has_added q (marked key name value) answer old new was is allowed.0 base leaves
has_one q (update f name value answer) old new was is allowed base leaves = has_updated q f name value answer old new was is (database_apart old base) leaves
has_one q (delete f living answer) old new was is allowed base leaves = has_deleted q f living answer old new was is (database_apart old base) leaves

-- ---- calls in a row

pub value_follows : (path : List ℕ) (calls : List Call) (old new : List Node) (was is : Option Records) (course : Course calls old new was is) → IsDatabase old
    → Has (touched_last path calls old new was is course) (record_on path old) (record_on path new)
value_follows path [] old new was is course base = same_on path new old course.0
value_follows path (c ∷ cs) old new was is course base =
    behind path (change_of c course.0 new course.1 is course.4) (touched_last path cs old course.0 was course.1 course.2) (record_on path old) (record_on path course.0) (record_on path new)
    (value_follows path cs old course.0 was course.1 course.2 base)
    (has_one path c course.0 new course.1 is course.3 (course_stays cs old course.0 was course.1 course.2 base) course.4)
