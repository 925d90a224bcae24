-- What the store tells behind calls.
use Rattle.std.proofs.Common.{◌≡◌, ◌∙◌, ◌⊎◌, inl, inr, ℕ, Bool, true, false, true≢false, cond, List, [], ◌∷◌, ◌++◌, Option, Some, None, Result, Ok, Err, refl, sym, ap, subst, bytes_eq}
use Rattle.std.specs.Option.{option_map}
use Rattle.std.proofs.lemmas.Slice.Eq.{bytes_eq-Decides}
use Rattle.oi_names.specs.declared.session_key.SessionInfo.{SessionInfo}
use Rattle.oi_outside.specs.Records.{Records}
use Rattle.oi_outside.specs.Stores.{told_at, told_with, told_without}
use Rattle.oi_outside.specs.declared.store_error.StoreError.TheVariants.{Failed as StoreFailed}
use Rattle.oi_outside.proofs.Records.{with_path-here, without_path-here}
use Rattle.oi_outside.proofs.Stores.{Puts-others, Removes-others}
use Rattle.oi_settings.specs.Keys.{path_text}
use Rattle.oi_settings.specs.Texts.{Node, text_of}
use Rattle.oi_nodedb.specs.declared.error.DbError.TheVariants.{BadName, BadValue, BadRecord, NoObjects, InUse, StoreFault, Memory}
use Rattle.oi_nodedb.specs.declared.error.DbError.{DbError}
use Rattle.oi_nodedb.specs.declared.filter.Filter.{Filter}
use Rattle.oi_nodedb.specs.Answers.{Adds, Deletes, Updates}
use Rattle.oi_nodedb.specs.Databases.{changed, fresh, told_removed, told_texts}
use Rattle.oi_nodedb.specs.Filters.{matching}
use Rattle.oi_nodedb_laws.specs.Courses.{Call, Course, IsDatabase, Leaves, marked, new_record, new_marked, update, delete}
use Rattle.oi_nodedb_laws.specs.Laws.{Tells}
use Rattle.oi_nodedb_laws.specs.Touches.{Change, Touch, added, change_of, delete_took, gone, holds, if_failed, if_taken, if_written, record_on, took, took_to, touched, touched_last, unsure, untouched, update_wrote, wrote, wrote_to}
use Rattle.oi_nodedb_laws.proofs.Apart.{AreApart, database_apart, front_apart, matching_apart, same_path, with_apart}
use Rattle.oi_nodedb_laws.proofs.Keeping.{course_stays}

abbrev pub Told : Type 0
Told = Option (Option (List ℕ))

-- ---- one path

with_here : (o : Option Records) (p t : List ℕ) → told_at (told_with o p t) p ≡ option_map (λ text. Some t) (told_at o p)
with_here None p t = refl
with_here (Some m) p t = ap (λ (x : Option (List ℕ)). Some x) (with_path-here m p t)

without_here : (o : Option Records) (p : List ℕ) → told_at (told_without o p) p ≡ option_map (λ text. None) (told_at o p)
without_here None p = refl
without_here (Some m) p = ap (λ (x : Option (List ℕ)). Some x) (without_path-here m p)

not_same : (q p : List ℕ) → bytes_eq q p ≡ false → q ≡ p → ⊥
not_same q p e same = true≢false (sym ((bytes_eq-Decides q p).1 same) ∙ e)

with_other : (o : Option Records) (p t q : List ℕ) → bytes_eq q p ≡ false → told_at (told_with o p t) q ≡ told_at o q
with_other o p t q e = Puts-others (Ok tt) p t q o (told_with o p t) (not_same q p e) refl

without_other : (o : Option Records) (p q : List ℕ) → bytes_eq q p ≡ false → told_at (told_without o p) q ≡ told_at o q
without_other o p q e = Removes-others (Err StoreFailed) p q o (told_without o p) (not_same q p e) (inr refl)

-- ---- texts that were written or taken away

pub texts_at : (q : List ℕ) (ns : List Node) (o : Option Records) → AreApart ns → Tells (if_written (record_on q ns) untouched) (told_at o q) (told_at (told_texts o ns) q)
texts_at q [] o apart = refl
texts_at q (n ∷ ns) o apart = go (bytes_eq q (path_text n.key)) refl (texts_at q ns (told_with o (path_text n.key) (text_of n.pairs)) apart.1)
  where
    next : Option Records
    next = told_with o (path_text n.key) (text_of n.pairs)

    go : (b : Bool) → bytes_eq q (path_text n.key) ≡ b → Tells (if_written (record_on q ns) untouched) (told_at next q) (told_at (told_texts next ns) q)
        → Tells (if_written (cond b (Some n) (record_on q ns)) untouched) (told_at o q) (told_at (told_texts next ns) q)
    go true e more =
        let same : q ≡ path_text n.key = same_path q (path_text n.key) e in
        let none : record_on q ns ≡ None = ap (λ (p : List ℕ). record_on p ns) same ∙ apart.0 in
        let later : told_at (told_texts next ns) q ≡ told_at next q =
        subst (λ (r : Option Node). Tells (if_written r untouched) (told_at next q) (told_at (told_texts next ns) q)) none more in
        later ∙ subst (λ (p : List ℕ). told_at next p ≡ option_map (λ text. Some (text_of n.pairs)) (told_at o p)) (sym same) (with_here o (path_text n.key) (text_of n.pairs))
    go false e more =
        subst (λ (t : Told). Tells (if_written (record_on q ns) untouched) t (told_at (told_texts next ns) q)) (with_other o (path_text n.key) (text_of n.pairs) q e) more

pub removed_at : (q : List ℕ) (ns : List Node) (o : Option Records) → AreApart ns → Tells (if_taken (record_on q ns) untouched) (told_at o q) (told_at (told_removed o ns) q)
removed_at q [] o apart = refl
removed_at q (n ∷ ns) o apart = go (bytes_eq q (path_text n.key)) refl (removed_at q ns (told_without o (path_text n.key)) apart.1)
  where
    next : Option Records
    next = told_without o (path_text n.key)

    go : (b : Bool) → bytes_eq q (path_text n.key) ≡ b → Tells (if_taken (record_on q ns) untouched) (told_at next q) (told_at (told_removed next ns) q)
        → Tells (if_taken (cond b (Some n) (record_on q ns)) untouched) (told_at o q) (told_at (told_removed next ns) q)
    go true e more =
        let same : q ≡ path_text n.key = same_path q (path_text n.key) e in
        let none : record_on q ns ≡ None = ap (λ (p : List ℕ). record_on p ns) same ∙ apart.0 in
        let later : told_at (told_removed next ns) q ≡ told_at next q =
        subst (λ (r : Option Node). Tells (if_taken r untouched) (told_at next q) (told_at (told_removed next ns) q)) none more in
        later ∙ subst (λ (p : List ℕ). told_at next p ≡ option_map (λ text. None) (told_at o p)) (sym same) (without_here o (path_text n.key))
    go false e more =
        subst (λ (t : Told). Tells (if_taken (record_on q ns) untouched) t (told_at (told_removed next ns) q)) (without_other o (path_text n.key) q e) more

-- ---- one change behind another

-- whether anything is told stays
pub as_told : (x : Option (List ℕ)) (t : Touch) (a b : Told) → Tells t a b → option_map (λ text. x) b ≡ option_map (λ text. x) a
as_told x untouched a b tells = ap (option_map (λ text. x)) tells
as_told x (holds n) a b tells = ap (option_map (λ text. x)) tells ∙ twice a
  where
    twice : (c : Told) → option_map (λ text. x) (option_map (λ text. Some (text_of n.pairs)) c) ≡ option_map (λ text. x) c
    twice None = refl
    twice (Some d) = refl
as_told x gone a b tells = ap (option_map (λ text. x)) tells ∙ twice a
  where
    twice : (c : Told) → option_map (λ text. x) (option_map (λ (text : Option (List ℕ)). let none : Option (List ℕ) = None in none) c) ≡ option_map (λ text. x) c
    twice None = refl
    twice (Some d) = refl
as_told x (unsure change past) a b (inl tells) = as_told x change a b tells
as_told x (unsure change past) a b (inr tells) = as_told x past a b tells

then_written : (r : Option Node) (t : Touch) (a b c : Told) → Tells t a b → Tells (if_written r untouched) b c → Tells (if_written r t) a c
then_written None t a b c before now = subst (λ (d : Told). Tells t a d) (sym now) before
then_written (Some n) t a b c before now = now ∙ as_told (Some (text_of n.pairs)) t a b before

then_taken : (r : Option Node) (t : Touch) (a b c : Told) → Tells t a b → Tells (if_taken r untouched) b c → Tells (if_taken r t) a c
then_taken None t a b c before now = subst (λ (d : Told). Tells t a d) (sym now) before
then_taken (Some n) t a b c before now = now ∙ as_told None t a b before

then_wrote : (failed : Bool) (n : Node) (r : Option Node) (t : Touch) (a b c : Told) → Tells t a b → Tells (if_failed failed (holds n) (if_written r untouched)) b c
    → Tells (if_failed failed (holds n) (if_written r t)) a c
then_wrote false n r t a b c before now = then_written r t a b c before now
then_wrote true n r t a b c before (inl now) = inl (now ∙ as_told (Some (text_of n.pairs)) t a b before)
then_wrote true n r t a b c before (inr now) = inr (then_written r t a b c before now)

then_took : (failed : Bool) (r : Option Node) (t : Touch) (a b c : Told) → Tells t a b → Tells (if_failed failed gone (if_taken r untouched)) b c
    → Tells (if_failed failed gone (if_taken r t)) a c
then_took false r t a b c before now = then_taken r t a b c before now
then_took true r t a b c before (inl now) = inl (now ∙ as_told None t a b before)
then_took true r t a b c before (inr now) = inr (then_taken r t a b c before now)

behind : (q : List ℕ) (change : Change) (t : Touch) (a b c : Told) → Tells t a b → Tells (touched q change untouched) b c → Tells (touched q change t) a c
behind q (wrote ns) t a b c before now = then_written (record_on q ns) t a b c before now
behind q (wrote_to ns n) t a b c before now = then_wrote (bytes_eq q (path_text n.key)) n (record_on q ns) t a b c before now
behind q (took ns) t a b c before now = then_taken (record_on q ns) t a b c before now
behind q (took_to ns n) t a b c before now = then_took (bytes_eq q (path_text n.key)) (record_on q ns) t a b c before now

-- ---- one call

Made : Change → Option Records → Option Records → Type 0
Made (wrote ns) was is = AreApart ns × (is ≡ told_texts was ns)
Made (wrote_to ns n) was is = AreApart ns × ((is ≡ told_texts was ns) ⊎ (is ≡ told_with (told_texts was ns) (path_text n.key) (text_of n.pairs)))
Made (took ns) was is = AreApart ns × (is ≡ told_removed was ns)
Made (took_to ns n) was is = AreApart ns × ((is ≡ told_removed was ns) ⊎ (is ≡ told_without (told_removed was ns) (path_text n.key)))

wrote_at : (q : List ℕ) (ns : List Node) (was is : Option Records) → AreApart ns → is ≡ told_texts was ns → Tells (if_written (record_on q ns) untouched) (told_at was q) (told_at is q)
wrote_at q ns was is apart e = subst (λ (o : Option Records). Tells (if_written (record_on q ns) untouched) (told_at was q) (told_at o q)) (sym e) (texts_at q ns was apart)

took_at : (q : List ℕ) (ns : List Node) (was is : Option Records) → AreApart ns → is ≡ told_removed was ns → Tells (if_taken (record_on q ns) untouched) (told_at was q) (told_at is q)
took_at q ns was is apart e = subst (λ (o : Option Records). Tells (if_taken (record_on q ns) untouched) (told_at was q) (told_at o q)) (sym e) (removed_at q ns was apart)

-- the failed change was not made
kept_touch : (failed : Bool) (change past : Touch) (a b : Told) → Tells past a b → Tells (if_failed failed change past) a b
kept_touch false change past a b tells = tells
kept_touch true change past a b tells = inr tells

-- or it was
last_wrote : (q : List ℕ) (ns : List Node) (n : Node) (was is : Option Records) → AreApart ns → is ≡ told_with (told_texts was ns) (path_text n.key) (text_of n.pairs) → (b : Bool)
    → bytes_eq q (path_text n.key) ≡ b → Tells (if_failed b (holds n) (if_written (record_on q ns) untouched)) (told_at was q) (told_at is q)
last_wrote q ns n was is apart e true here =
    let mid : Option Records = told_texts was ns in
    let same : q ≡ path_text n.key = same_path q (path_text n.key) here in
    inl (ap (λ (o : Option Records). told_at o q) e
    ∙ subst (λ (p : List ℕ). told_at (told_with mid (path_text n.key) (text_of n.pairs)) p ≡ option_map (λ text. Some (text_of n.pairs)) (told_at mid p)) (sym same)
    (with_here mid (path_text n.key) (text_of n.pairs))
    ∙ as_told (Some (text_of n.pairs)) (if_written (record_on q ns) untouched) (told_at was q) (told_at mid q) (texts_at q ns was apart))
last_wrote q ns n was is apart e false here =
    subst (λ (t : Told). Tells (if_written (record_on q ns) untouched) (told_at was q) t)
    (sym (ap (λ (o : Option Records). told_at o q) e ∙ with_other (told_texts was ns) (path_text n.key) (text_of n.pairs) q here)) (texts_at q ns was apart)

last_took : (q : List ℕ) (ns : List Node) (n : Node) (was is : Option Records) → AreApart ns → is ≡ told_without (told_removed was ns) (path_text n.key) → (b : Bool)
    → bytes_eq q (path_text n.key) ≡ b → Tells (if_failed b gone (if_taken (record_on q ns) untouched)) (told_at was q) (told_at is q)
last_took q ns n was is apart e true here =
    let mid : Option Records = told_removed was ns in
    let same : q ≡ path_text n.key = same_path q (path_text n.key) here in
    inl (ap (λ (o : Option Records). told_at o q) e
    ∙ subst (λ (p : List ℕ). told_at (told_without mid (path_text n.key)) p ≡ option_map (λ text. None) (told_at mid p)) (sym same) (without_here mid (path_text n.key))
    ∙ as_told None (if_taken (record_on q ns) untouched) (told_at was q) (told_at mid q) (removed_at q ns was apart))
last_took q ns n was is apart e false here =
    subst (λ (t : Told). Tells (if_taken (record_on q ns) untouched) (told_at was q) t)
    (sym (ap (λ (o : Option Records). told_at o q) e ∙ without_other (told_removed was ns) (path_text n.key) q here)) (removed_at q ns was apart)

tells_made : (q : List ℕ) (change : Change) (was is : Option Records) → Made change was is → Tells (touched q change untouched) (told_at was q) (told_at is q)
unfolding Made
tells_made q (wrote ns) was is (apart, e) = wrote_at q ns was is apart e
tells_made q (wrote_to ns n) was is (apart, inl e) =
    kept_touch (bytes_eq q (path_text n.key)) (holds n) (if_written (record_on q ns) untouched) (told_at was q) (told_at is q) (wrote_at q ns was is apart e)
tells_made q (wrote_to ns n) was is (apart, inr e) = last_wrote q ns n was is apart e (bytes_eq q (path_text n.key)) refl
tells_made q (took ns) was is (apart, e) = took_at q ns was is apart e
tells_made q (took_to ns n) was is (apart, inl e) =
    kept_touch (bytes_eq q (path_text n.key)) gone (if_taken (record_on q ns) untouched) (told_at was q) (told_at is q) (took_at q ns was is apart e)
tells_made q (took_to ns n) was is (apart, inr e) = last_took q ns n was is apart e (bytes_eq q (path_text n.key)) refl

-- records of a part are apart
changed_apart : (f : Filter) (name value : List ℕ) (ns : List Node) → AreApart ns → AreApart (changed f name value ns)
changed_apart f name value ns apart = with_apart name value (matching f ns) (matching_apart f ns apart)

front_of : (front behind old : List Node) (n : Node) → AreApart old → old ≡ front ++ n ∷ behind → AreApart front
front_of front behind old n apart e = front_apart front (n ∷ behind) (subst (λ (ns : List Node). AreApart ns) e apart)

made_added : (node : Node) (answer : Result Bool DbError) (old new : List Node) (was is : Option Records) (adds : Adds node answer old new was is) → Made (added node answer old new was is adds) was is
unfolding Made
made_added node (Ok true) old new was is adds = ((refl, tt), adds.2)
made_added node (Ok false) old new was is adds = (tt, adds.1.1)
made_added node (Err StoreFault) old new was is adds = (tt, adds.2)
made_added node (Err Memory) old new was is adds = (tt, adds.1)
made_added node (Err (BadName n)) old new was is adds = absurd adds
made_added node (Err (BadValue n)) old new was is adds = absurd adds
made_added node (Err (BadRecord p l)) old new was is adds = absurd adds
made_added node (Err NoObjects) old new was is adds = absurd adds
made_added node (Err (InUse s)) old new was is adds = absurd adds

made_update : (f : Filter) (name value : List ℕ) (answer : Result ℕ DbError) (old new : List Node) (was is : Option Records) → AreApart old
    → (updates : Updates f name value answer old new was is) → Made (update_wrote f name value answer old new was is updates) was is
unfolding Made
made_update f name value (Ok n) old new was is apart updates = (changed_apart f name value old apart, updates.4)
made_update f name value (Err StoreFault) old new was is apart updates =
    (changed_apart f name value updates.1.front (front_of updates.1.front updates.1.behind old updates.1.node apart updates.1.whole), updates.1.store)
made_update f name value (Err Memory) old new was is apart (inl same) = (tt, same.1)
made_update f name value (Err Memory) old new was is apart (inr stops) =
    (changed_apart f name value stops.1.front (front_of stops.1.front stops.1.behind old stops.1.node apart stops.1.whole), stops.1.store)
made_update f name value (Err (BadName n)) old new was is apart updates = (tt, updates.2.1)
made_update f name value (Err (BadValue n)) old new was is apart updates = (tt, updates.3.1)
made_update f name value (Err NoObjects) old new was is apart updates = (tt, updates.2.1)
made_update f name value (Err (BadRecord p l)) old new was is apart updates = absurd updates
made_update f name value (Err (InUse s)) old new was is apart updates = absurd updates

made_delete : (f : Filter) (living : List SessionInfo) (answer : Result ℕ DbError) (old new : List Node) (was is : Option Records) → AreApart old
    → (deletes : Deletes f living answer old new was is) → Made (delete_took f living answer old new was is deletes) was is
unfolding Made
made_delete f living (Ok n) old new was is apart deletes = (matching_apart f old apart, deletes.3)
made_delete f living (Err StoreFault) old new was is apart deletes =
    (matching_apart f deletes.1.front (front_of deletes.1.front deletes.1.behind old deletes.1.node apart deletes.1.whole), deletes.1.store)
made_delete f living (Err Memory) old new was is apart (inl same) = (tt, same.1)
made_delete f living (Err Memory) old new was is apart (inr stops) =
    (matching_apart f stops.1.front (front_of stops.1.front stops.1.behind old stops.1.node apart stops.1.whole), stops.1.store)
made_delete f living (Err NoObjects) old new was is apart deletes = (tt, deletes.1.1)
made_delete f living (Err (InUse s)) old new was is apart deletes = (tt, deletes.1.1)
made_delete f living (Err (BadName n)) old new was is apart deletes = absurd deletes
made_delete f living (Err (BadValue n)) old new was is apart deletes = absurd deletes
made_delete f living (Err (BadRecord p l)) old new was is apart deletes = absurd deletes

made : (c : Call) (old new : List Node) (was is : Option Records) → AreApart old → (leaves : Leaves c old new was is) → Made (change_of c old new was is leaves) was is
made (new_record key answer) old new was is apart leaves = made_added (fresh key) answer old new was is leaves
made (new_marked key name value answer) old new was is apart leaves = made_added (marked key name value) answer old new was is leaves
made (update f name value answer) old new was is apart leaves = made_update f name value answer old new was is apart leaves
made (delete f living answer) old new was is apart leaves = made_delete f living answer old new was is apart leaves

-- ---- calls in a row

pub store_follows : (path : List ℕ) (calls : List Call) (old new : List Node) (was is : Option Records) (course : Course calls old new was is) → IsDatabase old
    → Tells (touched_last path calls old new was is course) (told_at was path) (told_at is path)
store_follows path [] old new was is course base = ap (λ (o : Option Records). told_at o path) course.1
store_follows path (c ∷ cs) old new was is course base =
    behind path (change_of c course.0 new course.1 is course.4) (touched_last path cs old course.0 was course.1 course.2) (told_at was path) (told_at course.1 path) (told_at is path)
    (store_follows path cs old course.0 was course.1 course.2 base)
    (tells_made path (change_of c course.0 new course.1 is course.4) course.1 is
    (made c course.0 new course.1 is (database_apart course.0 (course_stays cs old course.0 was course.1 course.2 base)) course.4))
