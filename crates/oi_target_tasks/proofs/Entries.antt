-- What a look-up finds among entries whose numbers ascend, and what a change at one number makes of the list of commands.
use Rattle.std.proofs.Common.{ℕ, Bool, true, false, cond, not, ◌≡◌, ◌<◌, ◌∙◌, ◌||◌, List, [], ◌∷◌, ◌++◌, Option, Some, None, is_some, refl, sym, ap, filter}
use Rattle.std.proofs.lemmas.Bool.{eqb-true, eq-eqb}
use Rattle.std.proofs.lemmas.List.{map-append}
use Rattle.std.proofs.lemmas.Map.{lookup-none}
use Rattle.std.proofs.lemmas.Map.Entries.{lookup_head, lookup_tail, none_past_head, option_filter}
use Rattle.std.proofs.lemmas.Map.Keys.{IsDistinct-from_sorted, sorted_tail}
use Rattle.std.specs.BTreeMap.{insert_entry, is_at}
use Rattle.std.specs.Cmp.{eq_by_cmp_equiv, nat_cmp_is, nat_cmp_total, unsigned_ties}
use Rattle.std.specs.List.{find, list_any}
use Rattle.std.specs.List.Sorted.{IsStrictlySortedBy}
use Rattle.std.specs.Map.{keys_of, remove_entry, set_value, values_of}
use Rattle.std.specs.Ordering.{nat_cmp, match_ordering}
use Rattle.std.specs.declared.cmp.Ordering.{Ordering}
use Rattle.std.specs.declared.cmp.Ordering.TheVariants.{Less, Equal, Greater}
use Rattle.oi_target_tasks.specs.Places.{task_at}
use Rattle.oi_target_tasks.specs.Tasks.{replaced, waits_as}
use Rattle.oi_target_tasks.specs.declared.task.Task.{Task}

abbrev pub AreInOrder : List (ℕ × Task) → Type 0
AreInOrder es = IsStrictlySortedBy nat_cmp (keys_of es)

pub same_key : (k q : ℕ) → is_at (nat_cmp k) q ≡ true → k ≡ q
same_key k q h = eqb-true k q (unsigned_ties k q ∙ h)

pub own_key : (k : ℕ) → is_at (nat_cmp k) k ≡ true
own_key k = sym (unsigned_ties k k) ∙ eq-eqb k k refl

pub later_in_order : (e : ℕ × Task) (es : List (ℕ × Task)) → AreInOrder (e ∷ es) → AreInOrder es
later_in_order e es s = sorted_tail nat_cmp e.0 (keys_of es) s

-- the first one
task_at_first : (e : ℕ × Task) (es : List (ℕ × Task)) → task_at (e ∷ es) e.0 ≡ Some e.1
task_at_first e es = lookup_head (is_at (nat_cmp e.0)) e es (own_key e.0)

-- no later one has its number
none_later : (e : ℕ × Task) (es : List (ℕ × Task)) → AreInOrder (e ∷ es) → task_at es e.0 ≡ None
none_later e es s = lookup-none (is_at (nat_cmp e.0)) es (none_past_head (eq_by_cmp_equiv nat_cmp_total) e.0 e es (IsDistinct-from_sorted nat_cmp (keys_of (e ∷ es)) s) (own_key e.0))

later_found_by : (e : ℕ × Task) (es : List (ℕ × Task)) → AreInOrder (e ∷ es) → (j : ℕ) (t : Task) (b : Bool) → is_at (nat_cmp j) e.0 ≡ b → task_at es j ≡ Some t → task_at (e ∷ es) j ≡ Some t
later_found_by e es s j t true h f =
    let n : task_at es j ≡ None = ap (λ q. task_at es q) (same_key j e.0 h) ∙ none_later e es s in cc
later_found_by e es s j t false h f = lookup_tail (is_at (nat_cmp j)) e es h ∙ f

-- what is found among the later ones is found among all
pub later_found : (e : ℕ × Task) (es : List (ℕ × Task)) → AreInOrder (e ∷ es) → (j : ℕ) (t : Task) → task_at es j ≡ Some t → task_at (e ∷ es) j ≡ Some t
later_found e es s j t f = later_found_by e es s j t (is_at (nat_cmp j) e.0) refl f

-- no other number than k has a command that passes the test
pub record IsOnly (p : Task → Bool) (k : ℕ) (es : List (ℕ × Task)) : Type 0 where
  pub only : (j : ℕ) (t : Task) → task_at es j ≡ Some t → p t ≡ true → j ≡ k

only_later : (p : Task → Bool) (k : ℕ) (e : ℕ × Task) (es : List (ℕ × Task)) → AreInOrder (e ∷ es) → IsOnly p k (e ∷ es) → IsOnly p k es
only_later p k e es s o = record { only = λ j t f h. o.only j t (later_found e es s j t f) h }

-- the first passes where it has this number
only_first : (p : Task → Bool) (k : ℕ) (e : ℕ × Task) (es : List (ℕ × Task)) → IsOnly p k (e ∷ es) → is_at (nat_cmp k) e.0 ≡ false → (c : Bool) → p e.1 ≡ c → p e.1 ≡ false
only_first p k e es o h true g =
    let same : e.0 ≡ k = o.only e.0 e.1 (task_at_first e es) g in
    let own : is_at (nat_cmp k) e.0 ≡ true = ap (λ q. is_at (nat_cmp k) q) same ∙ own_key k in cc
only_first p k e es o h false g = g

find_step : (p : Task → Bool) (t : Task) (found later : Option Task) (b c : Bool) → p t ≡ c → (b ≡ true → later ≡ None) → (b ≡ false → c ≡ false) → found ≡ option_filter p later → cond c (Some t) found ≡ option_filter p (cond b (Some t) later)
find_step p t found later true true g n o ih = sym (ap (λ v. cond v (Some t) None) g)
find_step p t found later true false g n o ih = ih ∙ ap (option_filter p) (n refl) ∙ sym (ap (λ v. cond v (Some t) None) g)
find_step p t found later false true g n o ih = let e : true ≡ false = o refl in cc
find_step p t found later false false g n o ih = ih

-- a test that only the command at k may pass finds it where it does
pub find_only : (p : Task → Bool) (k : ℕ) (es : List (ℕ × Task)) → AreInOrder es → IsOnly p k es → find p (values_of es) ≡ option_filter p (task_at es k)
find_only p k [] s o = refl
find_only p k (e ∷ es) s o =
    find_step p e.1 (find p (values_of es)) (task_at es k) (is_at (nat_cmp k) e.0) (p e.1) refl
    (λ h. ap (λ q. task_at es q) (same_key k e.0 h) ∙ none_later e es s)
    (λ h. only_first p k e es o h (p e.1) refl)
    (find_only p k es (later_in_order e es s) (only_later p k e es s o))

-- a test that none passes
pub find_none : (p : Task → Bool) (es : List (ℕ × Task)) → AreInOrder es → ((j : ℕ) (t : Task) → task_at es j ≡ Some t → p t ≡ true → ⊥) → find p (values_of es) ≡ None
find_none p [] s none = refl
find_none p (e ∷ es) s none =
    none_step (p e.1) e.1 (find p (values_of es)) (none e.0 e.1 (task_at_first e es)) (find_none p es (later_in_order e es s) (λ j t f h. none j t (later_found e es s j t f) h))
  where
    none_step : (c : Bool) (t : Task) (found : Option Task) → (c ≡ true → ⊥) → found ≡ None → cond c (Some t) found ≡ None
    none_step true t found n ih = absurd (n refl)
    none_step false t found n ih = ih

pub any_found : (p : Task → Bool) (ts : List Task) → list_any p ts ≡ is_some (find p ts)
any_found p [] = refl
any_found p (t ∷ ts) = any_step (p t) t (list_any p ts) (find p ts) (any_found p ts)
  where
    any_step : (c : Bool) (t : Task) (any : Bool) (found : Option Task) → any ≡ is_some found → (c || any) ≡ is_some (cond c (Some t) found)
    any_step true t any found ih = refl
    any_step false t any found ih = ih

-- where none is found, a filter takes none out
pub filter_none : (p : Task → Bool) (ts : List Task) → find p ts ≡ None → filter (λ t. not (p t)) ts ≡ ts
filter_none p [] h = refl
filter_none p (t ∷ ts) h = filter_step (p t) t ts (filter (λ t. not (p t)) ts) (find p ts) h (filter_none p ts)
  where
    filter_step : (c : Bool) (t : Task) (ts kept : List Task) (found : Option Task) → cond c (Some t) found ≡ None → (found ≡ None → kept ≡ ts) → cond (not c) (t ∷ kept) kept ≡ t ∷ ts
    filter_step true t ts kept found h ih = cc
    filter_step false t ts kept found h ih = ap (λ v. t ∷ v) (ih h)

-- the one that the test finds goes out
pub filter_only : (p : Task → Bool) (k : ℕ) (es : List (ℕ × Task)) (t : Task) → AreInOrder es → IsOnly p k es → task_at es k ≡ Some t → p t ≡ true → filter (λ u. not (p u)) (values_of es) ≡ values_of (remove_entry (is_at (nat_cmp k)) es)
filter_only p k [] t s o f h = refl
filter_only p k (e ∷ es) t s o f h =
    filter_step p e.1 t (values_of es) (filter (λ u. not (p u)) (values_of es)) (task_at es k) (remove_entry (is_at (nat_cmp k)) es) es (is_at (nat_cmp k) e.0) (p e.1) refl f h refl
    (λ b. filter_none p (values_of es) (find_only p k es (later_in_order e es s) (only_later p k e es s o) ∙ ap (option_filter p) (ap (λ q. task_at es q) (same_key k e.0 b) ∙ none_later e es s)))
    (λ b. only_first p k e es o b (p e.1) refl)
    (λ g. filter_only p k es t (later_in_order e es s) (only_later p k e es s o) g h)
  where
    filter_step : (p : Task → Bool) (u t : Task) (ts kept : List Task) (later : Option Task) (removed rest : List (ℕ × Task)) (b c : Bool) → p u ≡ c → cond b (Some u) later ≡ Some t → p t ≡ true → values_of rest ≡ ts → (b ≡ true → kept ≡ ts) → (b ≡ false → c ≡ false) → (later ≡ Some t → kept ≡ values_of removed) → cond (not c) (u ∷ kept) kept ≡ values_of (cond b rest ((e.0, u) ∷ removed))
    filter_step p u t ts kept later removed rest true true g f h v whole o ih = whole refl ∙ sym v
    filter_step p u t ts kept later removed rest true false g f h v whole o ih =
        let same : u ≡ t = cc in
        let passes : p u ≡ true = ap p same ∙ h in cc
    filter_step p u t ts kept later removed rest false true g f h v whole o ih = let e : true ≡ false = o refl in cc
    filter_step p u t ts kept later removed rest false false g f h v whole o ih = ap (λ x. u ∷ x) (ih f)

-- another command in the place of the one that waits
pub replaced_only : (tag k : ℕ) (es : List (ℕ × Task)) (t w : Task) → AreInOrder es → IsOnly (waits_as tag) k es → w.tag.0 ≡ tag → task_at es k ≡ Some t → waits_as tag t ≡ true → replaced w (values_of es) ≡ values_of (set_value (is_at (nat_cmp k)) es w)
replaced_only tag k [] t w s o same f h = refl
replaced_only tag k (e ∷ es) t w s o same f h =
    replaced_step (waits_as tag) e.0 e.1 t w (values_of es) (replaced w (values_of es)) (task_at es k) (set_value (is_at (nat_cmp k)) es w) es (is_at (nat_cmp k) e.0) (waits_as w.tag.0 e.1) (ap (λ q. waits_as q e.1) (sym same)) f h refl
    (λ b. ap (λ q. waits_as q e.1) same ∙ only_first (waits_as tag) k e es o b (waits_as tag e.1) refl)
    (λ g. replaced_only tag k es t w (later_in_order e es s) (only_later (waits_as tag) k e es s o) same g h)
  where
    replaced_step : (p : Task → Bool) (n : ℕ) (u t w : Task) (ts changed : List Task) (later : Option Task) (put rest : List (ℕ × Task)) (b c : Bool) → p u ≡ c → cond b (Some u) later ≡ Some t → p t ≡ true → values_of rest ≡ ts → (b ≡ false → c ≡ false) → (later ≡ Some t → changed ≡ values_of put) → cond c (w ∷ ts) (u ∷ changed) ≡ values_of (cond b ((n, w) ∷ rest) ((n, u) ∷ put))
    replaced_step p n u t w ts changed later put rest true true g f h v o ih = ap (λ x. w ∷ x) (sym v)
    replaced_step p n u t w ts changed later put rest true false g f h v o ih =
        let same : u ≡ t = cc in
        let passes : p u ≡ true = ap p same ∙ h in cc
    replaced_step p n u t w ts changed later put rest false true g f h v o ih = let e : true ≡ false = o refl in cc
    replaced_step p n u t w ts changed later put rest false false g f h v o ih = ap (λ x. u ∷ x) (ih f)

-- a number above all others comes last
pub insert_last : (es : List (ℕ × Task)) (k : ℕ) (t : Task) → AreInOrder es → ((j : ℕ) (u : Task) → task_at es j ≡ Some u → j < k) → insert_entry nat_cmp es k t ≡ es ++ (k, t) ∷ []
insert_last [] k t s below = refl
insert_last (e ∷ es) k t s below =
    let first : e.0 < k = below e.0 e.1 (task_at_first e es) in
    let order : Greater ≡ nat_cmp k e.0 = nat_cmp_is k e.0 Greater first in
    insert_step (nat_cmp k e.0) order (insert_last es k t (later_in_order e es s) (λ j u f. below j u (later_found e es s j u f)))
  where
    insert_step : (o : Ordering) → Greater ≡ o → insert_entry nat_cmp es k t ≡ es ++ (k, t) ∷ [] → match_ordering o ((k, t) ∷ e ∷ es) ((e.0, t) ∷ es) (e ∷ insert_entry nat_cmp es k t) ≡ e ∷ (es ++ (k, t) ∷ [])
    insert_step Less o ih = cc
    insert_step Equal o ih = cc
    insert_step Greater o ih = ap (λ x. e ∷ x) ih

pub values_last : (es : List (ℕ × Task)) (k : ℕ) (t : Task) → values_of (es ++ (k, t) ∷ []) ≡ values_of es ++ t ∷ []
values_last es k t = map-append (λ (e : ℕ × Task). e.1) es ((k, t) ∷ [])

-- where none passes, the one at a number does not
pub not_any : (p : Task → Bool) (es : List (ℕ × Task)) (j : ℕ) (t : Task) → list_any p (values_of es) ≡ false → task_at es j ≡ Some t → p t ≡ false
not_any p [] j t h f = cc
not_any p (e ∷ es) j t h f = not_any_step p e.1 t (task_at es j) (is_at (nat_cmp j) e.0) (p e.1) (list_any p (values_of es)) refl h f (λ g k. not_any p es j t g k)
  where
    not_any_step : (p : Task → Bool) (u t : Task) (later : Option Task) (b c any : Bool) → p u ≡ c → (c || any) ≡ false → cond b (Some u) later ≡ Some t → (any ≡ false → later ≡ Some t → p t ≡ false) → p t ≡ false
    not_any_step p u t later true true any g h f ih = cc
    not_any_step p u t later true false any g h f ih = let same : u ≡ t = cc in ap p (sym same) ∙ g
    not_any_step p u t later false true any g h f ih = cc
    not_any_step p u t later false false any g h f ih = ih h f

pub values_filter : (p : Task → Bool) (es : List (ℕ × Task)) → values_of (filter (λ e. p e.1) es) ≡ filter p (values_of es)
values_filter p [] = refl
values_filter p (e ∷ es) = values_step (p e.1) e (filter (λ e. p e.1) es) (filter p (values_of es)) (values_filter p es)
  where
    values_step : (c : Bool) (e : ℕ × Task) (kept : List (ℕ × Task)) (ts : List Task) → values_of kept ≡ ts → values_of (cond c (e ∷ kept) kept) ≡ cond c (e.1 ∷ ts) ts
    values_step true e kept ts ih = ap (λ x. e.1 ∷ x) ih
    values_step false e kept ts ih = ih

-- what took the place of the one that waits is found, where it waits too
pub find_replaced : (tag : ℕ) (w : Task) (ts : List Task) → w.tag.0 ≡ tag → waits_as tag w ≡ true → is_some (find (waits_as tag) ts) ≡ true → find (waits_as tag) (replaced w ts) ≡ Some w
find_replaced tag w [] same waits h = cc
find_replaced tag w (t ∷ ts) same waits h =
    place_step (waits_as tag t) (waits_as w.tag.0 t) (ap (λ q. waits_as q t) same) refl h (find_replaced tag w ts same waits)
  where
    place_step : (b c : Bool) → c ≡ b → waits_as tag t ≡ b → is_some (cond b (Some t) (find (waits_as tag) ts)) ≡ true → (is_some (find (waits_as tag) ts) ≡ true → find (waits_as tag) (replaced w ts) ≡ Some w) → find (waits_as tag) (cond c (w ∷ ts) (t ∷ replaced w ts)) ≡ Some w
    place_step true true e g k ih = ap (λ v. cond v (Some w) (find (waits_as tag) ts)) waits
    place_step true false e g k ih = cc
    place_step false true e g k ih = cc
    place_step false false e g k ih = ap (λ v. cond v (Some t) (find (waits_as tag) (replaced w ts))) g ∙ ih k
