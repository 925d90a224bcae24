-- That each command stays found by its tag, and what the number under a tag names.
use Rattle.std.proofs.Common.{ℕ, Bool, true, false, cond, not, ◌≡◌, ◌<◌, ◌+◌, ◌∙◌, List, [], ◌∷◌, ◌++◌, ◌==◌, length, Option, Some, None, is_some, refl, sym, ap, arith, filter, Result, Ok, Err, IfOk, OnErr, OnOk, if◌then◌else◌}
use Rattle.std.proofs.lemmas.Bool.{and_from, and_parts, eq-eqb, eqb-true}
use Rattle.std.proofs.lemmas.Map.Entries.{lookup-filter-values, option_filter}
use Rattle.std.proofs.lemmas.Map.Keys.{IsDistinct-from_sorted}
use Rattle.std.proofs.lemmas.Map.Steps.{set_value_same}
use Rattle.std.specs.BTreeMap.{BTreeMap, Updates, UpdatesBy, insert_entry, is_at, keys}
use Rattle.std.specs.Cmp.{eq_by_cmp_equiv, nat_cmp_total}
use Rattle.std.specs.List.{find, list_any, slice_get}
use Rattle.std.specs.List.Sorted.{IsStrictlySortedBy}
use Rattle.std.specs.Map.{keys_of, remove_entry, set_value, values_of}
use Rattle.std.specs.Ordering.{nat_cmp}
use Rattle.oi_base.specs.declared.memory.NoMemory.{NoMemory}
use Rattle.oi_target_tasks.proofs.Entries.{IsOnly, any_found, filter_none, filter_only, find_none, find_only, find_replaced, insert_last, not_any, replaced_only, same_key, values_last}
use Rattle.oi_target_tasks.specs.Places.{IsIndexed, is_waiting_at, number_waiting, place_of, task_at}
use Rattle.oi_target_tasks.specs.Tasks.{asked_again, asking_by, asks_for, filled_in, grown, has_tag, is_asking, is_busy, is_stuck, is_waiting, replaced, waits_as}
use Rattle.oi_target_tasks.specs.declared.task.Task.{Task}

-- a test that only commands with this tag pass
pub record AsksTag (p : Task → Bool) (tag : ℕ) : Type 0 where
  pub tagged : (t : Task) → p t ≡ true → t.tag.0 ≡ tag

pub has_asks : (tag : ℕ) → AsksTag (has_tag tag) tag
has_asks tag = record { tagged = λ t h. eqb-true t.tag.0 tag h }

pub waits_asks : (tag : ℕ) → AsksTag (waits_as tag) tag
waits_asks tag = record { tagged = λ t h. eqb-true t.tag.0 tag (and_parts _ _ h).0 }

module _ {order : List (ℕ × Task)} {places : List (ℕ × ℕ)} {next : ℕ} (i : IsIndexed order places next) where
  -- the number under the tag is that of the only command that may pass
  pub only_there : (p : Task → Bool) (tag : ℕ) → AsksTag p tag → (k : ℕ) → place_of places tag ≡ Some k → IsOnly p k order
  only_there p tag a k here = record {
    only = λ j t f h.
        let there : place_of places t.tag.0 ≡ Some j = i.placed j t f in
        let same : place_of places t.tag.0 ≡ place_of places tag = ap (λ q. place_of places q) (a.tagged t h) in
        let both : Some j ≡ Some k = sym there ∙ same ∙ here in cc;
  }

  -- a tag without a number has no command
  pub none_there : (p : Task → Bool) (tag : ℕ) → AsksTag p tag → place_of places tag ≡ None → find p (values_of order) ≡ None
  none_there p tag a here =
      find_none p order i.ordered (λ j t f h.
      let there : place_of places t.tag.0 ≡ Some j = i.placed j t f in
      let same : place_of places t.tag.0 ≡ place_of places tag = ap (λ q. place_of places q) (a.tagged t h) in
      let both : Some j ≡ None = sym there ∙ same ∙ here in cc)

  -- what the number under the tag names is all that the test finds
  pub found_there : (p : Task → Bool) (tag : ℕ) → AsksTag p tag → (k : ℕ) → place_of places tag ≡ Some k → (found : Option Task) → found ≡ task_at order k → find p (values_of order) ≡ option_filter p found
  found_there p tag a k here found is = find_only p k order i.ordered (only_there p tag a k here) ∙ ap (option_filter p) (sym is)

some_kept : (c : Bool) (t : Task) → is_some (cond c (Some t) None) ≡ c
some_kept true t = refl
some_kept false t = refl

module _ {order : List (ℕ × Task)} {places : List (ℕ × ℕ)} {next : ℕ} (i : IsIndexed order places next) (tasks : List Task) (v : values_of order ≡ tasks) (tag : ℕ) where
  pub busy_unplaced : place_of places tag ≡ None → false ≡ is_busy tag tasks
  busy_unplaced here = sym (ap (is_busy tag) (sym v) ∙ any_found (has_tag tag) (values_of order) ∙ ap (λ o. is_some o) (none_there i (has_tag tag) tag (has_asks tag) here))

  pub busy_gone : (k : ℕ) → place_of places tag ≡ Some k → None ≡ task_at order k → false ≡ is_busy tag tasks
  busy_gone k here gone = sym (ap (is_busy tag) (sym v) ∙ any_found (has_tag tag) (values_of order) ∙ ap (λ o. is_some o) (found_there i (has_tag tag) tag (has_asks tag) k here None gone))

  pub busy_placed : (k : ℕ) → place_of places tag ≡ Some k → (t : Task) → Some t ≡ task_at order k → has_tag tag t ≡ is_busy tag tasks
  busy_placed k here t is = sym (ap (is_busy tag) (sym v) ∙ any_found (has_tag tag) (values_of order) ∙ ap (λ o. is_some o) (found_there i (has_tag tag) tag (has_asks tag) k here (Some t) is) ∙ some_kept (has_tag tag t) t)

-- the number that was found for data
pub record IsFound (order : List (ℕ × Task)) (places : List (ℕ × ℕ)) (tag k : ℕ) : Type 0 where
  pub placed : place_of places tag ≡ Some k
  pub task : Task
  pub held : task_at order k ≡ Some task
  pub waits : waits_as tag task ≡ true

found_held : (order : List (ℕ × Task)) (places : List (ℕ × ℕ)) (tag j k : ℕ) → place_of places tag ≡ Some j → (f : Option Task) → task_at order j ≡ f → cond (is_waiting_at tag f) (Some j) None ≡ Some k → IsFound order places tag k
found_held order places tag j k here None is h = let e : None ≡ Some k = h in cc
found_held order places tag j k here (Some t) is h = found_waits (waits_as tag t) refl h
  where
    found_waits : (c : Bool) → waits_as tag t ≡ c → cond c (Some j) None ≡ Some k → IsFound order places tag k
    found_waits true w g =
        let same : j ≡ k = cc in
        record { placed = here ∙ ap (λ (n : ℕ). Some n) same; task = t; held = sym (ap (λ n. task_at order n) same) ∙ is; waits = w }
    found_waits false w g = let e : None ≡ Some k = g in cc

pub is_found : (order : List (ℕ × Task)) (places : List (ℕ × ℕ)) (tag k : ℕ) → number_waiting order tag (place_of places tag) ≡ Some k → IsFound order places tag k
is_found order places tag k h = found_at (place_of places tag) refl h
  where
    found_at : (o : Option ℕ) → place_of places tag ≡ o → number_waiting order tag o ≡ Some k → IsFound order places tag k
    found_at None here g = let e : None ≡ Some k = g in cc
    found_at (Some j) here g = found_held order places tag j k here (task_at order j) refl g

module _ {order : List (ℕ × Task)} {places : List (ℕ × ℕ)} {next : ℕ} (i : IsIndexed order places next) (tasks : List Task) (v : values_of order ≡ tasks) (tag : ℕ) where
  none_held : (j : ℕ) → place_of places tag ≡ Some j → (f : Option Task) → f ≡ task_at order j → cond (is_waiting_at tag f) (Some j) None ≡ None → find (waits_as tag) (values_of order) ≡ None
  none_held j here None is h = found_there i (waits_as tag) tag (waits_asks tag) j here None is
  none_held j here (Some t) is h = found_there i (waits_as tag) tag (waits_asks tag) j here (Some t) is ∙ none_waits (waits_as tag t) h
    where
      none_waits : (c : Bool) → cond c (Some j) None ≡ None → cond c (Some t) None ≡ None
      none_waits true g = cc
      none_waits false g = refl

  -- no number was found for data
  pub none_waits : number_waiting order tag (place_of places tag) ≡ None → find (waits_as tag) tasks ≡ None
  none_waits h = ap (find (waits_as tag)) (sym v) ∙ none_at (place_of places tag) refl h
    where
      none_at : (o : Option ℕ) → place_of places tag ≡ o → number_waiting order tag o ≡ None → find (waits_as tag) (values_of order) ≡ None
      none_at None here g = none_there i (waits_as tag) tag (waits_asks tag) here
      none_at (Some j) here g = none_held j here (task_at order j) refl g

  pub none_awaited : number_waiting order tag (place_of places tag) ≡ None → false ≡ list_any (waits_as tag) tasks
  none_awaited h = sym (any_found (waits_as tag) tasks ∙ ap (λ o. is_some o) (none_waits h))

  pub none_dropped : number_waiting order tag (place_of places tag) ≡ None → tasks ≡ filter (λ t. not (waits_as tag t)) tasks
  none_dropped h = sym (filter_none (waits_as tag) tasks (none_waits h))

  module _ (k : ℕ) (f : IsFound order places tag k) where
    -- the command at the number is the one that waits
    pub one_waits : find (waits_as tag) tasks ≡ Some f.task
    one_waits =
        ap (find (waits_as tag)) (sym v) ∙ found_there i (waits_as tag) tag (waits_asks tag) k f.placed (Some f.task) (sym f.held)
        ∙ ap (λ c. cond c (Some f.task) None) f.waits

    pub one_awaited : true ≡ list_any (waits_as tag) tasks
    one_awaited = sym (any_found (waits_as tag) tasks ∙ ap (λ o. is_some o) one_waits)

    pub one_dropped : values_of (remove_entry (is_at (nat_cmp k)) order) ≡ filter (λ t. not (waits_as tag t)) tasks
    one_dropped =
        sym (filter_only (waits_as tag) k order f.task i.ordered (only_there i (waits_as tag) tag (waits_asks tag) k f.placed) f.held f.waits)
        ∙ ap (filter (λ t. not (waits_as tag t))) v

    pub one_replaced : (w : Task) → w.tag.0 ≡ tag → values_of (set_value (is_at (nat_cmp k)) order w) ≡ replaced w tasks
    one_replaced w same =
        sym (replaced_only tag k order f.task w i.ordered (only_there i (waits_as tag) tag (waits_asks tag) k f.placed) same f.held f.waits)
        ∙ ap (replaced w) v

apart_by : (k q : ℕ) (b : Bool) → is_at (nat_cmp k) q ≡ b → (k ≡ q → ⊥) → is_at (nat_cmp k) q ≡ false
apart_by k q true h n = absurd (n (same_key k q h))
apart_by k q false h n = h

-- another key
apart : (k q : ℕ) → (k ≡ q → ⊥) → is_at (nat_cmp k) q ≡ false
apart k q n = apart_by k q (is_at (nat_cmp k) q) refl n

-- what the index keeps of one command
record Keeps (places : List (ℕ × ℕ)) (next j : ℕ) (u : Task) : Type 0 where
  below : j < next
  placed : place_of places u.tag.0 ≡ Some j

-- a command changes, and keeps its tag
pub IsIndexed-changed : (m n : BTreeMap ℕ Task) (places : List (ℕ × ℕ)) (next k : ℕ) (t w : Task) → IsIndexed m.entries places next → task_at m.entries k ≡ Some t → w.tag.0 ≡ t.tag.0 → UpdatesBy nat_cmp (nat_cmp k) m n (Some w) → IsStrictlySortedBy nat_cmp (keys n) → IsIndexed n.entries places next
IsIndexed-changed m n places next k t w i held same changed s = record {
  ordered = s;
  below = λ j u f. (was j u f (is_at (nat_cmp k) j) refl).below;
  placed = λ j u f. (was j u f (is_at (nat_cmp k) j) refl).placed;
}
  where
    was : (j : ℕ) (u : Task) → task_at n.entries j ≡ Some u → (b : Bool) → is_at (nat_cmp k) j ≡ b → Keeps places next j u
    was j u f true h =
        let number : k ≡ j = same_key k j h in
        let both : Some w ≡ Some u = sym changed.1 ∙ ap (λ x. task_at n.entries x) number ∙ f in
        let task : w ≡ u = cc in
        let here : task_at m.entries j ≡ Some t = ap (λ x. task_at m.entries x) (sym number) ∙ held in
        record { below = i.below j t here; placed = ap (λ (x : Task). place_of places x.tag.0) (sym task) ∙ ap (λ x. place_of places x) same ∙ i.placed j t here }
    was j u f false h = let here : task_at m.entries j ≡ Some u = sym (changed.2 j h) ∙ f in record { below = i.below j u here; placed = i.placed j u here }

-- a place for a tag that no command has
pub IsIndexed-marked : (order : List (ℕ × Task)) (q r : BTreeMap ℕ ℕ) (next tag k : ℕ) (tasks : List Task) → IsIndexed order q.entries next → values_of order ≡ tasks → is_busy tag tasks ≡ false → Updates nat_cmp q r tag (Some k) → IsIndexed order r.entries next
IsIndexed-marked order q r next tag k tasks i v free marked = record {
  ordered = i.ordered;
  below = i.below;
  placed = λ j u f. marked.2 u.tag.0 (apart tag u.tag.0 (other j u f)) ∙ i.placed j u f;
}
  where
    other : (j : ℕ) (u : Task) → task_at order j ≡ Some u → tag ≡ u.tag.0 → ⊥
    other j u f same = let h : has_tag tag u ≡ false = not_any (has_tag tag) order j u (ap (is_busy tag) v ∙ free) f in let g : has_tag tag u ≡ true = eq-eqb u.tag.0 tag (sym same) in cc

-- a command comes behind the others
pub IsIndexed-pushed : (m n : BTreeMap ℕ Task) (places : List (ℕ × ℕ)) (next : ℕ) (t : Task) → IsIndexed m.entries places next → place_of places t.tag.0 ≡ Some next → Updates nat_cmp m n next (Some t) → IsStrictlySortedBy nat_cmp (keys n) → IsIndexed n.entries places (next + 1)
IsIndexed-pushed m n places next t i here pushed s = record {
  ordered = s;
  below = λ j u f. (is j u f (is_at (nat_cmp next) j) refl).below;
  placed = λ j u f. (is j u f (is_at (nat_cmp next) j) refl).placed;
}
  where
    is : (j : ℕ) (u : Task) → task_at n.entries j ≡ Some u → (b : Bool) → is_at (nat_cmp next) j ≡ b → Keeps places (next + 1) j u
    is j u f true h =
        let number : next ≡ j = same_key next j h in
        let both : Some t ≡ Some u = sym pushed.1 ∙ ap (λ x. task_at n.entries x) number ∙ f in
        let task : t ≡ u = cc in
        record { below = omega arith; placed = ap (λ (x : Task). place_of places x.tag.0) (sym task) ∙ here ∙ ap (λ (x : ℕ). Some x) number }
    is j u f false h =
        let was : task_at m.entries j ≡ Some u = sym (pushed.2 j h) ∙ f in
        let below : j < next = i.below j u was in
        record { below = omega arith; placed = i.placed j u was }

-- it comes last
pub pushed_last : (m n : BTreeMap ℕ Task) (places : List (ℕ × ℕ)) (next : ℕ) (t : Task) (tasks : List Task) → IsIndexed m.entries places next → values_of m.entries ≡ tasks → n.entries ≡ insert_entry nat_cmp m.entries next t → values_of n.entries ≡ tasks ++ t ∷ []
pushed_last m n places next t tasks i v pushed =
    ap values_of (pushed ∙ insert_last m.entries next t i.ordered i.below) ∙ values_last m.entries next t ∙ ap (λ (x : List Task). x ++ t ∷ []) v

some_same : (x y : ℕ × Task) → Some x ≡ Some y → x ≡ y
some_same x y h = let e : Some x ≡ Some y = h in cc

none_some : (x : ℕ × Task) → None ≡ Some x → ⊥
none_some x h = let e : None ≡ Some x = h in cc

-- where the first one waits, none is to be executed
pub stuck_first : (es : List (ℕ × Task)) (k : ℕ) (t : Task) (tasks : List Task) → slice_get es 0 ≡ Some (k, t) → values_of es ≡ tasks → is_waiting t ≡ true → is_stuck tasks ≡ true
stuck_first [] k t tasks first v h = absurd (none_some (k, t) first)
stuck_first (e ∷ es) k t tasks first v h =
    let same : e ≡ (k, t) = some_same e (k, t) first in
    ap is_stuck (sym v) ∙ ap (λ (x : ℕ × Task). is_waiting x.1) same ∙ h

-- some commands go out, and the places of those that are gone
pub IsIndexed-filtered : (p : Task → Bool) (order order' : List (ℕ × Task)) (places places' : List (ℕ × ℕ)) (next : ℕ) → IsIndexed order places next → IsStrictlySortedBy nat_cmp (keys_of order') → IsStrictlySortedBy nat_cmp (keys_of places) → order' ≡ filter (λ e. p e.1) order → places' ≡ filter (λ e. is_some (task_at order' e.1)) places → IsIndexed order' places' next
IsIndexed-filtered p order order' places places' next i s d kept left = record {
  ordered = s;
  below = λ j u f. i.below j u (was j u f);
  placed = λ j u f.
      ap (λ es. place_of es u.tag.0) left ∙ lookup-filter-values (eq_by_cmp_equiv nat_cmp_total) (λ k. is_some (task_at order' k)) u.tag.0 places (IsDistinct-from_sorted nat_cmp (keys_of places) d)
      ∙ ap (option_filter (λ k. is_some (task_at order' k))) (i.placed j u (was j u f))
      ∙ ap (λ o. cond (is_some o) (Some j) None) f;
}
  where
    passed : (j : ℕ) (u : Task) (o : Option Task) → option_filter p o ≡ Some u → o ≡ Some u
    passed j u None h = h
    passed j u (Some t) h = kept_same (p t) h
      where
        kept_same : (c : Bool) → cond c (Some t) None ≡ Some u → Some t ≡ Some u
        kept_same true g = g
        kept_same false g = let e : None ≡ Some u = g in cc

    was : (j : ℕ) (u : Task) → task_at order' j ≡ Some u → task_at order j ≡ Some u
    was j u f =
        passed j u (task_at order j)
        (sym (ap (λ es. task_at es j) kept ∙ lookup-filter-values (eq_by_cmp_equiv nat_cmp_total) p j order (IsDistinct-from_sorted nat_cmp (keys_of order) i.ordered)) ∙ f)

-- the command as it is found under the number
pub waits_here : (o : Option Task) (t u : Task) (tag : ℕ) → o ≡ Some u → Some t ≡ o → waits_as tag u ≡ true → waits_as tag t ≡ true
waits_here o t u tag h is w = let both : Some t ≡ Some u = is ∙ h in let same : t ≡ u = cc in ap (waits_as tag) same ∙ w

abbrev pub found_as : {order : List (ℕ × Task)} {places : List (ℕ × ℕ)} {tag k : ℕ} → IsFound order places tag k → (t : Task) → Some t ≡ task_at order k → IsFound order places tag k
found_as {order} {tag = tag} {k = k} f t is = record { placed = f.placed; task = t; held = sym is; waits = waits_here (task_at order k) t f.task tag f.held is f.waits }

pub waiting_tag : (tag : ℕ) (t : Task) → waits_as tag t ≡ true → t.tag.0 ≡ tag
waiting_tag tag t w = (waits_asks tag).tagged t w

-- ---- a fill that answered so

module _ (r : Result Bool NoMemory) (t w : Task) (payload : List ℕ) (transfer burst : ℕ) (found : Option Task) (values tasks : List Task) where
  pub filled_tag : IfOk r (λ asked. w ≡ (if asked then asking_by transfer burst (grown t payload) else grown t payload)) → OnErr r (w ≡ t) → w.tag.0 ≡ t.tag.0
  filled_tag = tag_of r
    where
      tag_of : (r : Result Bool NoMemory) → IfOk r (λ asked. w ≡ (if asked then asking_by transfer burst (grown t payload) else grown t payload)) → OnErr r (w ≡ t) → w.tag.0 ≡ t.tag.0
      tag_of (Ok true) ok err = ap (λ (x : Task). x.tag.0) ok
      tag_of (Ok false) ok err = ap (λ (x : Task). x.tag.0) ok
      tag_of (Err e) ok err = ap (λ (x : Task). x.tag.0) err

  pub filled_asked : IfOk r (λ asked. asked ≡ is_asking (grown t payload)) → found ≡ Some t → IfOk r (λ asked. asked ≡ asks_for payload found)
  filled_asked = asked_of r
    where
      asked_of : (r : Result Bool NoMemory) → IfOk r (λ asked. asked ≡ is_asking (grown t payload)) → found ≡ Some t → IfOk r (λ asked. asked ≡ asks_for payload found)
      asked_of (Ok a) ok e = ok ∙ sym (ap (asks_for payload) e)
      asked_of (Err x) ok e = tt

  pub filled_tasks : IfOk r (λ asked. asked ≡ is_asking (grown t payload)) → IfOk r (λ asked. w ≡ (if asked then asking_by transfer burst (grown t payload) else grown t payload)) → values ≡ replaced w tasks → found ≡ Some t → OnOk r (values ≡ filled_in transfer burst payload found tasks)
  filled_tasks = tasks_of r
    where
      tasks_of : (r : Result Bool NoMemory) → IfOk r (λ asked. asked ≡ is_asking (grown t payload)) → IfOk r (λ asked. w ≡ (if asked then asking_by transfer burst (grown t payload) else grown t payload)) → values ≡ replaced w tasks → found ≡ Some t → OnOk r (values ≡ filled_in transfer burst payload found tasks)
      tasks_of (Ok a) asked ok put e =
          put ∙ ap (λ x. replaced x tasks) (ok ∙ ap (λ b. if b then asking_by transfer burst (grown t payload) else grown t payload) asked)
          ∙ sym (ap (λ o. filled_in transfer burst payload o tasks) e)
      tasks_of (Err x) asked ok put e = tt

  pub filled_err : OnErr r (w ≡ t) → (w ≡ t → values ≡ tasks) → OnErr r (values ≡ tasks)
  filled_err = err_of r
    where
      err_of : (r : Result Bool NoMemory) → OnErr r (w ≡ t) → (w ≡ t → values ≡ tasks) → OnErr r (values ≡ tasks)
      err_of (Ok a) err same = tt
      err_of (Err x) err same = same err

-- what was found, written back
pub unchanged_by : (es es' : List (ℕ × Task)) (k : ℕ) (t w : Task) (tasks : List Task) → values_of es ≡ tasks → es' ≡ set_value (is_at (nat_cmp k)) es w → Some t ≡ task_at es k → w ≡ t → values_of es' ≡ tasks
unchanged_by es es' k t w tasks v put is same =
    ap values_of (put ∙ ap (λ x. set_value (is_at (nat_cmp k)) es x) same ∙ set_value_same (is_at (nat_cmp k)) es t (sym is)) ∙ v

-- one that asks for more waits still
asking_waits : (tag : ℕ) (t : Task) (payload : List ℕ) (transfer burst : ℕ) → waits_as tag t ≡ true → is_asking (grown t payload) ≡ true → waits_as tag (asking_by transfer burst (grown t payload)) ≡ true
asking_waits tag t payload transfer burst w h =
    and_from (has_tag tag t) (is_waiting (grown t payload)) (and_parts (has_tag tag t) (is_waiting t) w).0
    (and_parts (length (grown t payload).payload == t.end) (is_waiting (grown t payload)) h).1

-- so it is found again
pub filled_again : (r : Result Bool NoMemory) (tag : ℕ) (t w : Task) (payload : List ℕ) (transfer burst : ℕ) (values tasks : List Task) → waits_as tag t ≡ true → IfOk r (λ asked. asked ≡ is_asking (grown t payload)) → IfOk r (λ asked. w ≡ (if asked then asking_by transfer burst (grown t payload) else grown t payload)) → values ≡ replaced w tasks → find (waits_as tag) tasks ≡ Some t → IfOk r (λ asked. asked ≡ true → find (waits_as tag) values ≡ asked_again transfer burst payload (find (waits_as tag) tasks))
filled_again (Ok a) tag t w payload transfer burst values tasks waits asked ok put found = λ yes.
    let again : Task = asking_by transfer burst (grown t payload) in
    let here : waits_as tag again ≡ true = asking_waits tag t payload transfer burst waits (sym asked ∙ yes) in
    let is : w ≡ again = ok ∙ ap (λ b. if b then asking_by transfer burst (grown t payload) else grown t payload) yes in
    ap (find (waits_as tag)) (put ∙ ap (λ x. replaced x tasks) is) ∙ find_replaced tag again tasks (waiting_tag tag t waits) here (ap (λ o. is_some o) found)
    ∙ sym (ap (asked_again transfer burst payload) found)
filled_again (Err e) tag t w payload transfer burst values tasks waits asked ok put found = tt
