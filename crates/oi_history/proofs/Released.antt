-- What stands once tags are released, word by word.
use Rattle.std.proofs.Common.{◌≡◌, ◌≤◌, ◌<◌, ◌+◌, ◌∙◌, ◌==◌, ◌||◌, ℕ, suc, zero, Bool, true, false, not, List, [], ◌∷◌, ◌++◌, Option, Some, None, sym, ap, refl, arith, append-nil, drop, filter, get_or, length, length-append, slice_get, if◌then◌else◌}
use Rattle.std.proofs.lemmas.Bool.{eqb-true, true≢false}
use Rattle.std.proofs.lemmas.List.{append_assoc}
use Rattle.std.proofs.lemmas.List.Elements.{filter-append}
use Rattle.std.specs.List.{flat_map}
use Rattle.std.specs.Option.{option_and_then, option_map_or}
use Rattle.oi_base.specs.declared.login.Params.{Params}
use Rattle.oi_base.specs.declared.tag.Tag.{Tag}
use Rattle.oi_history.specs.Judging.{is_over}
use Rattle.oi_history.specs.Meanings.{Meanings, step}
use Rattle.oi_history.specs.Owing.{reaped}
use Rattle.oi_history.specs.Queues.{drawable, drawn, drawn_by, is_wanted}
use Rattle.oi_history.specs.Releasing.{asked_left, counts_left, data_left, released, tags_left, told_stat}
use Rattle.oi_history.specs.Tags.{holder}
use Rattle.oi_history.specs.Tasks.{is_live_on}
use Rattle.oi_history.specs.declared.allocated.Allocated.{Allocated}
use Rattle.oi_history.specs.declared.config.SessionConfig.{SessionConfig}
use Rattle.oi_history.specs.declared.event.Event.TheVariants.{Reap}
use Rattle.oi_history.specs.declared.owed.Queued.{Queued}
use Rattle.oi_history.specs.declared.owed.Solicited.{Solicited}
use Rattle.oi_history.specs.declared.task.Task.{Task}

-- a list without what has one of these tags

abbrev pub without_each : {A : Type 0} → (A → ℕ) → List Tag → List A → List A
without_each key [] xs = xs
without_each key (tag ∷ tags) xs = without_each key tags (filter (λ x. not (key x == tag.0)) xs)

filter-all : {A : Type 0} (xs : List A) → xs ≡ filter (λ x. true) xs
filter-all [] = refl
filter-all (x ∷ xs) = ap (λ z. x ∷ z) (filter-all xs)

not-or : (a b : Bool) → (if not a then not b else false) ≡ not (a || b)
not-or true b = refl
not-or false b = refl

twice-at : {A : Type 0} (p q r : A → Bool) (x : A) (xs : List A) (b : Bool) → q x ≡ b → (if b then p x else false) ≡ r x → filter p (filter q xs) ≡ filter r xs → filter p (filter q (x ∷ xs)) ≡ filter r (x ∷ xs)
twice-at p q r x xs true is same rest = rw (is, ← same) (ap (λ z. if p x then x ∷ z else z) rest)
twice-at p q r x xs false is same rest = rw (is, ← same) rest

twice : {A : Type 0} (p q r : A → Bool) → ((x : A) → (if q x then p x else false) ≡ r x) → (xs : List A) → filter p (filter q xs) ≡ filter r xs
twice p q r same [] = refl
twice p q r same (x ∷ xs) = twice-at p q r x xs (q x) refl (same x) (twice p q r same xs)

pub without-all : {A : Type 0} (key : A → ℕ) (tags : List Tag) (xs : List A) → without_each key tags xs ≡ filter (λ x. not (is_over tags (key x))) xs
without-all key [] xs = filter-all xs
without-all key (tag ∷ tags) xs =
    without-all key tags (filter (λ x. not (key x == tag.0)) xs)
    ∙ twice (λ x. not (is_over tags (key x))) (λ x. not (key x == tag.0)) (λ x. not (is_over (tag ∷ tags) (key x))) (λ x. not-or (key x == tag.0) (is_over tags (key x))) xs

-- the words of a release

pub record IsReleased (m r : Meanings) (tags : List Tag) : Type 0 where
  pub params : r.params ≡ m.params
  pub window : r.window ≡ m.window
  pub stat : r.stat ≡ m.stat
  pub tasks : r.tasks ≡ m.tasks
  pub handler : r.handler ≡ m.handler
  pub leaving : r.leaving ≡ m.leaving
  pub free : r.free ≡ m.free ++ tags
  pub busy : r.busy ≡ without_each (λ a. a.tag.0) tags m.busy
  pub queue : r.queue ≡ without_each (λ q. q.tag.0) tags m.queue
  pub solicited : r.solicited ≡ without_each (λ s. s.tag.0) tags m.solicited

reaped_is : (C : SessionConfig) (tags : List Tag) (m : Meanings) → IsReleased m (reaped C tags m) tags
reaped_is C [] m = record { params = refl; window = refl; stat = refl; tasks = refl; handler = refl; leaving = refl; free = sym (append-nil m.free); busy = refl; queue = refl; solicited = refl }
reaped_is C (tag ∷ tags) m =
    let more = reaped_is C tags (step C (Reap tag) 0 m) in
    record { params = more.params; window = more.window; stat = more.stat; tasks = more.tasks; handler = more.handler; leaving = more.leaving; free = more.free ∙ append_assoc m.free (tag ∷ []) tags; busy = more.busy; queue = more.queue; solicited = more.solicited }

pub released_is : (C : SessionConfig) (m : Meanings) → IsReleased m (released C m) m.ended
released_is C m = reaped_is C m.ended m

-- what the half that receives told

reaped_told : (C : SessionConfig) (tags : List Tag) (m : Meanings) → (reaped C tags m).told.stat ≡ told_stat tags m
reaped_told C [] m = refl
reaped_told C (tag ∷ []) m = refl
reaped_told C (tag ∷ next ∷ tags) m = reaped_told C (next ∷ tags) (step C (Reap tag) 0 m)

pub released_told : (C : SessionConfig) (m : Meanings) → (released C m).told.stat ≡ told_stat m.ended m
released_told C m = reaped_told C m.ended m

-- who holds a tag that was not released

holder-at : (tags : List Tag) (a : Allocated) (busy : List Allocated) (tag : ℕ) (b c : Bool) → is_over tags a.tag.0 ≡ b → (a.tag.0 == tag) ≡ c → is_over tags tag ≡ false
    → holder tag (tags_left tags busy) ≡ holder tag busy → holder tag (tags_left tags (a ∷ busy)) ≡ holder tag (a ∷ busy)
holder-at tags a busy tag true true over is kept rest = absurd (true≢false (sym over ∙ (ap (λ (n : ℕ). is_over tags n) (eqb-true a.tag.0 tag is) ∙ kept)))
holder-at tags a busy tag true false over is kept rest = rw (over, is) rest
holder-at tags a busy tag false c over is kept rest = rw over (ap (λ (z : Option ℕ). if a.tag.0 == tag then Some a.id else z) rest)

pub holder-left : (tags : List Tag) (busy : List Allocated) (tag : ℕ) → is_over tags tag ≡ false → holder tag (tags_left tags busy) ≡ holder tag busy
holder-left tags [] tag kept = refl
holder-left tags (a ∷ busy) tag kept = holder-at tags a busy tag (is_over tags a.tag.0) (a.tag.0 == tag) refl refl kept (holder-left tags busy tag kept)

-- R2Ts that count

wanted-left : (tags : List Tag) (busy : List Allocated) (tasks : List Task) (r : Solicited) → is_over tags r.tag.0 ≡ false → is_wanted (tags_left tags busy) tasks r ≡ is_wanted busy tasks r
wanted-left tags busy tasks r kept =
    ap (λ (o : Option ℕ). option_map_or (λ (t : Task). is_live_on r.tag.0 t.fate) (option_and_then (λ (id : ℕ). slice_get tasks id) o) false) (holder-left tags busy r.tag.0 kept)

drawable-at : (tags : List Tag) (busy : List Allocated) (tasks : List Task) (r : Solicited) (rs : List Solicited) (b : Bool) → is_over tags r.tag.0 ≡ b
    → drawable (tags_left tags busy) tasks (asked_left tags rs) ≡ filter (counts_left tags busy tasks) rs → drawable (tags_left tags busy) tasks (asked_left tags (r ∷ rs)) ≡ filter (counts_left tags busy tasks) (r ∷ rs)
drawable-at tags busy tasks r rs true over rest = rw over rest
drawable-at tags busy tasks r rs false over rest = rw (over, wanted-left tags busy tasks r over) (ap (λ (z : List Solicited). if is_wanted busy tasks r then r ∷ z else z) rest)

pub drawable-left : (tags : List Tag) (busy : List Allocated) (tasks : List Task) (rs : List Solicited) → drawable (tags_left tags busy) tasks (asked_left tags rs) ≡ filter (counts_left tags busy tasks) rs
drawable-left tags busy tasks [] = refl
drawable-left tags busy tasks (r ∷ rs) = drawable-at tags busy tasks r rs (is_over tags r.tag.0) refl (drawable-left tags busy tasks rs)

by-left : (params : Option Params) (tags : List Tag) (busy : List Allocated) (r : Solicited) → is_over tags r.tag.0 ≡ false → drawn_by params (tags_left tags busy) r ≡ drawn_by params busy r
by-left None tags busy r kept = refl
by-left (Some p) tags busy r kept = rw (holder-left tags busy r.tag.0 kept) refl

flat-at : (params : Option Params) (tags : List Tag) (busy : List Allocated) (tasks : List Task) (r : Solicited) (rs : List Solicited) (b c : Bool) → is_over tags r.tag.0 ≡ b → is_wanted busy tasks r ≡ c
    → flat_map (drawn_by params (tags_left tags busy)) (filter (counts_left tags busy tasks) rs) ≡ flat_map (drawn_by params busy) (filter (counts_left tags busy tasks) rs)
    → flat_map (drawn_by params (tags_left tags busy)) (filter (counts_left tags busy tasks) (r ∷ rs)) ≡ flat_map (drawn_by params busy) (filter (counts_left tags busy tasks) (r ∷ rs))
flat-at params tags busy tasks r rs true c over is rest = rw over rest
flat-at params tags busy tasks r rs false false over is rest = rw (over, is) rest
flat-at params tags busy tasks r rs false true over is rest = rw (over, is, by-left params tags busy r over) (ap (λ (z : List Queued). drawn_by params busy r ++ z) rest)

flat-left : (params : Option Params) (tags : List Tag) (busy : List Allocated) (tasks : List Task) (rs : List Solicited)
    → flat_map (drawn_by params (tags_left tags busy)) (filter (counts_left tags busy tasks) rs) ≡ flat_map (drawn_by params busy) (filter (counts_left tags busy tasks) rs)
flat-left params tags busy tasks [] = refl
flat-left params tags busy tasks (r ∷ rs) = flat-at params tags busy tasks r rs (is_over tags r.tag.0) (is_wanted busy tasks r) refl refl (flat-left params tags busy tasks rs)

pub drawn-left : (params : Option Params) (tags : List Tag) (busy : List Allocated) (tasks : List Task) (rs : List Solicited)
    → drawn params (tags_left tags busy) tasks (asked_left tags rs) ≡ flat_map (drawn_by params busy) (filter (counts_left tags busy tasks) rs)
drawn-left params tags busy tasks rs = ap (flat_map (drawn_by params (tags_left tags busy))) (drawable-left tags busy tasks rs) ∙ flat-left params tags busy tasks rs

-- they ask for no more than before

fewer-at : (params : Option Params) (tags : List Tag) (busy : List Allocated) (tasks : List Task) (r : Solicited) (rs : List Solicited) (b c : Bool) → is_over tags r.tag.0 ≡ b → is_wanted busy tasks r ≡ c
    → length (flat_map (drawn_by params busy) (filter (counts_left tags busy tasks) rs)) ≤ length (drawn params busy tasks rs)
    → length (flat_map (drawn_by params busy) (filter (counts_left tags busy tasks) (r ∷ rs))) ≤ length (drawn params busy tasks (r ∷ rs))
fewer-at params tags busy tasks r rs true true over is rest = rw (over, is) (omega (arith, rest, length-append (drawn_by params busy r) (drawn params busy tasks rs)))
fewer-at params tags busy tasks r rs true false over is rest = rw (over, is) rest
fewer-at params tags busy tasks r rs false true over is rest =
    rw (over, is) (omega (arith, rest, length-append (drawn_by params busy r) (drawn params busy tasks rs), length-append (drawn_by params busy r) (flat_map (drawn_by params busy) (filter (counts_left tags busy tasks) rs))))
fewer-at params tags busy tasks r rs false false over is rest = rw (over, is) rest

pub drawn-fewer : (params : Option Params) (tags : List Tag) (busy : List Allocated) (tasks : List Task) (rs : List Solicited)
    → length (flat_map (drawn_by params busy) (filter (counts_left tags busy tasks) rs)) ≤ length (drawn params busy tasks rs)
drawn-fewer params tags busy tasks [] = omega arith
drawn-fewer params tags busy tasks (r ∷ rs) = fewer-at params tags busy tasks r rs (is_over tags r.tag.0) (is_wanted busy tasks r) refl refl (drawn-fewer params tags busy tasks rs)

-- the queue and the R2Ts of a release, by filters

pub queue_left : (C : SessionConfig) (m : Meanings) → (released C m).queue ≡ data_left m.ended m.queue
queue_left C m = (released_is C m).queue ∙ without-all (λ (q : Queued). q.tag.0) m.ended m.queue

pub drawn_released : (C : SessionConfig) (m : Meanings) → drawn (released C m).params (released C m).busy (released C m).tasks (released C m).solicited
    ≡ flat_map (drawn_by m.params m.busy) (filter (counts_left m.ended m.busy m.tasks) m.solicited)
drawn_released C m =
    let r = released_is C m in
    let busy : (released C m).busy ≡ tags_left m.ended m.busy = r.busy ∙ without-all (λ (a : Allocated). a.tag.0) m.ended m.busy in
    let asked : (released C m).solicited ≡ asked_left m.ended m.solicited = r.solicited ∙ without-all (λ (s : Solicited). s.tag.0) m.ended m.solicited in
    rw (r.params, busy, r.tasks, asked) (drawn-left m.params m.ended m.busy m.tasks m.solicited)

pub drawable_released : (C : SessionConfig) (m : Meanings) → drawable (released C m).busy (released C m).tasks (released C m).solicited ≡ filter (counts_left m.ended m.busy m.tasks) m.solicited
drawable_released C m =
    let r = released_is C m in
    let busy : (released C m).busy ≡ tags_left m.ended m.busy = r.busy ∙ without-all (λ (a : Allocated). a.tag.0) m.ended m.busy in
    let asked : (released C m).solicited ≡ asked_left m.ended m.solicited = r.solicited ∙ without-all (λ (s : Solicited). s.tag.0) m.ended m.solicited in
    rw (busy, r.tasks, asked) (drawable-left m.ended m.busy m.tasks m.solicited)

-- the first of two lists

pub first_front : (xs ys : List Queued) (q : Queued) → Some q ≡ slice_get xs 0 → slice_get (xs ++ ys) 0 ≡ Some q
first_front [] ys q is = absurd cc
first_front (x ∷ xs) ys q is = sym is

pub first_later : (xs ys : List Queued) → None ≡ slice_get xs 0 → slice_get (xs ++ ys) 0 ≡ slice_get ys 0
first_later [] ys is = refl
first_later (x ∷ xs) ys is = absurd cc

pub left_front : (ended : List Tag) (xs ys all : List Queued) (q : Queued) → xs ++ ys ≡ all → Some q ≡ slice_get (data_left ended xs) 0 → Some q ≡ slice_get (data_left ended all) 0
left_front ended xs ys all q is front =
    sym (first_front (data_left ended xs) (data_left ended ys) q front) ∙ ap (λ (z : List Queued). slice_get z 0) (sym (filter-append (λ (x : Queued). not (is_over ended x.tag.0)) xs ys) ∙ ap (data_left ended) is)

pub left_later : (ended : List Tag) (xs ys all : List Queued) → xs ++ ys ≡ all → None ≡ slice_get (data_left ended xs) 0 → slice_get (data_left ended ys) 0 ≡ slice_get (data_left ended all) 0
left_later ended xs ys all is front =
    sym (first_later (data_left ended xs) (data_left ended ys) front) ∙ ap (λ (z : List Queued). slice_get z 0) (sym (filter-append (λ (x : Queued). not (is_over ended x.tag.0)) xs ys) ∙ ap (data_left ended) is)

flat_cons : (f : Solicited → List Queued) (r : Solicited) (rs : List Solicited) (b : Bool) → flat_map f (if b then r ∷ rs else rs) ≡ flat_map f (if b then r ∷ [] else []) ++ flat_map f rs
flat_cons f r rs true = ap (λ (z : List Queued). z ++ flat_map f rs) (sym (append-nil (f r)))
flat_cons f r rs false = refl

pub drawn_front : (f : Solicited → List Queued) (p : Solicited → Bool) (r : Solicited) (rs : List Solicited) (q : Queued) → Some q ≡ slice_get (flat_map f (filter p (r ∷ []))) 0 → slice_get (flat_map f (filter p (r ∷ rs))) 0 ≡ Some q
drawn_front f p r rs q front =
    ap (λ (z : List Queued). slice_get z 0) (flat_cons f r (filter p rs) (p r)) ∙ first_front (flat_map f (filter p (r ∷ []))) (flat_map f (filter p rs)) q front

pub drawn_later : (f : Solicited → List Queued) (p : Solicited → Bool) (r : Solicited) (rs : List Solicited) → None ≡ slice_get (flat_map f (filter p (r ∷ []))) 0 → slice_get (flat_map f (filter p (r ∷ rs))) 0 ≡ slice_get (flat_map f (filter p rs)) 0
drawn_later f p r rs front =
    ap (λ (z : List Queued). slice_get z 0) (flat_cons f r (filter p rs) (p r)) ∙ first_later (flat_map f (filter p (r ∷ []))) (flat_map f (filter p rs)) front

pub drop_front : (f : Solicited → List Queued) (p : Solicited → Bool) (rs : List Solicited) (i : ℕ) (d : Solicited) (q : Queued) → i < length rs → Some q ≡ slice_get (flat_map f (filter p (get_or rs i d ∷ []))) 0 → slice_get (flat_map f (filter p (drop i rs))) 0 ≡ Some q
drop_front f p [] i d q below front = absurd (omega (arith, below))
drop_front f p (r ∷ rs) zero d q below front = drawn_front f p r rs q front
drop_front f p (r ∷ rs) (suc i) d q below front = drop_front f p rs i d q (omega (arith, below)) front

pub drop_later : (f : Solicited → List Queued) (p : Solicited → Bool) (rs : List Solicited) (i : ℕ) (d : Solicited) → i < length rs → None ≡ slice_get (flat_map f (filter p (get_or rs i d ∷ []))) 0
    → slice_get (flat_map f (filter p (drop i rs))) 0 ≡ slice_get (flat_map f (filter p (drop (i + 1) rs))) 0
drop_later f p [] i d below front = absurd (omega (arith, below))
drop_later f p (r ∷ rs) zero d below front = drawn_later f p r rs front
drop_later f p (r ∷ rs) (suc i) d below front =
    let same : suc (i + 1) ≡ suc i + 1 = omega arith in drop_later f p rs i d (omega (arith, below)) front ∙ ap (λ (k : ℕ). slice_get (flat_map f (filter p (drop k (r ∷ rs)))) 0) same
