-- Counts of submissions, one after another.
use Rattle.std.proofs.Common.{◌≡◌, ◌∙◌, ◌≤◌, ◌<◌, ◌+◌, ℕ, suc, zero, Bool, true, false, not, cond, List, [], ◌∷◌, drop-cons, ◌++◌, length, map, take, drop, ap, subst, sym, refl, arith, add-one, append-nil, append_assoc, get_or, length-append, Option, if◌then◌else◌}
use Rattle.std.proofs.Math.ListN.{set}
use Rattle.std.proofs.lemmas.List.{length-take-le, take_more}
use Rattle.std.specs.VecDeque.{deque_capacity, deque_len}
use Rattle.oi_base.specs.declared.tag.Tag.{Tag}
use Rattle.oi_history.specs.Handling.{is_live}
use Rattle.oi_history.specs.Meanings.{ended_step, tag_over, tags_over}
use Rattle.oi_history.specs.Recovering.{map_from}
use Rattle.oi_history.specs.Standing.{live_in, live_tag, pending_in, tag_gone}
use Rattle.oi_history.specs.Submitted.{AreKept, AreMoved, AreStepped, SubmissionsView}
use Rattle.oi_history.specs.Tallies.{AreCounted, HasPlace, HavePlaces, IsCounted}
use Rattle.oi_history.specs.Tasks.{changed, is_done}
use Rattle.oi_history.specs.declared.event.Event.{Event}
use Rattle.oi_history.specs.declared.fate.Fate.{Fate}
use Rattle.oi_history.specs.declared.tally.Tally.{Tally}
use Rattle.oi_history.specs.declared.task.Task.{Task}
use Rattle.oi_history.proofs.Places.{place_changed}
use Rattle.oi_history.proofs.Standing.{AreFallen, fallen-places, fallen-tries, gone_over, live-cons, over_one, over_self, pending-cons}

-- one submission

pub place_for : (tally : Tally) (f g : Fate) (tag : Option Tag) → HasPlace tally f → tag ≡ live_tag f → deque_len tally.ended + length (tag_gone tag g) ≤ deque_capacity tally.ended
place_for tally f g tag h is =
    let same : tag_gone tag g ≡ tag_over f g = ap (λ (o : Option Tag). tag_gone o g) is ∙ gone_over f g in
    rw same (omega (arith, h.ended, over_one f g))

pub counted_for : (tally : Tally) (f : Fate) (done : Bool) → HasPlace tally f → done ≡ is_done f → cond (not done) 1 0 ≤ tally.pending
counted_for tally f done h is = rw is h.pending

pub noted : (old new : Tally) (f g : Fate) (tag : Option Tag) (done : Bool) → tag ≡ live_tag f → done ≡ is_done f → new.ended.items ≡ old.ended.items ++ tag_gone tag g
    → new.pending + cond (not done) 1 0 ≡ old.pending + cond (not (is_done g)) 1 0 → deque_capacity new.ended ≡ deque_capacity old.ended → IsCounted old new f g
noted old new f g tag done tag_is done_is ended pending capacity = record {
  ended = ended ∙ ap (λ (z : List Tag). old.ended.items ++ z) (ap (λ (o : Option Tag). tag_gone o g) tag_is ∙ gone_over f g);
  pending = rw (← done_is) pending;
  capacity = capacity;
}

pub unmoved : (tally : Tally) (f : Fate) → IsCounted tally tally f f
unmoved tally f = record { ended = rw (over_self f) (sym (append-nil tally.ended.items)); pending = refl; capacity = refl }

pub length-ended : (old new : Tally) (f g : Fate) → IsCounted old new f g → deque_len new.ended ≡ deque_len old.ended + length (tag_over f g)
length-ended old new f g h = omega (arith, new.ended.ok, old.ended.ok, ap length h.ended, length-append old.ended.items (tag_over f g))

-- lists

pub over_same : (ts : List Task) → tags_over ts ts ≡ []
over_same [] = refl
over_same (t ∷ ts) = rw (over_self t.fate) (over_same ts)

over-at : (id : ℕ) (f : Task → Task) (ts : List Task) (d : Task) → id < length ts → tags_over ts (changed id f ts) ≡ tag_over (get_or ts id d).fate (f (get_or ts id d)).fate
over-at id f [] d h = absurd (omega (arith, h))
over-at zero f (t ∷ ts) d h = rw (over_same ts) (append-nil (tag_over t.fate (f t).fate))
over-at (suc id) f (t ∷ ts) d h = rw (over_self t.fate) (over-at id f ts d (omega (arith, h)))

pending-first : (t u : Task) (ts : List Task) → pending_in (t ∷ ts) + cond (not (is_done u.fate)) 1 0 ≡ pending_in (u ∷ ts) + cond (not (is_done t.fate)) 1 0
pending-first t u ts = omega (arith, pending-cons t ts, pending-cons u ts)

pending-later : (t : Task) (ts us : List Task) (m n : ℕ) → pending_in ts + m ≡ pending_in us + n → pending_in (t ∷ ts) + m ≡ pending_in (t ∷ us) + n
pending-later t ts us m n h = omega (arith, pending-cons t ts, pending-cons t us, h)

pending-at : (id : ℕ) (f : Task → Task) (ts : List Task) (d : Task) → id < length ts
    → pending_in ts + cond (not (is_done (f (get_or ts id d)).fate)) 1 0 ≡ pending_in (changed id f ts) + cond (not (is_done (get_or ts id d).fate)) 1 0
pending-at id f [] d h = absurd (omega (arith, h))
pending-at zero f (t ∷ ts) d h = pending-first t (f t) ts
pending-at (suc id) f (t ∷ ts) d h = pending-later t ts (changed id f ts) (cond (not (is_done (f (get_or ts id d)).fate)) 1 0) (cond (not (is_done (get_or ts id d).fate)) 1 0) (pending-at id f ts d (omega (arith, h)))

live-first : (t : Task) (ts : List Task) → cond (is_live t.fate) 1 0 ≤ live_in (t ∷ ts)
live-first t ts = omega (arith, live-cons t ts)

live-later : (t : Task) (ts : List Task) (m : ℕ) → m ≤ live_in ts → m ≤ live_in (t ∷ ts)
live-later t ts m h = omega (arith, live-cons t ts, h)

open-first : (t : Task) (ts : List Task) → cond (not (is_done t.fate)) 1 0 ≤ pending_in (t ∷ ts)
open-first t ts = omega (arith, pending-cons t ts)

open-later : (t : Task) (ts : List Task) (m : ℕ) → m ≤ pending_in ts → m ≤ pending_in (t ∷ ts)
open-later t ts m h = omega (arith, pending-cons t ts, h)

live-at : (id : ℕ) (ts : List Task) (d : Task) → id < length ts → cond (is_live (get_or ts id d).fate) 1 0 ≤ live_in ts
live-at id [] d h = absurd (omega (arith, h))
live-at zero (t ∷ ts) d h = live-first t ts
live-at (suc id) (t ∷ ts) d h = live-later t ts _ (live-at id ts d (omega (arith, h)))

open-at : (id : ℕ) (ts : List Task) (d : Task) → id < length ts → cond (not (is_done (get_or ts id d).fate)) 1 0 ≤ pending_in ts
open-at id [] d h = absurd (omega (arith, h))
open-at zero (t ∷ ts) d h = open-first t ts
open-at (suc id) (t ∷ ts) d h = open-later t ts _ (open-at id ts d (omega (arith, h)))

pub place-at : (tally : Tally) (id : ℕ) (ts : List Task) (x : Task) → HavePlaces tally ts → id < length ts → x ≡ get_or ts id x → HasPlace tally x.fate
place-at tally id ts x h there is = rw is (record { ended = omega (arith, h.ended, live-at id ts x there); pending = omega (arith, h.pending, open-at id ts x there) })

pub counted-at : (old new : Tally) (id : ℕ) (f : Task → Task) (ts : List Task) (x v : Task) → id < length ts → x ≡ get_or ts id x → v ≡ f x → IsCounted old new x.fate v.fate → AreCounted old new ts (changed id f ts)
counted-at old new id f ts x v there is makes h =
    let moved : v ≡ f (get_or ts id x) = makes ∙ ap f is in
    let all : IsCounted old new (get_or ts id x).fate (f (get_or ts id x)).fate = subst (λ (y : Task). IsCounted old new y.fate (f (get_or ts id x)).fate) is (subst (λ (y : Task). IsCounted old new x.fate y.fate) moved h) in
    record {
      ended = rw (over-at id f ts x there) all.ended;
      pending = omega (arith, all.pending, pending-at id f ts x there);
      capacity = all.capacity;
    }

pub set_counted : (old new : Tally) (id : ℕ) (ts : List Task) (x v : Task) → id < length ts → x ≡ get_or ts id x → IsCounted old new x.fate v.fate → AreCounted old new ts (set ts id v)
set_counted old new id ts x v there is h =
    subst (λ (z : List Task). AreCounted old new ts z) (sym (place_changed id (λ (t : Task). v) ts x v there is refl)) (counted-at old new id (λ (t : Task). v) ts x v there is refl h)

pub counted-none : (tally : Tally) (ts : List Task) → AreCounted tally tally ts ts
counted-none tally ts = record { ended = rw (over_same ts) (sym (append-nil tally.ended.items)); pending = refl; capacity = refl }

-- a loop over all

tags_over-append : (ts us : List Task) (t u : Task) → length us ≡ length ts → tags_over (ts ++ t ∷ []) (us ++ u ∷ []) ≡ tags_over ts us ++ tag_over t.fate u.fate
tags_over-append [] [] t u is = append-nil (tag_over t.fate u.fate)
tags_over-append [] (v ∷ us) t u is = absurd (omega (arith, is))
tags_over-append (s ∷ ts) [] t u is = absurd (omega (arith, is))
tags_over-append (s ∷ ts) (v ∷ us) t u is =
    ap (λ (z : List Tag). tag_over s.fate v.fate ++ z) (tags_over-append ts us t u (omega (arith, is))) ∙ sym (append_assoc (tag_over s.fate v.fate) (tags_over ts us) (tag_over t.fate u.fate))

pending-append : (ts : List Task) (t : Task) → pending_in (ts ++ t ∷ []) ≡ pending_in ts + cond (not (is_done t.fate)) 1 0
pending-append [] t = omega (arith, pending-cons t [])
pending-append (s ∷ ts) t = omega (arith, pending-cons s ts, pending-cons s (ts ++ t ∷ []), pending-append ts t)

live-drop : (ts : List Task) (i : ℕ) (d : Task) → i < length ts → live_in (drop i ts) ≡ cond (is_live (get_or ts i d).fate) 1 0 + live_in (drop (i + 1) ts)
live-drop ts i d h = rw (drop-cons ts i d h, ← add-one i) (live-cons (get_or ts i d) (drop (i + 1) ts))

pending-drop : (ts : List Task) (i : ℕ) (d : Task) → i < length ts → pending_in (drop i ts) ≡ cond (not (is_done (get_or ts i d).fate)) 1 0 + pending_in (drop (i + 1) ts)
pending-drop ts i d h = rw (drop-cons ts i d h, ← add-one i) (pending-cons (get_or ts i d) (drop (i + 1) ts))

map_from-append : (n : ℕ) (f : ℕ → Task → Task) (ts : List Task) (t : Task) → map_from n f (ts ++ t ∷ []) ≡ map_from n f ts ++ f (n + length ts) t ∷ []
map_from-append n f [] t = ap (λ (k : ℕ). f k t ∷ []) (omega arith)
map_from-append n f (s ∷ ts) t =
    let more : n + 1 + length ts ≡ n + suc (length ts) = omega arith in
    ap (λ (z : List Task). f n s ∷ z) (map_from-append (n + 1) f ts t ∙ ap (λ (k : ℕ). map_from (n + 1) f ts ++ f k t ∷ []) more)

length-map_from : (n : ℕ) (f : ℕ → Task → Task) (ts : List Task) → length (map_from n f ts) ≡ length ts
length-map_from n f [] = refl
length-map_from n f (t ∷ ts) = ap suc (length-map_from (n + 1) f ts)

get_behind : (n : ℕ) (f : ℕ → Task → Task) (ts : List Task) (i : ℕ) (d : Task) → i < length ts → get_or (map_from n f (take i ts) ++ drop i ts) i d ≡ get_or ts i d
get_behind n f [] i d h = absurd (omega (arith, h))
get_behind n f (t ∷ ts) zero d h = refl
get_behind n f (t ∷ ts) (suc i) d h = get_behind (n + 1) f ts i d (omega (arith, h))

-- the next one, as it lies among the changed ones
pub next_is : (f : ℕ → Task → Task) (ts items : List Task) (i : ℕ) (x : Task) → i < length ts → items ≡ map_from 0 f (take i ts) ++ drop i ts → x ≡ get_or items i x → x ≡ get_or ts i x
next_is f ts items i x h is at = at ∙ (ap (λ (z : List Task). get_or z i x) is ∙ get_behind 0 f ts i x h)

-- after the first i of them, and before the others
pub record IsUnderWay (old new : Tally) (f : ℕ → Task → Task) (ts : List Task) (i : ℕ) : Type 0 where
  pub counted : AreCounted old new (take i ts) (map_from 0 f (take i ts))
  pub places : HavePlaces new (drop i ts)

pub under_way-none : (tally : Tally) (f : ℕ → Task → Task) (ts : List Task) → HavePlaces tally ts → IsUnderWay tally tally f ts 0
under_way-none tally f ts h = record { counted = counted-none tally []; places = h }

pub under_way-place : (old new : Tally) (f : ℕ → Task → Task) (ts : List Task) (i : ℕ) (x : Task) → IsUnderWay old new f ts i → i < length ts → x ≡ get_or ts i x → HasPlace new x.fate
under_way-place old new f ts i x h there is = rw is (record {
  ended = omega (arith, h.places.ended, live-drop ts i x there);
  pending = omega (arith, h.places.pending, pending-drop ts i x there);
})

more_ended : (old mid new xs ys zs : List Tag) → mid ≡ old ++ xs → new ≡ mid ++ ys → zs ≡ xs ++ ys → new ≡ old ++ zs
more_ended old mid new xs ys zs p q r = q ∙ (ap (λ (z : List Tag). z ++ ys) p ∙ (append_assoc old xs ys ∙ ap (λ (z : List Tag). old ++ z) (sym r)))

counted-more : (old mid new : Tally) (ts us : List Task) (t u : Task) → length us ≡ length ts → AreCounted old mid ts us → IsCounted mid new t.fate u.fate → AreCounted old new (ts ++ t ∷ []) (us ++ u ∷ [])
counted-more old mid new ts us t u same h one = record {
  ended = more_ended old.ended.items mid.ended.items new.ended.items (tags_over ts us) (tag_over t.fate u.fate) _ h.ended one.ended (tags_over-append ts us t u same);
  pending = omega (arith, h.pending, one.pending, pending-append ts t, pending-append us u);
  capacity = one.capacity ∙ h.capacity;
}

fewer_places : (mid new : Tally) (ts us : List Task) (t u : Task) → ts ≡ t ∷ us → HavePlaces mid ts → IsCounted mid new t.fate u.fate → HavePlaces new us
fewer_places mid new ts us t u is h one =
    let living = ap live_in is ∙ live-cons t us in
    let waiting = ap pending_in is ∙ pending-cons t us in
    let len = length-ended mid new t.fate u.fate one in
    record { ended = omega (arith, h.ended, living, len, over_one t.fate u.fate, one.capacity); pending = omega (arith, h.pending, waiting, one.pending) }

pub under_way-more : (old mid new : Tally) (f : ℕ → Task → Task) (ts : List Task) (i : ℕ) (x u : Task) → IsUnderWay old mid f ts i → i < length ts → x ≡ get_or ts i x → u ≡ f i x → IsCounted mid new x.fate u.fate
    → IsUnderWay old new f ts (i + 1)
under_way-more old mid new f ts i x u h there is makes one =
    let len : length (take i ts) ≡ i = length-take-le i ts (omega (arith, there)) in
    let behind : 0 + length (take i ts) ≡ i = omega (arith, len) in
    let taken : take (i + 1) ts ≡ take i ts ++ x ∷ [] = take_more ts i x there ∙ ap (λ (y : Task). take i ts ++ y ∷ []) (sym is) in
    let mapped : map_from 0 f (take (i + 1) ts) ≡ map_from 0 f (take i ts) ++ u ∷ [] =
    ap (map_from 0 f) taken ∙ (map_from-append 0 f (take i ts) x ∙ (ap (λ (k : ℕ). map_from 0 f (take i ts) ++ f k x ∷ []) behind ∙ ap (λ (y : Task). map_from 0 f (take i ts) ++ y ∷ []) (sym makes))) in
    let dropped : drop i ts ≡ x ∷ drop (i + 1) ts = drop-cons ts i x there ∙ (ap (λ (y : Task). y ∷ drop (suc i) ts) (sym is) ∙ ap (λ (k : ℕ). x ∷ drop k ts) (sym (add-one i))) in
    record {
      counted = subst (λ (z : List Task). AreCounted old new (take (i + 1) ts) z) (sym mapped)
          (subst (λ (z : List Task). AreCounted old new z (map_from 0 f (take i ts) ++ u ∷ [])) (sym taken)
          (counted-more old mid new (take i ts) (map_from 0 f (take i ts)) x u (length-map_from 0 f (take i ts)) h.counted one));
      places = fewer_places mid new (drop i ts) (drop (i + 1) ts) x u dropped h.places one;
    }

take_past : (i : ℕ) (ts : List Task) → length ts ≤ i → take i ts ≡ ts
take_past zero [] h = refl
take_past (suc i) [] h = refl
take_past zero (t ∷ ts) h = absurd (omega (arith, h))
take_past (suc i) (t ∷ ts) h = ap (λ (z : List Task). t ∷ z) (take_past i ts (omega (arith, h)))

drop_past : (i : ℕ) (ts : List Task) → length ts ≤ i → drop i ts ≡ []
drop_past zero [] h = refl
drop_past (suc i) [] h = refl
drop_past zero (t ∷ ts) h = absurd (omega (arith, h))
drop_past (suc i) (t ∷ ts) h = drop_past i ts (omega (arith, h))

pub all_changed : (f : ℕ → Task → Task) (ts us : List Task) (i : ℕ) → length ts ≤ i → us ≡ map_from 0 f (take i ts) ++ drop i ts → us ≡ map_from 0 f ts
all_changed f ts us i past is =
    is ∙ (ap (λ (z : List Task). map_from 0 f (take i ts) ++ z) (drop_past i ts past) ∙ (append-nil (map_from 0 f (take i ts)) ∙ ap (map_from 0 f) (take_past i ts past)))

pub each_same : (f : Task → Task) (k : ℕ) (ts : List Task) → map_from k (λ i t. f t) ts ≡ map f ts
each_same f k [] = refl
each_same f k (t ∷ ts) = ap (λ (z : List Task). f t ∷ z) (each_same f (k + 1) ts)

pub all_counted : (old new : Tally) (f : ℕ → Task → Task) (ts us : List Task) (i : ℕ) → IsUnderWay old new f ts i → length ts ≤ i → us ≡ map_from 0 f ts → AreCounted old new ts us
all_counted old new f ts us i h past is = rw is (subst (λ (z : List Task). AreCounted old new z (map_from 0 f z)) (take_past i ts past) h.counted)

-- what is kept

pub have_places : (a p : ℕ) (tally : Tally) (ts : List Task) → AreKept a p tally ts → HavePlaces tally ts
have_places a p tally ts h = record { ended = omega (arith, h.live, h.room); pending = omega (arith, h.pending) }

pub kept-after : (a p : ℕ) (old new : Tally) (ts us : List Task) → AreKept a p old ts → AreFallen a ts us → AreCounted old new ts us → AreKept a p new us
kept-after a p old new ts us h falls counted =
    let len : deque_len new.ended ≡ deque_len old.ended + length (tags_over ts us) =
    omega (arith, new.ended.ok, old.ended.ok, ap length counted.ended, length-append old.ended.items (tags_over ts us)) in
    record {
      some = h.some;
      tries = fallen-tries a ts us falls h.some h.tries;
      live = omega (arith, h.live, fallen-places a ts us falls, len);
      room = omega (arith, h.room, counted.capacity);
      pending = omega (arith, h.pending, counted.pending);
    }

pub moved-none : (v : SubmissionsView) (us : List Task) → us ≡ v.tasks → AreMoved v v us
moved-none v us is = rw is (record { allowed = refl; tasks = refl; ended = rw (over_same v.tasks) (sym (append-nil v.ended)); takes = refl })

pub moved-to : (old new : SubmissionsView) (us vs : List Task) → us ≡ vs → AreMoved old new us → AreMoved old new vs
moved-to old new us vs is h = subst (λ (z : List Task). AreMoved old new z) is h

pub moved-if : (old new : SubmissionsView) (b : Bool) (us vs : List Task) → b ≡ true → AreMoved old new us → AreMoved old new (if b then us else vs)
moved-if old new b us vs is h = rw is h

pub moved-unless : (old new : SubmissionsView) (b : Bool) (us vs : List Task) → b ≡ false → AreMoved old new vs → AreMoved old new (if b then us else vs)
moved-unless old new b us vs is h = rw is h

pub stepped : (old new : SubmissionsView) (e : Event) (us : List Task) → ended_step e old.tasks us old.ended ≡ old.ended ++ tags_over old.tasks us → AreMoved old new us → AreStepped old new e us
stepped old new e us ends h = record { allowed = h.allowed; tasks = h.tasks; ended = h.ended ∙ sym ends; takes = omega (arith, h.takes) }

pub stepped-none : (v : SubmissionsView) (e : Event) (us : List Task) → us ≡ v.tasks → ended_step e v.tasks us v.ended ≡ v.ended ++ tags_over v.tasks us → AreStepped v v e us
stepped-none v e us is ends = stepped v v e us ends (moved-none v us is)
