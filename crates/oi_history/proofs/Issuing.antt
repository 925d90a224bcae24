-- Submissions that come in, go out, are handed out, or lose their connection.
use Rattle.std.proofs.Common.{◌≡◌, ◌∙◌, ◌≤◌, ◌<◌, ◌+◌, ◌-◌, ◌++◌, ℕ, suc, zero, Bool, true, false, not, cond, List, [], ◌∷◌, length, map, ap, subst, sym, refl, arith, append-nil, get_or, Some, slice_get, if◌then◌else◌, nat_lt, Result, Ok, Err, OnErr}
use Rattle.std.proofs.Math.ListN.{set}
use Rattle.std.specs.VecDeque.{deque_capacity, deque_len}
use Rattle.oi_base.specs.declared.tag.Tag.{Tag}
use Rattle.oi_history.specs.Blows.{blow_by}
use Rattle.oi_history.specs.Courses.{is_fail_fast}
use Rattle.oi_history.specs.Handling.{aim_of, is_live}
use Rattle.oi_history.specs.Meanings.{tag_over, tags_over}
use Rattle.oi_history.specs.Recovering.{failed, hit_in, map_from, moved_by, submitted_in}
use Rattle.oi_history.specs.Standing.{HasTries, HaveTries, live_in, pending_in}
use Rattle.oi_history.specs.Submitted.{AreKept, AreMoved, SubmissionsView}
use Rattle.oi_history.specs.Tallies.{AreCounted}
use Rattle.oi_history.specs.Tasks.{changed, fresh_task, is_done, is_waiting, issued, told_task, tries_of}
use Rattle.oi_history.specs.declared.command.Command.{Command}
use Rattle.oi_history.specs.declared.fate.Fate.{Fate}
use Rattle.oi_history.specs.declared.fate.Fate.TheVariants.{Waiting, Live, Done}
use Rattle.oi_history.specs.declared.phase.Handler.{Handler}
use Rattle.oi_history.specs.declared.phase.Phase.{Phase}
use Rattle.oi_history.specs.declared.recovering.Blow.TheVariants.{Loss}
use Rattle.oi_history.specs.declared.tally.Tally.{Tally}
use Rattle.oi_history.specs.declared.task.Task.{Task}
use Rattle.oi_recovery.specs.Recovery.{lost, waits_on}
use Rattle.oi_recovery.specs.declared.hit.Aim.{Aim}
use Rattle.oi_recovery.specs.declared.hit.Aim.TheVariants.{Free, Abort as ByAbort, Reset as ByReset}
use Rattle.oi_recovery.specs.declared.hit.Hit.TheVariants.{Lost as ByLoss}
use Rattle.oi_recovery.specs.declared.host_code.HostCode.TheVariants.{Disrupted, FailFast as FailsFast}
use Rattle.oi_recovery.specs.declared.stand.Next.{Next}
use Rattle.oi_recovery.specs.declared.stand.Next.TheVariants.{Stay, Wait, Answer, Host}
use Rattle.oi_history.proofs.Places.{get_at}
use Rattle.oi_history.proofs.Standing.{live-cons, over_self, pending-cons}
use Rattle.oi_history.proofs.Tallied.{over_same}

-- a command goes out for one that waits

abbrev pub WaitsAt : ℕ → List Task → Type 0
WaitsAt id ts = (t : Task) → slice_get ts id ≡ Some t → is_waiting t.fate ≡ true

tries_at : (a id : ℕ) (ts : List Task) (t : Task) → HaveTries a ts → slice_get ts id ≡ Some t → HasTries a t.fate
tries_at a id [] t have is = absurd cc
tries_at a zero (u ∷ ts) t have is = let same : u ≡ t = cc in subst (λ (x : Task). HasTries a x.fate) same have.0
tries_at a (suc id) (u ∷ ts) t have is = tries_at a id ts t have.1 is

tries_left : (a : ℕ) (f : Fate) → is_waiting f ≡ true → HasTries a f → tries_of f < a
tries_left a (Waiting tries) is has = has
tries_left a (Live generation tag tries) is has = absurd cc
tries_left a (Done outcome at) is has = absurd cc

pub below_limit : (a id : ℕ) (ts : List Task) (x : Task) → HaveTries a ts → WaitsAt id ts → id < length ts → x ≡ get_or ts id x → tries_of x.fate < a
below_limit a id ts x have waits there is =
    let at = get_at id ts x there is in
    tries_left a x.fate (waits x at) (tries_at a id ts x have at)

over_waiting : (f g : Fate) → is_waiting f ≡ true → tag_over f g ≡ []
over_waiting (Waiting tries) g is = refl
over_waiting (Live generation tag tries) g is = absurd cc
over_waiting (Done outcome at) g is = absurd cc

waiting_open : (f : Fate) → is_waiting f ≡ true → is_done f ≡ false
waiting_open (Waiting tries) is = refl
waiting_open (Live generation tag tries) is = absurd cc
waiting_open (Done outcome at) is = absurd cc

waits_behind : (id : ℕ) (t : Task) (ts : List Task) → WaitsAt (suc id) (t ∷ ts) → WaitsAt id ts
waits_behind id t ts waits = λ x is. waits x is

pub issued-over : (generation : ℕ) (tag : Tag) (id : ℕ) (ts : List Task) → WaitsAt id ts → tags_over ts (changed id (issued generation tag) ts) ≡ []
issued-over generation tag id [] waits = refl
issued-over generation tag zero (t ∷ ts) waits = rw (over_waiting t.fate (issued generation tag t).fate (waits t refl)) (over_same ts)
issued-over generation tag (suc id) (t ∷ ts) waits = rw (over_self t.fate) (issued-over generation tag id ts (waits_behind id t ts waits))

one_more_live : (b : Bool) (n : ℕ) → 1 + n ≤ cond b 1 0 + n + 1
one_more_live true n = omega arith
one_more_live false n = omega arith

issued-live : (generation : ℕ) (tag : Tag) (id : ℕ) (ts : List Task) → live_in (changed id (issued generation tag) ts) ≤ live_in ts + 1
issued-live generation tag id [] = omega arith
issued-live generation tag zero (t ∷ ts) = omega (arith, live-cons t ts, live-cons (issued generation tag t) ts, one_more_live (is_live t.fate) (live_in ts))
issued-live generation tag (suc id) (t ∷ ts) = omega (arith, live-cons t ts, live-cons t (changed id (issued generation tag) ts), issued-live generation tag id ts)

issued-pending : (generation : ℕ) (tag : Tag) (id : ℕ) (ts : List Task) → WaitsAt id ts → pending_in (changed id (issued generation tag) ts) ≡ pending_in ts
issued-pending generation tag id [] waits = refl
issued-pending generation tag zero (t ∷ ts) waits =
    let is : cond {A = ℕ} (not (is_done t.fate)) 1 0 ≡ 1 = ap (λ (b : Bool). cond (not b) 1 0) (waiting_open t.fate (waits t refl)) in
    omega (arith, pending-cons t ts, pending-cons (issued generation tag t) ts, is)
issued-pending generation tag (suc id) (t ∷ ts) waits =
    omega (arith, pending-cons t ts, pending-cons t (changed id (issued generation tag) ts), issued-pending generation tag id ts (waits_behind id t ts waits))

issued-tries : (a generation : ℕ) (tag : Tag) (id : ℕ) (ts : List Task) → WaitsAt id ts → HaveTries a ts → HaveTries a (changed id (issued generation tag) ts)
issued-tries a generation tag id [] waits have = tt
issued-tries a generation tag zero (t ∷ ts) waits have = (omega (arith, tries_left a t.fate (waits t refl) have.0), have.1)
issued-tries a generation tag (suc id) (t ∷ ts) waits have = (have.0, issued-tries a generation tag id ts (waits_behind id t ts waits) have.1)

pub kept-issued : (a p : ℕ) (tally : Tally) (ts us : List Task) (generation : ℕ) (tag : Tag) (id : ℕ) → AreKept a p tally ts → WaitsAt id ts → p + 1 ≤ deque_capacity tally.ended → us ≡ changed id (issued generation tag) ts → AreKept a (p + 1) tally us
kept-issued a p tally ts us generation tag id h waits room is = rw is (record {
  some = h.some;
  tries = issued-tries a generation tag id ts waits h.tries;
  live = omega (arith, h.live, issued-live generation tag id ts);
  room = room;
  pending = h.pending ∙ sym (issued-pending generation tag id ts waits);
})

pub issued-ended : (v : SubmissionsView) (generation : ℕ) (tag : Tag) (id : ℕ) → WaitsAt id v.tasks → v.ended ≡ v.ended ++ tags_over v.tasks (changed id (issued generation tag) v.tasks)
issued-ended v generation tag id waits = sym (append-nil v.ended) ∙ ap (λ (z : List Tag). v.ended ++ z) (sym (issued-over generation tag id v.tasks waits))

-- one comes in

submitted_off : (b : Bool) (at : ℕ) (c : Command) → is_live (if b then failed at FailsFast (fresh_task c) else fresh_task c).fate ≡ false
submitted_off true at c = refl
submitted_off false at c = refl

submitted_tries : (a : ℕ) (b : Bool) (at : ℕ) (c : Command) → 1 ≤ a → HasTries a (if b then failed at FailsFast (fresh_task c) else fresh_task c).fate
submitted_tries a true at c one = tt
submitted_tries a false at c one = omega (arith, one)

over-append : (ts us : List Task) → tags_over ts (ts ++ us) ≡ []
over-append [] us = refl
over-append (t ∷ ts) us = rw (over_self t.fate) (over-append ts us)

live-append : (ts : List Task) (u : Task) → live_in (ts ++ u ∷ []) ≡ live_in ts + cond (is_live u.fate) 1 0
live-append [] u = omega (arith, live-cons u [])
live-append (t ∷ ts) u = omega (arith, live-cons t ts, live-cons t (ts ++ u ∷ []), live-append ts u)

pending-append : (ts : List Task) (u : Task) → pending_in (ts ++ u ∷ []) ≡ pending_in ts + cond (not (is_done u.fate)) 1 0
pending-append [] u = omega (arith, pending-cons u [])
pending-append (t ∷ ts) u = omega (arith, pending-cons t ts, pending-cons t (ts ++ u ∷ []), pending-append ts u)

tries-append : (a : ℕ) (ts : List Task) (u : Task) → HaveTries a ts → HasTries a u.fate → HaveTries a (ts ++ u ∷ [])
tries-append a [] u have has = (has, tt)
tries-append a (t ∷ ts) u have has = (have.0, tries-append a ts u have.1 has)

pub kept-submitted : (a p : ℕ) (old new : Tally) (ts us : List Task) (u : Task) (phase : Phase) (at : ℕ) (c : Command) → AreKept a p old ts → u ≡ submitted_in phase at c → us ≡ ts ++ u ∷ []
    → new.ended ≡ old.ended → new.pending ≡ old.pending + cond (not (is_done u.fate)) 1 0 → AreKept a p new us
kept-submitted a p old new ts us u phase at c h makes is same counted =
    let off : is_live u.fate ≡ false = ap (λ (x : Task). is_live x.fate) makes ∙ submitted_off (is_fail_fast phase) at c in
    let none : cond {A = ℕ} (is_live u.fate) 1 0 ≡ 0 = ap (λ (b : Bool). cond b 1 0) off in
    rw is (record {
      some = h.some;
      tries = tries-append a ts u h.tries (subst (λ (x : Task). HasTries a x.fate) (sym makes) (submitted_tries a (is_fail_fast phase) at c h.some));
      live = rw same (omega (arith, h.live, live-append ts u, none));
      room = rw same h.room;
      pending = omega (arith, h.pending, counted, pending-append ts u);
    })

pub moved-submitted : (old new : SubmissionsView) (u v : Task) → new.allowed ≡ old.allowed → new.tasks ≡ old.tasks ++ u ∷ [] → u ≡ v → new.ended ≡ old.ended → new.takes ≡ old.takes → AreMoved old new (old.tasks ++ v ∷ [])
moved-submitted old new u v allowed tasks is ended takes = record {
  allowed = allowed;
  tasks = tasks ∙ ap (λ (x : Task). old.tasks ++ x ∷ []) is;
  ended = ended ∙ (sym (append-nil old.ended) ∙ ap (λ (z : List Tag). old.ended ++ z) (sym (over-append old.tasks (v ∷ []))));
  takes = takes;
}

-- all are handed out

told-over : (ts : List Task) → tags_over ts (map told_task ts) ≡ []
told-over [] = refl
told-over (t ∷ ts) = rw (over_self t.fate) (told-over ts)

told-pending : (ts : List Task) → pending_in (map told_task ts) ≡ pending_in ts
told-pending [] = refl
told-pending (t ∷ ts) = omega (arith, pending-cons t ts, pending-cons (told_task t) (map told_task ts), told-pending ts)

pub counted-told : (tally : Tally) (ts us : List Task) → us ≡ map told_task ts → AreCounted tally tally ts us
counted-told tally ts us is = rw is (record {
  ended = sym (append-nil tally.ended.items) ∙ ap (λ (z : List Tag). tally.ended.items ++ z) (sym (told-over ts));
  pending = omega (arith, told-pending ts);
  capacity = refl;
})

pub moved-told : (old new : SubmissionsView) → new.allowed ≡ old.allowed → new.tasks ≡ map told_task old.tasks → new.ended ≡ old.ended → new.takes ≡ old.takes → AreMoved old new (map told_task old.tasks)
moved-told old new allowed tasks ended takes = record {
  allowed = allowed;
  tasks = tasks;
  ended = ended ∙ (sym (append-nil old.ended) ∙ ap (λ (z : List Tag). old.ended ++ z) (sym (told-over old.tasks)));
  takes = takes;
}

-- without a connection none is live

abbrev Leaves : Next → Type 0
Leaves (Wait tries) = Unit {0}
Leaves (Host code) = Unit {0}
Leaves Stay = ⊥
Leaves Answer = ⊥

leaves_if : (b : Bool) (m n : Next) → Leaves m → Leaves n → Leaves (if b then m else n)
leaves_if true m n p q = p
leaves_if false m n p q = q

loss_leaves : (aim : Aim) (at_once counted : Bool) (k a : ℕ) → Leaves (lost aim at_once counted k a)
loss_leaves ByAbort at_once counted k a = tt
loss_leaves ByReset at_once counted k a = tt
loss_leaves Free at_once false k a = leaves_if at_once (Host FailsFast) (Wait (k - 1)) tt tt
loss_leaves Free at_once true k a = leaves_if (nat_lt k a) (waits_on at_once (Wait k)) (Host Disrupted) (leaves_if at_once (Host FailsFast) (Wait k) tt tt) tt

left_off : (at : ℕ) (t : Task) (n : Next) → Leaves n → is_live (moved_by at t n).fate ≡ false
left_off at t (Wait tries) leaves = refl
left_off at t (Host code) leaves = refl
left_off at t Stay leaves = absurd leaves
left_off at t Answer leaves = absurd leaves

moved_off : (at : ℕ) (t : Task) (n : Next) → is_live t.fate ≡ false → is_live (moved_by at t n).fate ≡ false
moved_off at t (Wait tries) off = refl
moved_off at t (Host code) off = refl
moved_off at t Stay off = off
moved_off at t Answer off = off

loss_in : (a at : ℕ) (aim : Aim) (at_once counted : Bool) (t : Task) (f : Fate) → t.fate ≡ f → is_live (hit_in a at (ByLoss aim at_once counted) t f).fate ≡ false
loss_in a at aim at_once counted t (Waiting tries) is = moved_off at t _ (ap is_live is)
loss_in a at aim at_once counted t (Live generation tag tries) is = left_off at t _ (loss_leaves aim at_once counted tries a)
loss_in a at aim at_once counted t (Done outcome n) is = ap is_live is

none_live : (a at : ℕ) (handler : Handler) (at_once counted : Bool) (k : ℕ) (ts : List Task) → live_in (map_from k (blow_by a at (Loss handler at_once counted)) ts) ≡ 0
none_live a at handler at_once counted k [] = refl
none_live a at handler at_once counted k (t ∷ ts) =
    let f = blow_by a at (Loss handler at_once counted) in
    let off : cond {A = ℕ} (is_live (f k t).fate) 1 0 ≡ 0 = ap (λ (b : Bool). cond b 1 0) (loss_in a at (aim_of handler k t) at_once counted t t.fate refl) in
    omega (arith, live-cons (f k t) (map_from (k + 1) f ts), off, none_live a at handler at_once counted (k + 1) ts)

pub kept-lost : (a p : ℕ) (mid new : Tally) (ts us : List Task) (at : ℕ) (handler : Handler) (at_once counted : Bool) → AreKept a p mid us → us ≡ map_from 0 (blow_by a at (Loss handler at_once counted)) ts → new.pending ≡ mid.pending → deque_len new.ended ≡ 0
    → AreKept a 0 new us
kept-lost a p mid new ts us at handler at_once counted h is same none =
    let off : live_in us ≡ 0 = ap live_in is ∙ none_live a at handler at_once counted 0 ts in
    record { some = h.some; tries = h.tries; live = omega (arith, off, none); room = omega arith; pending = same ∙ h.pending }

-- want of memory

pub on_err : {T E : Type 0} (r : Result T E) (P Q : Type 0) → (P → Q) → OnErr r P → OnErr r Q
on_err (Ok u) P Q f p = p
on_err (Err e) P Q f p = f p

set_same : (id : ℕ) (ts : List Task) (d : Task) → id < length ts → set ts id (get_or ts id d) ≡ ts
set_same id [] d h = absurd (omega (arith, h))
set_same zero (t ∷ ts) d h = refl
set_same (suc id) (t ∷ ts) d h = ap (λ (z : List Task). t ∷ z) (set_same id ts d (omega (arith, h)))

pub set_back : (id : ℕ) (ts : List Task) (x v : Task) → id < length ts → x ≡ get_or ts id x → v ≡ x → set ts id v ≡ ts
set_back id ts x v there is same = ap (set ts id) (same ∙ is) ∙ set_same id ts x there
