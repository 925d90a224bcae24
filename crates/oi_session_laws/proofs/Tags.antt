-- A tag is allocated once or free once, and its submission has no other.
use Rattle.std.proofs.Common.{◌≡◌, ◌∙◌, ◌+◌, ◌≤◌, ◌==◌, ◌⊎◌, inl, inr, ℕ, ℤ, suc, zero, Bool, true, false, not, List, [], ◌∷◌, ◌++◌, filter, cond, drop, ap, sym, subst, refl, arith, nat_eq, nat_lt, Some, slice_get, if◌then◌else◌}
use Rattle.std.proofs.lemmas.Bool.Decides.{nat_tests}
use Rattle.oi_base.specs.Counts.{bit}
use Rattle.oi_base.specs.TagLayout.{age_after}
use Rattle.oi_base.specs.declared.tag.Tag.{Tag}
use Rattle.oi_history.specs.Courses.{given_up, is_at_once, phase_step}
use Rattle.oi_history.specs.Meanings.{Meanings, accepted_in, allocated_step, ended_step, meanings, tag_over, tags_over}
use Rattle.oi_history.specs.Permitted.{ArePermitted, IsFirstEnded, IsNextCommand, IsNextLogin, IsTagged}
use Rattle.oi_history.specs.Phases.{has_connection, is_logged_in}
use Rattle.oi_history.specs.Recovering.{hit_in, lost_by, map_from, moved_by, tasks_step}
use Rattle.oi_history.specs.Tags.{free_after}
use Rattle.oi_history.specs.Tasks.{changed, is_done, is_live_on, is_waiting, issued}
use Rattle.oi_history.specs.declared.allocated.Allocated.{Allocated}
use Rattle.oi_history.specs.declared.config.SessionConfig.{SessionConfig}
use Rattle.oi_history.specs.declared.event.Event.{Event}
use Rattle.oi_history.specs.declared.event.Event.TheVariants.{Login, Issue, Reap, Lost, Tick, Terminate}
use Rattle.oi_history.specs.declared.event.Numbered.{Numbered}
use Rattle.oi_history.specs.declared.fate.Fate.{Fate}
use Rattle.oi_history.specs.declared.fate.Fate.TheVariants.{Waiting, Live, Done}
use Rattle.oi_history.specs.declared.phase.Handler.{Handler}
use Rattle.oi_history.specs.declared.phase.Phase.{Phase}
use Rattle.oi_history.specs.declared.phase.Phase.TheVariants.{First, LoggedIn, Recovering, FailFast, Ended}
use Rattle.oi_history.specs.declared.task.Task.{Task}
use Rattle.oi_recovery.specs.Recovery.{recovery_table, waits_on}
use Rattle.oi_recovery.specs.declared.hit.Aim.{Aim}
use Rattle.oi_recovery.specs.declared.hit.Aim.TheVariants.{Free, Abort as ByAbort, Reset as ByReset}
use Rattle.oi_recovery.specs.declared.hit.Hit.TheVariants.{Lost as ByLoss}
use Rattle.oi_recovery.specs.declared.host_code.HostCode.TheVariants.{Disrupted, FailFast as FailsFast}
use Rattle.oi_recovery.specs.declared.stand.Next.{Next}
use Rattle.oi_recovery.specs.declared.stand.Next.TheVariants.{Wait, Host}
use Rattle.oi_recovery.specs.declared.stand.Stand.TheVariants.{Live as StandsLive}
use Rattle.oi_session_laws.proofs.Ends.{end_all, AreDone}
use Rattle.oi_session_laws.proofs.Generations.{no_tags_over, none_over}
use Rattle.oi_session_laws.proofs.Moved.{AreMoved, AreNew, moved_after, sendable_there, sendable_waits, takes}
use Rattle.oi_session_laws.proofs.TagCounts.{allocations-append, copies-append, counted_first, decide, equal_from, holdings-append, holdings-fewer, other_bit, other_test, same_bit, same_test, without-other, without-same, fresh_tags_once, live_at}
use Rattle.oi_session_laws.specs.Tags.{holdings, allocations, copies}

-- how many submissions are live on a tag
abbrev pub lives : ℕ → List Task → ℕ
lives n [] = 0
lives n (t ∷ ts) = bit (is_live_on n t.fate) + lives n ts

-- the submission of a tag in use is live on it, or the tag ended
abbrev pub IsOwned : List Tag → List Task → Allocated → Type 0
IsOwned ended ts a = (live_at a.tag.0 a.id ts ≡ true) ⊎ (1 ≤ copies a.tag.0 ended)

abbrev pub AreOwned : List Tag → List Task → List Allocated → Type 0
AreOwned ended ts [] = Unit {0}
AreOwned ended ts (a ∷ busy) = IsOwned ended ts a × AreOwned ended ts busy

pub record AreTags (p : Phase) (busy : List Allocated) (free ended : List Tag) (ts : List Task) : Type 0 where
  pub apart : (n : ℕ) → allocations n busy + copies n free ≤ 1
  pub held : (n : ℕ) → lives n ts + copies n ended ≡ allocations n busy
  pub none : has_connection p ≡ false → (n : ℕ) → lives n ts ≡ 0
  pub owned : AreOwned ended ts busy
  pub once : (id : ℕ) → holdings id busy ≤ 1

-- a submission that is live on a tag stays so, or the tag ends

live_as : (x n : ℕ) (g : Fate) → is_live_on x g ≡ true → is_live_on n g ≡ nat_eq x n
live_as x n (Waiting tries) is = absurd cc
live_as x n (Live generation tag tries) is = ap (λ (y : ℕ). nat_eq y n) (equal_from tag.0 x is)
live_as x n (Done outcome at) is = absurd cc

still : (n : ℕ) (tag : Tag) (g : Fate) (b : Bool) → is_live_on tag.0 g ≡ b → (nat_eq tag.0 n ≡ false → is_live_on n g ≡ false)
    → copies n (if b then [] else tag ∷ []) + bit (is_live_on n g) ≡ bit (nat_eq tag.0 n)
still n tag g true is over = let same = ap bit (live_as tag.0 n g is) in omega (arith, same)
still n tag g false is over = decide tag.0 n _
    (λ same.
    let gone : bit (is_live_on n g) ≡ 0 = ap bit (subst (λ (m : ℕ). is_live_on m g ≡ false) same is) in omega (arith, gone))
    (λ differs. let gone : bit (is_live_on n g) ≡ 0 = ap bit (over (other_test tag.0 n differs)) in omega (arith, gone))

one_over : (n : ℕ) (f g : Fate) → (is_live_on n f ≡ false → is_live_on n g ≡ false) → copies n (tag_over f g) + bit (is_live_on n g) ≡ bit (is_live_on n f)
one_over n (Waiting tries) g over = let gone : bit (is_live_on n g) ≡ 0 = ap bit (over refl) in omega (arith, gone)
one_over n (Live generation tag tries) g over = still n tag g (is_live_on tag.0 g) refl over
one_over n (Done outcome at) g over = let gone : bit (is_live_on n g) ≡ 0 = ap bit (over refl) in omega (arith, gone)

lives-new : (a n : ℕ) (us : List Task) → AreNew a us → lives n us ≡ 0
lives-new a n [] new = refl
lives-new a n (u ∷ us) new =
    let mine : bit (is_live_on n u.fate) ≡ 0 = ap bit (new.0.over n) in
    let rest = lives-new a n us new.1 in
    omega (arith, mine, rest)

over_count : (e : Event) (a n : ℕ) (ts us : List Task) → takes n e ≡ false → AreMoved e a ts us → copies n (tags_over ts us) + lives n us ≡ lives n ts
over_count e a n [] us quiet m = let none = lives-new a n us m in omega (arith, none)
over_count e a n (t ∷ ts) [] quiet m = absurd m
over_count e a n (t ∷ ts) (u ∷ us) quiet m =
    let split = copies-append n (tag_over t.fate u.fate) (tags_over ts us) in
    let mine = one_over n t.fate u.fate (m.0.over n quiet) in
    let rest = over_count e a n ts us quiet m.1 in
    omega (arith, split, mine, rest)

stays_or_ends : (n : ℕ) (f g : Fate) (b : Bool) → is_live_on n g ≡ b → is_live_on n f ≡ true → copies n (tag_over f g) + bit (is_live_on n g) ≡ bit (is_live_on n f)
    → (is_live_on n g ≡ true) ⊎ (1 ≤ copies n (tag_over f g))
stays_or_ends n f g true is live one = inl is
stays_or_ends n f g false is live one =
    let gone : bit (is_live_on n g) ≡ 0 = ap bit is in
    let was : bit (is_live_on n f) ≡ 1 = ap bit live in
    inr (omega (arith, gone, was, one))

in_front : (n : ℕ) (xs ys : List Tag) (P : Type 0) → P ⊎ (1 ≤ copies n xs) → P ⊎ (1 ≤ copies n (xs ++ ys))
in_front n xs ys P (inl p) = inl p
in_front n xs ys P (inr some) = let split = copies-append n xs ys in inr (omega (arith, split, some))

behind_all : (n : ℕ) (xs ys : List Tag) (P : Type 0) → P ⊎ (1 ≤ copies n ys) → P ⊎ (1 ≤ copies n (xs ++ ys))
behind_all n xs ys P (inl p) = inl p
behind_all n xs ys P (inr some) = let split = copies-append n xs ys in inr (omega (arith, split, some))

live_or_over : (e : Event) (a n id : ℕ) (ts us : List Task) → takes n e ≡ false → AreMoved e a ts us → live_at n id ts ≡ true → (live_at n id us ≡ true) ⊎ (1 ≤ copies n (tags_over ts us))
live_or_over e a n id [] us quiet m live = absurd cc
live_or_over e a n id (t ∷ ts) [] quiet m live = absurd m
live_or_over e a n zero (t ∷ ts) (u ∷ us) quiet m live =
    in_front n (tag_over t.fate u.fate) (tags_over ts us) _
    (stays_or_ends n t.fate u.fate (is_live_on n u.fate) refl live (one_over n t.fate u.fate (m.0.over n quiet)))
live_or_over e a n (suc id) (t ∷ ts) (u ∷ us) quiet m live =
    behind_all n (tag_over t.fate u.fate) (tags_over ts us) _ (live_or_over e a n id ts us quiet m.1 live)

owned_one : (e : Event) (a : ℕ) (ended : List Tag) (ts us : List Task) (x : Allocated) → takes x.tag.0 e ≡ false → AreMoved e a ts us → IsOwned ended ts x → IsOwned (ended ++ tags_over ts us) us x
owned_one e a ended ts us x quiet m (inl live) = behind_all x.tag.0 ended (tags_over ts us) _ (live_or_over e a x.tag.0 x.id ts us quiet m live)
owned_one e a ended ts us x quiet m (inr some) = let split = copies-append x.tag.0 ended (tags_over ts us) in inr (omega (arith, split, some))

owned-all : (e : Event) (a : ℕ) (ended : List Tag) (ts us : List Task) (busy : List Allocated) → ((n : ℕ) → takes n e ≡ false) → AreMoved e a ts us
    → AreOwned ended ts busy → AreOwned (ended ++ tags_over ts us) us busy
owned-all e a ended ts us [] quiet m p = tt
owned-all e a ended ts us (x ∷ busy) quiet m p = (owned_one e a ended ts us x (quiet x.tag.0) m p.0, owned-all e a ended ts us busy quiet m p.1)

-- an entry that takes no tag and releases none
quiet_tags : (e : Event) (a : ℕ) (p q : Phase) (busy : List Allocated) (free ended : List Tag) (ts us : List Task) → ((n : ℕ) → takes n e ≡ false) → AreMoved e a ts us
    → (has_connection q ≡ false → (n : ℕ) → lives n us ≡ 0) → AreTags p busy free ended ts → AreTags q busy free (ended ++ tags_over ts us) us
quiet_tags e a p q busy free ended ts us quiet m none tags = record {
  apart = tags.apart;
  held = λ n.
      let split = copies-append n ended (tags_over ts us) in
      let over = over_count e a n ts us (quiet n) m in
      let was = tags.held n in
      omega (arith, split, over, was);
  none = none;
  owned = owned-all e a ended ts us busy quiet m tags.owned;
  once = tags.once;
}

-- where no submission is live, none is behind it
none_after : (e : Event) (a n : ℕ) (ts us : List Task) → takes n e ≡ false → AreMoved e a ts us → lives n ts ≡ 0 → lives n us ≡ 0
none_after e a n ts us quiet m none = let over = over_count e a n ts us quiet m in omega (arith, over, none)

-- a release

reap_one : (gone : ℕ) (tag : Tag) (ended : List Tag) (ts : List Task) (x : Allocated) → slice_get ended 0 ≡ Some tag → nat_eq x.tag.0 tag.0 ≡ false → IsOwned ended ts x → IsOwned (drop 1 ended) ts x
reap_one gone tag ended ts x first differs (inl live) = inl live
reap_one gone tag ended ts x first differs (inr some) =
    let taken = counted_first ended tag x.tag.0 first in
    let none = other_bit tag.0 x.tag.0 (λ same. let t : nat_eq x.tag.0 tag.0 ≡ true = grind (arith, nat_tests, same) in absurd cc) in
    inr (omega (arith, taken, none, some))

reap-owned : (tag : Tag) (ended : List Tag) (ts : List Task) (busy : List Allocated) → slice_get ended 0 ≡ Some tag → AreOwned ended ts busy
    → AreOwned (drop 1 ended) ts (filter (λ a. not (a.tag.0 == tag.0)) busy)
reap-owned tag ended ts [] first p = tt
reap-owned tag ended ts (x ∷ busy) first p = step (nat_eq x.tag.0 tag.0) refl (reap-owned tag ended ts busy first p.1)
  where
    step : (b : Bool) → nat_eq x.tag.0 tag.0 ≡ b → AreOwned (drop 1 ended) ts (filter (λ a. not (a.tag.0 == tag.0)) busy)
        → AreOwned (drop 1 ended) ts (cond (not b) (x ∷ filter (λ a. not (a.tag.0 == tag.0)) busy) (filter (λ a. not (a.tag.0 == tag.0)) busy))
    step true is rest = rest
    step false is rest = (reap_one tag.0 tag ended ts x first is p.0, rest)

reap_apart : (p : Phase) (busy : List Allocated) (free ended : List Tag) (ts : List Task) (tag : Tag) (n : ℕ) → slice_get ended 0 ≡ Some tag → AreTags p busy free ended ts
    → allocations n (filter (λ a. not (a.tag.0 == tag.0)) busy) + copies n (free ++ tag ∷ []) ≤ 1
reap_apart p busy free ended ts tag n first tags = decide tag.0 n _
    (λ same.
    let gone : allocations n (filter (λ a. not (a.tag.0 == tag.0)) busy) ≡ 0 = subst (λ (m : ℕ). allocations m (filter (λ a. not (a.tag.0 == tag.0)) busy) ≡ 0) same (without-same tag.0 busy) in
    let more = copies-append n free (tag ∷ []) in
    let one = same_bit tag.0 n same in
    let taken = counted_first ended tag n first in
    let was = tags.apart n in
    let there = tags.held n in
    omega (arith, gone, more, one, taken, was, there))
    (λ differs.
    let kept = without-other tag.0 n busy differs in
    let more = copies-append n free (tag ∷ []) in
    let none = other_bit tag.0 n differs in
    let was = tags.apart n in
    omega (arith, kept, more, none, was))

reap_held : (p : Phase) (busy : List Allocated) (free ended : List Tag) (ts : List Task) (tag : Tag) (n : ℕ) → slice_get ended 0 ≡ Some tag → AreTags p busy free ended ts
    → lives n ts + copies n (drop 1 ended) ≡ allocations n (filter (λ a. not (a.tag.0 == tag.0)) busy)
reap_held p busy free ended ts tag n first tags = decide tag.0 n _
    (λ same.
    let gone : allocations n (filter (λ a. not (a.tag.0 == tag.0)) busy) ≡ 0 = subst (λ (m : ℕ). allocations m (filter (λ a. not (a.tag.0 == tag.0)) busy) ≡ 0) same (without-same tag.0 busy) in
    let one = same_bit tag.0 n same in
    let taken = counted_first ended tag n first in
    let was = tags.apart n in
    let there = tags.held n in
    omega (arith, gone, one, taken, was, there))
    (λ differs.
    let kept = without-other tag.0 n busy differs in
    let taken = counted_first ended tag n first in
    let none = other_bit tag.0 n differs in
    let there = tags.held n in
    omega (arith, kept, taken, none, there))

reap_tags : (p : Phase) (busy : List Allocated) (free ended : List Tag) (ts : List Task) (tag : Tag) → slice_get ended 0 ≡ Some tag → AreTags p busy free ended ts
    → AreTags p (filter (λ a. not (a.tag.0 == tag.0)) busy) (free ++ tag ∷ []) (drop 1 ended) ts
reap_tags p busy free ended ts tag first tags = record {
  apart = λ n. reap_apart p busy free ended ts tag n first tags;
  held = λ n. reap_held p busy free ended ts tag n first tags;
  none = tags.none;
  owned = reap-owned tag ended ts busy first tags.owned;
  once = λ id. let fewer = holdings-fewer tag.0 id busy in let was = tags.once id in omega (arith, fewer, was);
}

-- a command

waiting_not_live : (n : ℕ) (f : Fate) → is_waiting f ≡ true → is_live_on n f ≡ false
waiting_not_live n (Waiting tries) is = refl
waiting_not_live n (Live generation tag tries) is = absurd cc
waiting_not_live n (Done outcome at) is = absurd cc

waiting_none_over : (f g : Fate) → is_waiting f ≡ true → tag_over f g ≡ []
waiting_none_over (Waiting tries) g is = refl
waiting_none_over (Live generation tag tries) g is = absurd cc
waiting_none_over (Done outcome at) g is = absurd cc

issue-over : (f : Task → Task) (id : ℕ) (ts : List Task) → ((t : Task) → slice_get ts id ≡ Some t → is_waiting t.fate ≡ true) → tags_over ts (changed id f ts) ≡ []
issue-over f id [] waits = refl
issue-over f zero (t ∷ ts) waits = rw (waiting_none_over t.fate (f t).fate (waits t refl)) (no_tags_over ts)
issue-over f (suc id) (t ∷ ts) waits =
    ap (λ (z : List Tag). z ++ tags_over ts (changed id f ts)) (none_over t.fate) ∙ issue-over f id ts (λ x there. waits x there)

issue-lives : (generation : ℕ) (tag : Tag) (n id : ℕ) (ts : List Task) (t : Task) → slice_get ts id ≡ Some t → is_waiting t.fate ≡ true
    → lives n (changed id (issued generation tag) ts) ≡ lives n ts + bit (nat_eq tag.0 n)
issue-lives generation tag n id [] t there waits = absurd cc
issue-lives generation tag n zero (x ∷ ts) t there waits =
    let same : x ≡ t = cc in
    let off : bit (is_live_on n x.fate) ≡ 0 = ap bit (waiting_not_live n x.fate (subst (λ (y : Task). is_waiting y.fate ≡ true) (sym same) waits)) in
    omega (arith, off)
issue-lives generation tag n (suc id) (x ∷ ts) t there waits = let rest = issue-lives generation tag n id ts t there waits in omega (arith, rest)

issue-live : (f : Task → Task) (n k id : ℕ) (ts : List Task) → ((t : Task) → slice_get ts id ≡ Some t → is_waiting t.fate ≡ true) → live_at n k ts ≡ true → live_at n k (changed id f ts) ≡ true
issue-live f n k id [] waits live = live
issue-live f n zero zero (t ∷ ts) waits live = let off = waiting_not_live n t.fate (waits t refl) in absurd cc
issue-live f n (suc k) zero (t ∷ ts) waits live = live
issue-live f n zero (suc id) (t ∷ ts) waits live = live
issue-live f n (suc k) (suc id) (t ∷ ts) waits live = issue-live f n k id ts (λ x there. waits x there) live

new-live : (generation : ℕ) (tag : Tag) (id : ℕ) (ts : List Task) (t : Task) → slice_get ts id ≡ Some t → live_at tag.0 id (changed id (issued generation tag) ts) ≡ true
new-live generation tag id [] t there = absurd cc
new-live generation tag zero (x ∷ ts) t there = same_test tag.0
new-live generation tag (suc id) (x ∷ ts) t there = new-live generation tag id ts t there

live-not-waiting : (n id : ℕ) (ts : List Task) → ((t : Task) → slice_get ts id ≡ Some t → is_waiting t.fate ≡ true) → live_at n id ts ≡ true → ⊥
live-not-waiting n id [] waits live = cc
live-not-waiting n zero (t ∷ ts) waits live = let off = waiting_not_live n t.fate (waits t refl) in cc
live-not-waiting n (suc id) (t ∷ ts) waits live = live-not-waiting n id ts (λ x there. waits x there) live

issue-owned : (f : Task → Task) (id : ℕ) (ts : List Task) (busy : List Allocated) → ((t : Task) → slice_get ts id ≡ Some t → is_waiting t.fate ≡ true) → AreOwned [] ts busy
    → AreOwned [] (changed id f ts) busy
issue-owned f id ts [] waits p = tt
issue-owned f id ts (x ∷ busy) waits p = (step p.0, issue-owned f id ts busy waits p.1)
  where
    step : IsOwned [] ts x → IsOwned [] (changed id f ts) x
    step (inl live) = inl (issue-live f x.tag.0 x.id id ts waits live)
    step (inr some) = absurd (omega (arith, some))

owned-append : (ended : List Tag) (ts : List Task) (xs ys : List Allocated) → AreOwned ended ts xs → AreOwned ended ts ys → AreOwned ended ts (xs ++ ys)
owned-append ended ts [] ys p q = q
owned-append ended ts (x ∷ xs) ys p q = (p.0, owned-append ended ts xs ys p.1 q)

none-holds : (id : ℕ) (ts : List Task) (busy : List Allocated) → ((t : Task) → slice_get ts id ≡ Some t → is_waiting t.fate ≡ true) → AreOwned [] ts busy → holdings id busy ≡ 0
none-holds id ts [] waits p = refl
none-holds id ts (x ∷ busy) waits p = decide x.id id _
    (λ same. absurd (step p.0 same))
    (λ differs. let mine = other_bit x.id id differs in let rest = none-holds id ts busy waits p.1 in omega (arith, mine, rest))
  where
    step : IsOwned [] ts x → x.id ≡ id → ⊥
    step (inl live) same = live-not-waiting x.tag.0 id ts waits (subst (λ (k : ℕ). live_at x.tag.0 k ts ≡ true) same live)
    step (inr some) same = absurd (omega (arith, some))

issue_once : (id : ℕ) (ts : List Task) (busy : List Allocated) (tag : Tag) (cmdsn k : ℕ) → ((t : Task) → slice_get ts id ≡ Some t → is_waiting t.fate ≡ true) → AreOwned [] ts busy
    → ((i : ℕ) → holdings i busy ≤ 1) → holdings k (busy ++ record { tag = tag; id = id; cmdsn = cmdsn } ∷ []) ≤ 1
issue_once id ts busy tag cmdsn k waits owned once =
    let split = holdings-append k busy (record { tag = tag; id = id; cmdsn = cmdsn } ∷ []) in
    decide id k _
    (λ same.
    let none : holdings k busy ≡ 0 = subst (λ (i : ℕ). holdings i busy ≡ 0) same (none-holds id ts busy waits owned) in
    let one = same_bit id k same in
    omega (arith, split, none, one))
    (λ differs. let zero_bit = other_bit id k differs in let was = once k in omega (arith, split, zero_bit, was))

issue_tags : (p : Phase) (busy : List Allocated) (free ended : List Tag) (ts : List Task) (id generation : ℕ) (tag : Tag) (cmdsn : ℕ) (t : Task)
    → slice_get free 0 ≡ Some tag → ended ≡ [] → has_connection p ≡ true → slice_get ts id ≡ Some t → ((x : Task) → slice_get ts id ≡ Some x → is_waiting x.fate ≡ true) → AreTags p busy free ended ts
    → AreTags p (busy ++ record { tag = tag; id = id; cmdsn = cmdsn } ∷ []) (drop 1 free) (ended ++ tags_over ts (changed id (issued generation tag) ts)) (changed id (issued generation tag) ts)
issue_tags p busy free ended ts id generation tag cmdsn t first nothing on there waits tags =
    let over : ended ++ tags_over ts (changed id (issued generation tag) ts) ≡ [] = rw (nothing, issue-over (issued generation tag) id ts waits) refl in
    let owned : AreOwned [] ts busy = subst (λ (z : List Tag). AreOwned z ts busy) nothing tags.owned in
    record {
      apart = λ n.
          let more = allocations-append n busy (record { tag = tag; id = id; cmdsn = cmdsn } ∷ []) in
          let taken = counted_first free tag n first in
          let was = tags.apart n in
          omega (arith, more, taken, was);
      held = λ n.
          let more = allocations-append n busy (record { tag = tag; id = id; cmdsn = cmdsn } ∷ []) in
          let none : copies n (ended ++ tags_over ts (changed id (issued generation tag) ts)) ≡ 0 = ap (copies n) over in
          let before : copies n ended ≡ 0 = ap (copies n) nothing in
          let lives_on = issue-lives generation tag n id ts t there (waits t there) in
          let was = tags.held n in
          omega (arith, more, none, before, lives_on, was);
      none = λ is. absurd cc;
      owned = subst (λ (z : List Tag). AreOwned z (changed id (issued generation tag) ts) (busy ++ record { tag = tag; id = id; cmdsn = cmdsn } ∷ [])) (sym over)
          (owned-append [] (changed id (issued generation tag) ts) busy (record { tag = tag; id = id; cmdsn = cmdsn } ∷ [])
          (issue-owned (issued generation tag) id ts busy waits owned) (inl (new-live generation tag id ts t there), tt));
      once = λ k. issue_once id ts busy tag cmdsn k waits owned tags.once;
    }

-- a loss leaves none live

gone_if : (at n : ℕ) (t : Task) (b : Bool) (x y : Next) → is_live_on n (moved_by at t x).fate ≡ false → is_live_on n (moved_by at t y).fate ≡ false → is_live_on n (moved_by at t (if b then x else y)).fate ≡ false
gone_if at n t true x y p q = p
gone_if at n t false x y p q = q

lost_aim : (a at n : ℕ) (aim : Aim) (at_once counted : Bool) (t : Task) (k : ℕ) → is_live_on n (moved_by at t (recovery_table (StandsLive k) (ByLoss aim at_once counted) a)).fate ≡ false
lost_aim a at n ByAbort at_once counted t k = refl
lost_aim a at n ByReset at_once counted t k = refl
lost_aim a at n Free at_once false t k = gone_if at n t at_once _ _ refl refl
lost_aim a at n Free at_once true t k = gone_if at n t (nat_lt k a) (waits_on at_once (Wait k)) (Host Disrupted) (gone_if at n t at_once (Host FailsFast) (Wait k) refl refl) refl

lost_fate : (a at n : ℕ) (aim : Aim) (at_once counted : Bool) (t : Task) (f : Fate) → t.fate ≡ f → is_live_on n (hit_in a at (ByLoss aim at_once counted) t f).fate ≡ false
lost_fate a at n aim at_once counted t (Waiting tries) is = gone_if at n t at_once _ _ refl (ap (is_live_on n) is)
lost_fate a at n aim at_once counted t (Live generation tag tries) is = lost_aim a at n aim at_once counted t tries
lost_fate a at n aim at_once counted t (Done outcome k) is = ap (is_live_on n) is

lost-none : (a at n : ℕ) (handler : Handler) (at_once counted : Bool) (k : ℕ) (ts : List Task) → lives n (map_from k (lost_by a at handler at_once counted) ts) ≡ 0
lost-none a at n handler at_once counted k [] = refl
lost-none a at n handler at_once counted k (t ∷ ts) =
    let mine : bit (is_live_on n (lost_by a at handler at_once counted k t).fate) ≡ 0 = ap bit (lost_fate a at n _ at_once counted t t.fate refl) in
    let rest = lost-none a at n handler at_once counted (k + 1) ts in
    omega (arith, mine, rest)

-- nor does the end

done_not_live : (n : ℕ) (f : Fate) → is_done f ≡ true → is_live_on n f ≡ false
done_not_live n (Waiting tries) is = refl
done_not_live n (Live generation tag tries) is = absurd cc
done_not_live n (Done outcome at) is = refl

done-none : (n : ℕ) (ts : List Task) → AreDone ts → lives n ts ≡ 0
done-none n [] p = refl
done-none n (t ∷ ts) p = let mine : bit (is_live_on n t.fate) ≡ 0 = ap bit (done_not_live n t.fate p.0) in let rest = done-none n ts p.1 in omega (arith, mine, rest)

-- a reading makes no connection
tick_without : (replacement : ℤ) (now : ℕ) (p : Phase) → has_connection (given_up replacement now p) ≡ false → has_connection p ≡ false
tick_without replacement now First is = refl
tick_without replacement now (LoggedIn generation) is = is
tick_without replacement now (Recovering since) is = refl
tick_without replacement now (FailFast since) is = refl
tick_without replacement now (Ended cause) is = refl

connected : (p : Phase) (generation : ℕ) → is_logged_in p generation ≡ true → has_connection p ≡ true
connected (LoggedIn g) generation is = refl
connected First generation is = absurd cc
connected (Recovering since) generation is = absurd cc
connected (FailFast since) generation is = absurd cc
connected (Ended cause) generation is = absurd cc

tags_after : (C : SessionConfig) (at : ℕ) (m : Meanings) (accepted : Bool) (e : Event) → IsNextCommand C m e → IsTagged m e → IsFirstEnded m e → IsNextLogin m e
    → AreTags m.phase m.busy m.free m.ended m.tasks
    → AreTags (phase_step C m.clock e m.phase) (allocated_step e m.busy) (free_after C.cmds_max e m.free)
    (ended_step e m.tasks (tasks_step C at accepted m.phase m.handler m.busy e m.tasks) m.ended) (tasks_step C at accepted m.phase m.handler m.busy e m.tasks)
tags_after C at m accepted (Login generation params cmdsn max exp_stat) next tagged first login tags = record {
  apart = λ n. let once = fresh_tags_once (age_after generation) C.cmds_max n in omega (arith, once);
  held = λ n. let none = tags.none login.2 n in omega (arith, none);
  none = λ is. absurd cc;
  owned = tt;
  once = λ id. omega arith;
}
tags_after C at m accepted (Issue id generation tag cmdsn) next tagged first login tags =
    let there = sendable_there C.queue_depth id m.tasks next.0 in
    issue_tags m.phase m.busy m.free m.ended m.tasks id generation tag cmdsn there.0 tagged.0 tagged.1 (connected m.phase generation next.1) there.1
    (λ x is. sendable_waits C.queue_depth id m.tasks x next.0 is) tags
tags_after C at m accepted (Reap tag) next tagged first login tags = reap_tags m.phase m.busy m.free m.ended m.tasks tag first tags
tags_after C at m accepted (Lost generation cause) next tagged first login tags =
    let none : (n : ℕ) → lives n (map_from 0 (lost_by C.tries at m.handler (is_at_once C.replacement) C.count_disrupted) m.tasks) ≡ 0 =
    λ n. lost-none C.tries at n m.handler (is_at_once C.replacement) C.count_disrupted 0 m.tasks in
    record {
      apart = λ n. let was = tags.apart n in omega (arith, was);
      held = λ n. let gone = none n in omega (arith, gone);
      none = λ is n. none n;
      owned = tt;
      once = λ id. omega arith;
    }
tags_after C at m accepted (Terminate cause) next tagged first login tags =
    quiet_tags _ C.tries m.phase _ m.busy m.free m.ended m.tasks _ (λ n. refl) (moved_after C at m accepted (Terminate cause) next)
    (λ is n. done-none n _ (end_all C.tries at m.tasks)) tags
tags_after C at m accepted (Tick reading) next tagged first login tags =
    let moved = moved_after C at m accepted (Tick reading) next in
    quiet_tags _ C.tries m.phase _ m.busy m.free m.ended m.tasks _ (λ n. refl) moved
    (λ is n. none_after (Tick reading) C.tries n m.tasks _ refl moved (tags.none (tick_without C.replacement reading m.phase is) n)) tags
tags_after C at m accepted e next tagged first login tags =
    let moved = moved_after C at m accepted e next in
    quiet_tags e C.tries m.phase m.phase m.busy m.free m.ended m.tasks _ (λ n. refl) moved
    (λ is n. none_after e C.tries n m.tasks _ refl moved (tags.none is n)) tags

pub are_tags : (C : SessionConfig) (H : List Numbered) → ArePermitted C H → AreTags (meanings C H).phase (meanings C H).busy (meanings C H).free (meanings C H).ended (meanings C H).tasks
are_tags C [] legal = record {
  apart = λ n. let once = fresh_tags_once 0 C.cmds_max n in omega (arith, once);
  held = λ n. omega arith;
  none = λ is n. refl;
  owned = tt;
  once = λ id. omega arith;
}
are_tags C (n ∷ H) legal =
    tags_after C n.number (meanings C H) (accepted_in n.event (meanings C H)) n.event legal.0.command legal.0.tagged legal.0.released legal.0.login (are_tags C H legal.1)

pub tags_distinct : (C : SessionConfig) (H : List Numbered) → ArePermitted C H → (tag : ℕ) → allocations tag (meanings C H).busy + copies tag (meanings C H).free ≤ 1
tags_distinct C H legal tag = (are_tags C H legal).apart tag

pub ids_distinct : (C : SessionConfig) (H : List Numbered) → ArePermitted C H → (id : ℕ) → holdings id (meanings C H).busy ≤ 1
ids_distinct C H legal id = (are_tags C H legal).once id
