-- A submission that is live has its tag, on the connection of the last login.
use Rattle.oi_session_laws.specs.Stays.{fate_at}
use Rattle.oi_session_laws.specs.Tags.{allocations, copies}
use Rattle.std.proofs.Common.{◌≡◌, ◌∙◌, ◌+◌, ◌≤◌, ℕ, suc, zero, Bool, true, false, List, [], ◌∷◌, ap, sym, subst, refl, arith, nat_eq, inl, inr, Some, if◌then◌else◌}
use Rattle.oi_base.specs.Counts.{bit}
use Rattle.oi_base.specs.declared.tag.Tag.{Tag}
use Rattle.oi_history.specs.Meanings.{Meanings, accepted_in, meanings}
use Rattle.oi_history.specs.Permitted.{ArePermitted, IsNextCommand, IsNextLogin}
use Rattle.oi_history.specs.Phases.{generation_after, has_connection, is_logged_in}
use Rattle.oi_history.specs.Recovering.{tasks_step}
use Rattle.oi_history.specs.Tags.{holder}
use Rattle.oi_history.specs.Tasks.{is_live_on}
use Rattle.oi_history.specs.declared.allocated.Allocated.{Allocated}
use Rattle.oi_history.specs.declared.config.SessionConfig.{SessionConfig}
use Rattle.oi_history.specs.declared.event.Event.{Event}
use Rattle.oi_history.specs.declared.event.Event.TheVariants.{Login, Issue}
use Rattle.oi_history.specs.declared.event.Numbered.{Numbered}
use Rattle.oi_history.specs.declared.fate.Fate.{Fate}
use Rattle.oi_history.specs.declared.fate.Fate.TheVariants.{Waiting, Live, Done}
use Rattle.oi_history.specs.declared.phase.Phase.{Phase}
use Rattle.oi_history.specs.declared.phase.Phase.TheVariants.{First, LoggedIn, Recovering, FailFast, Ended}
use Rattle.oi_history.specs.declared.task.Task.{Task}
use Rattle.oi_session_laws.proofs.Connections.{logged_in}
use Rattle.oi_session_laws.proofs.Generations.{IsLast, last_login}
use Rattle.oi_session_laws.proofs.Moved.{AreMoved, AreNew, IsIssuedOn, IsLiveOn, moved_after}
use Rattle.oi_session_laws.proofs.TagCounts.{equal_from, same_test, live_at}
use Rattle.oi_session_laws.proofs.Tags.{AreOwned, IsOwned, are_tags, lives}

-- the connection on which it is live

abbrev pub AreLiveOn : ℕ → List Task → Type 0
AreLiveOn last [] = Unit {0}
AreLiveOn last (t ∷ ts) = IsLiveOn last t.fate × AreLiveOn last ts

last-new : (a last : ℕ) (us : List Task) → AreNew a us → AreLiveOn last us
last-new a last [] new = tt
last-new a last (u ∷ us) new = (new.0.last last, last-new a last us new.1)

last-moved : (e : Event) (a last : ℕ) (ts us : List Task) → IsIssuedOn last e → AreMoved e a ts us → AreLiveOn last ts → AreLiveOn last us
last-moved e a last [] us sent m on = last-new a last us m
last-moved e a last (t ∷ ts) [] sent m on = absurd m
last-moved e a last (t ∷ ts) (u ∷ us) sent m on = (m.0.last last sent on.0, last-moved e a last ts us sent m.1 on.1)

none_live : (last : ℕ) (f : Fate) (rest : ℕ → ℕ) → ((n : ℕ) → bit (is_live_on n f) + rest n ≡ 0) → IsLiveOn last f
none_live last (Waiting tries) rest none = tt
none_live last (Live generation tag tries) rest none = let here = none tag.0 in let one : bit (nat_eq tag.0 tag.0) ≡ 1 = ap bit (same_test tag.0) in absurd (omega (arith, here, one))
none_live last (Done outcome at) rest none = tt

none-on : (last : ℕ) (ts : List Task) → ((n : ℕ) → lives n ts ≡ 0) → AreLiveOn last ts
none-on last [] none = tt
none-on last (t ∷ ts) none = (none_live last t.fate (λ n. lives n ts) none, none-on last ts (λ n. let all = none n in omega (arith, all)))

on_after : (C : SessionConfig) (at : ℕ) (H : List Numbered) (accepted : Bool) (e : Event) → ArePermitted C H → IsNextCommand C (meanings C H) e → IsNextLogin (meanings C H) e
    → AreLiveOn (meanings C H).generation (meanings C H).tasks
    → AreLiveOn (generation_after e (meanings C H).generation) (tasks_step C at accepted (meanings C H).phase (meanings C H).handler (meanings C H).busy e (meanings C H).tasks)
on_after C at H accepted (Login generation params cmdsn max exp_stat) legal next login on = none-on generation (meanings C H).tasks ((are_tags C H legal).none login.2)
on_after C at H accepted (Issue id generation tag cmdsn) legal next login on =
    last-moved (Issue id generation tag cmdsn) C.tries (meanings C H).generation (meanings C H).tasks _
    (logged_in (meanings C H).phase generation (meanings C H).generation (last_login C H) next.1)
    (moved_after C at (meanings C H) accepted (Issue id generation tag cmdsn) next) on
on_after C at H accepted e legal next login on = last-moved e C.tries (meanings C H).generation (meanings C H).tasks _ tt (moved_after C at (meanings C H) accepted e next) on

live_on_last : (C : SessionConfig) (H : List Numbered) → ArePermitted C H → AreLiveOn (meanings C H).generation (meanings C H).tasks
live_on_last C [] legal = tt
live_on_last C (n ∷ H) legal = on_after C n.number H (accepted_in n.event (meanings C H)) n.event legal.1 legal.0.command legal.0.login (live_on_last C H legal.1)

on_at : (last id : ℕ) (ts : List Task) (f : Fate) → AreLiveOn last ts → fate_at id ts ≡ Some f → IsLiveOn last f
on_at last id [] f on is = absurd cc
on_at last zero (t ∷ ts) f on is = let same : t.fate ≡ f = cc in subst (λ (x : Fate). IsLiveOn last x) same on.0
on_at last (suc id) (t ∷ ts) f on is = on_at last id ts f on.1 is

-- there is one, and it is the last

there : (p : Phase) (last generation : ℕ) → has_connection p ≡ true → IsLast last p → generation ≡ last → is_logged_in p generation ≡ true
there (LoggedIn g) last generation on is same = subst (λ (x : ℕ). nat_eq g x ≡ true) (is ∙ sym same) (same_test g)
there First last generation on is same = absurd cc
there (Recovering since) last generation on is same = absurd cc
there (FailFast since) last generation on is same = absurd cc
there (Ended cause) last generation on is same = absurd cc

some_live : (n id : ℕ) (ts : List Task) → live_at n id ts ≡ true → 1 ≤ lives n ts
some_live n id [] live = absurd cc
some_live n zero (t ∷ ts) live = let one : bit (is_live_on n t.fate) ≡ 1 = ap bit live in omega (arith, one)
some_live n (suc id) (t ∷ ts) live = let some = some_live n id ts live in omega (arith, some)

connected_by : (p : Phase) (b : Bool) (n : ℕ) → has_connection p ≡ b → (has_connection p ≡ false → n ≡ 0) → 1 ≤ n → has_connection p ≡ true
connected_by p true n is none some = is
connected_by p false n is none some = let gone = none is in absurd (omega (arith, gone, some))

-- its tag

one_live : (n i j : ℕ) (ts : List Task) → live_at n i ts ≡ true → live_at n j ts ≡ true → lives n ts ≤ 1 → i ≡ j
one_live n i j [] first second few = absurd cc
one_live n zero zero (t ∷ ts) first second few = refl
one_live n zero (suc j) (t ∷ ts) first second few =
    let one : bit (is_live_on n t.fate) ≡ 1 = ap bit first in let more = some_live n j ts second in absurd (omega (arith, one, more, few))
one_live n (suc i) zero (t ∷ ts) first second few =
    let one : bit (is_live_on n t.fate) ≡ 1 = ap bit second in let more = some_live n i ts first in absurd (omega (arith, one, more, few))
one_live n (suc i) (suc j) (t ∷ ts) first second few = ap suc (one_live n i j ts first second (omega (arith, few)))

holds-it : (n id : ℕ) (ended : List Tag) (ts : List Task) (busy : List Allocated) → AreOwned ended ts busy → 1 ≤ allocations n busy → copies n ended ≡ 0 → lives n ts ≤ 1 → live_at n id ts ≡ true
    → holder n busy ≡ Some id
holds-it n id ended ts [] owned some none few live = absurd (omega (arith, some))
holds-it n id ended ts (x ∷ busy) owned some none few live = step (nat_eq x.tag.0 n) refl owned.0 some (λ more. holds-it n id ended ts busy owned.1 more none few live)
  where
    mine : x.tag.0 ≡ n → IsOwned ended ts x → x.id ≡ id
    mine same (inl lives_on) = one_live n x.id id ts (subst (λ (m : ℕ). live_at m x.id ts ≡ true) same lives_on) live few
    mine same (inr over) = let here : 1 ≤ copies n ended = subst (λ (m : ℕ). 1 ≤ copies m ended) same over in absurd (omega (arith, here, none))

    step : (b : Bool) → nat_eq x.tag.0 n ≡ b → IsOwned ended ts x → 1 ≤ bit b + allocations n busy → (1 ≤ allocations n busy → holder n busy ≡ Some id) → (if b then Some x.id else holder n busy) ≡ Some id
    step true is own more rest = ap (λ (i : ℕ). Some i) (mine (equal_from x.tag.0 n is) own)
    step false is own more rest = rest (omega (arith, more))

live_there : (id generation : ℕ) (tag : Tag) (tries : ℕ) (ts : List Task) → fate_at id ts ≡ Some (Live generation tag tries) → live_at tag.0 id ts ≡ true
live_there id generation tag tries [] is = absurd cc
live_there zero generation tag tries (t ∷ ts) is = let same : t.fate ≡ Live generation tag tries = cc in ap (is_live_on tag.0) same ∙ same_test tag.0
live_there (suc id) generation tag tries (t ∷ ts) is = live_there id generation tag tries ts is

pub live_holds : (C : SessionConfig) (H : List Numbered) → ArePermitted C H → (id generation : ℕ) (tag : Tag) (tries : ℕ) → fate_at id (meanings C H).tasks ≡ Some (Live generation tag tries)
    → (is_logged_in (meanings C H).phase generation ≡ true) × (holder tag.0 (meanings C H).busy ≡ Some id)
live_holds C H legal id generation tag tries is =
    let m : Meanings = meanings C H in
    let tags = are_tags C H legal in
    let live = live_there id generation tag tries m.tasks is in
    let some = some_live tag.0 id m.tasks live in
    let held = tags.held tag.0 in
    let apart = tags.apart tag.0 in
    let on = connected_by m.phase (has_connection m.phase) (lives tag.0 m.tasks) refl (λ off. tags.none off tag.0) some in (
      there m.phase m.generation generation on (last_login C H) (on_at m.generation id m.tasks (Live generation tag tries) (live_on_last C H legal) is),
      holds-it tag.0 id m.ended m.tasks m.busy tags.owned (omega (arith, some, held, apart)) (omega (arith, some, held, apart)) (omega (arith, some, held, apart)) live,
    )
