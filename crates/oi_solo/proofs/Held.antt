-- Data that wait have their tag in use for their submission.
use Rattle.oi_session_laws.specs.Tags.{allocations, copies}
use Rattle.std.proofs.Common.{◌≡◌, ◌≢◌, ◌∙◌, ◌+◌, ◌≤◌, ◌==◌, ℕ, Bool, true, false, not, All, List, [], ◌∷◌, ◌++◌, filter, cond, drop, sym, subst, refl, arith, nat_eq, Option, Some, None, slice_get, if◌then◌else◌}
use Rattle.std.proofs.lemmas.List.Elements.{All-cons, All-nil}
use Rattle.std.specs.List.{flat_map}
use Rattle.std.specs.Option.{option_map_or}
use Rattle.oi_base.specs.Counts.{bit}
use Rattle.oi_base.specs.declared.login.Params.{Params}
use Rattle.oi_base.specs.declared.tag.Tag.{Tag}
use Rattle.oi_buffer.specs.declared.cut.Piece.{Piece}
use Rattle.oi_history.specs.Meanings.{Meanings, allocated_step, meanings}
use Rattle.oi_history.specs.Permitted.{ArePermitted, IsTagged}
use Rattle.oi_history.specs.Queues.{drawable, drawn_by, queue_step, queued_as, unasked, unasked_of}
use Rattle.oi_history.specs.Tags.{holder}
use Rattle.oi_history.specs.declared.allocated.Allocated.{Allocated}
use Rattle.oi_history.specs.declared.config.SessionConfig.{SessionConfig}
use Rattle.oi_history.specs.declared.event.Event.{Event}
use Rattle.oi_history.specs.declared.event.Event.TheVariants.{Login, Issue, Draw, Push, Reap, Lost}
use Rattle.oi_history.specs.declared.event.Numbered.{Numbered}
use Rattle.oi_history.specs.declared.owed.Queued.{Queued}
use Rattle.oi_history.specs.declared.owed.Solicited.{Solicited}
use Rattle.oi_history.specs.declared.task.Task.{Task}
use Rattle.oi_session_laws.proofs.TagCounts.{counted_first, other_test, same_bit, same_test}
use Rattle.oi_session_laws.proofs.Tags.{are_tags}

abbrev pub AreHeld : List Allocated → List Queued → Type 0
AreHeld busy [] = Unit {0}
AreHeld busy (q ∷ queue) = (holder q.tag.0 busy ≡ Some q.id) × AreHeld busy queue

held-append : (busy : List Allocated) (xs ys : List Queued) → AreHeld busy xs → AreHeld busy ys → AreHeld busy (xs ++ ys)
held-append busy [] ys p q = q
held-append busy (x ∷ xs) ys p q = (p.0, held-append busy xs ys p.1 q)

-- pieces of one tag

held-as : (busy : List Allocated) (id : ℕ) (tag : Tag) (ttt : ℕ) (ps : List Piece) → holder tag.0 busy ≡ Some id → AreHeld busy (queued_as id tag ttt ps)
held-as busy id tag ttt [] is = tt
held-as busy id tag ttt (p ∷ ps) is = (is, held-as busy id tag ttt ps is)

held-unasked : (busy : List Allocated) (params : Option Params) (id : ℕ) (tag : Tag) (t : Option Task) → holder tag.0 busy ≡ Some id → AreHeld busy (unasked params id tag t)
held-unasked busy (Some p) id tag (Some t) is = held-as busy id tag _ (unasked_of p t) is
held-unasked busy None id tag t is = tt
held-unasked busy (Some p) id tag None is = tt

held_with : (busy : List Allocated) (p : Params) (r : Solicited) (ps : List Piece) (o : Option ℕ) → holder r.tag.0 busy ≡ o → AreHeld busy (option_map_or (λ id. queued_as id r.tag r.ttt ps) o [])
held_with busy p r ps None is = tt
held_with busy p r ps (Some id) is = held-as busy id r.tag r.ttt ps is

held_by : (busy : List Allocated) (params : Option Params) (r : Solicited) → AreHeld busy (drawn_by params busy r)
held_by busy None r = tt
held_by busy (Some p) r = held_with busy p r _ (holder r.tag.0 busy) refl

held-each : (busy : List Allocated) (params : Option Params) (rs : List Solicited) → AreHeld busy (flat_map (λ r. drawn_by params busy r) rs)
held-each busy params [] = tt
held-each busy params (r ∷ rs) = held-append busy (drawn_by params busy r) _ (held_by busy params r) (held-each busy params rs)

-- a command takes a tag that is not in use

holder-more : (n id : ℕ) (busy more : List Allocated) → holder n busy ≡ Some id → holder n (busy ++ more) ≡ Some id
holder-more n id [] more is = absurd cc
holder-more n id (a ∷ busy) more is = step (nat_eq a.tag.0 n) is (λ there. holder-more n id busy more there)
  where
    step : (b : Bool) → (if b then Some a.id else holder n busy) ≡ Some id → (holder n busy ≡ Some id → holder n (busy ++ more) ≡ Some id) → (if b then Some a.id else holder n (busy ++ more)) ≡ Some id
    step true same rest = same
    step false same rest = rest same

holder-last : (busy : List Allocated) (a : Allocated) → allocations a.tag.0 busy ≡ 0 → holder a.tag.0 (busy ++ a ∷ []) ≡ Some a.id
holder-last [] a none = rw (same_test a.tag.0) refl
holder-last (x ∷ busy) a none = step (nat_eq x.tag.0 a.tag.0) none (λ free. holder-last busy a free)
  where
    step : (b : Bool) → bit b + allocations a.tag.0 busy ≡ 0 → (allocations a.tag.0 busy ≡ 0 → holder a.tag.0 (busy ++ a ∷ []) ≡ Some a.id)
        → (if b then Some x.id else holder a.tag.0 (busy ++ a ∷ [])) ≡ Some a.id
    step true free rest = absurd (omega (arith, free))
    step false free rest = rest (omega (arith, free))

held-more : (busy more : List Allocated) (queue : List Queued) → AreHeld busy queue → AreHeld (busy ++ more) queue
held-more busy more [] p = tt
held-more busy more (q ∷ queue) p = (holder-more q.tag.0 q.id busy more p.0, held-more busy more queue p.1)

-- a release

holder-left : (gone n : ℕ) (busy : List Allocated) → nat_eq n gone ≡ false → holder n (filter (λ a. not (a.tag.0 == gone)) busy) ≡ holder n busy
holder-left gone n [] differs = refl
holder-left gone n (a ∷ busy) differs = step (nat_eq a.tag.0 gone) refl (holder-left gone n busy differs)
  where
    step : (b : Bool) → nat_eq a.tag.0 gone ≡ b → holder n (filter (λ a. not (a.tag.0 == gone)) busy) ≡ holder n busy
        → holder n (cond (not b) (a ∷ filter (λ a. not (a.tag.0 == gone)) busy) (filter (λ a. not (a.tag.0 == gone)) busy)) ≡ (if a.tag.0 == n then Some a.id else holder n busy)
    step true is rest =
        let other : nat_eq a.tag.0 n ≡ false = other_test a.tag.0 n (λ same. absurd (let off : nat_eq a.tag.0 gone ≡ false = subst (λ (k : ℕ). nat_eq k gone ≡ false) (sym same) differs in cc)) in
        rw other rest
    step false is rest = rw rest refl

held-left : (gone : ℕ) (busy : List Allocated) (queue : List Queued) → AreHeld busy queue
    → AreHeld (filter (λ a. not (a.tag.0 == gone)) busy) (filter (λ q. not (q.tag.0 == gone)) queue)
held-left gone busy [] p = tt
held-left gone busy (q ∷ queue) p = step (nat_eq q.tag.0 gone) refl (held-left gone busy queue p.1)
  where
    step : (b : Bool) → nat_eq q.tag.0 gone ≡ b → AreHeld (filter (λ a. not (a.tag.0 == gone)) busy) (filter (λ q. not (q.tag.0 == gone)) queue)
        → AreHeld (filter (λ a. not (a.tag.0 == gone)) busy) (cond (not b) (q ∷ filter (λ q. not (q.tag.0 == gone)) queue) (filter (λ q. not (q.tag.0 == gone)) queue))
    step true is rest = rest
    step false is rest = (holder-left gone q.tag.0 busy is ∙ p.0, rest)

held-rest : (busy : List Allocated) (queue : List Queued) → AreHeld busy queue → AreHeld busy (drop 1 queue)
held-rest busy [] p = tt
held-rest busy (q ∷ queue) p = p.1

held_after : (m : Meanings) (e : Event) → IsTagged m e → ((n : ℕ) → allocations n m.busy + copies n m.free ≤ 1) → AreHeld m.busy m.queue
    → AreHeld (allocated_step e m.busy) (queue_step m.params m.busy m.tasks m.solicited e m.queue)
held_after m (Login generation params cmdsn max exp_stat) tagged apart p = tt
held_after m (Lost generation cause) tagged apart p = tt
held_after m (Issue id generation tag cmdsn) tagged apart p =
    let a : Allocated = record { tag = tag; id = id; cmdsn = cmdsn } in
    let taken = counted_first m.free tag tag.0 tagged.0 in
    let one = same_bit tag.0 tag.0 refl in
    let few = apart tag.0 in
    let mine = holder-last m.busy a (omega (arith, taken, one, few)) in
    held-append (m.busy ++ a ∷ []) m.queue _ (held-more m.busy (a ∷ []) m.queue p) (held-unasked (m.busy ++ a ∷ []) m.params id tag (slice_get m.tasks id) mine)
held_after m (Draw count) tagged apart p = held-append m.busy m.queue _ p (held-each m.busy m.params (drawable m.busy m.tasks m.solicited))
held_after m (Push id generation ttt number offset size last) tagged apart p = held-rest m.busy m.queue p
held_after m (Reap tag) tagged apart p = held-left tag.0 m.busy m.queue p
held_after m e tagged apart p = p

pub are_held : (C : SessionConfig) (H : List Numbered) → ArePermitted C H → AreHeld (meanings C H).busy (meanings C H).queue
are_held C [] legal = tt
are_held C (n ∷ H) legal = held_after (meanings C H) n.event legal.0.tagged (are_tags C H legal.1).apart (are_held C H legal.1)

held-all : (busy : List Allocated) (queue : List Queued) → AreHeld busy queue → All (λ q. holder q.tag.0 busy ≡ Some q.id) queue
held-all busy [] p = All-nil (λ (x : Queued). holder x.tag.0 busy ≡ Some x.id)
held-all busy (q ∷ queue) p = All-cons (λ (x : Queued). holder x.tag.0 busy ≡ Some x.id) q queue p.0 (held-all busy queue p.1)

pub data_have_tags : (C : SessionConfig) (H : List Numbered) → ArePermitted C H → All (λ q. holder q.tag.0 (meanings C H).busy ≡ Some q.id) (meanings C H).queue
data_have_tags C H legal = held-all (meanings C H).busy (meanings C H).queue (are_held C H legal)

-- so a tag that is free is none of theirs

some_held : (n id : ℕ) (busy : List Allocated) → holder n busy ≡ Some id → 1 ≤ allocations n busy
some_held n id [] is = absurd cc
some_held n id (a ∷ busy) is = step (nat_eq a.tag.0 n) is (λ there. some_held n id busy there)
  where
    step : (b : Bool) → (if b then Some a.id else holder n busy) ≡ Some id → (holder n busy ≡ Some id → 1 ≤ allocations n busy) → 1 ≤ bit b + allocations n busy
    step true same rest = omega arith
    step false same rest = let more = rest same in omega (arith, more)

apart_all : (n : ℕ) (busy : List Allocated) (queue : List Queued) → allocations n busy ≡ 0 → AreHeld busy queue → All (λ q. q.tag.0 ≢ n) queue
apart_all n busy [] none p = All-nil (λ (x : Queued). x.tag.0 ≢ n)
apart_all n busy (q ∷ queue) none p = All-cons (λ (x : Queued). x.tag.0 ≢ n) q queue (other q p.0) (apart_all n busy queue none p.1)
  where
    other : (x : Queued) → holder x.tag.0 busy ≡ Some x.id → x.tag.0 ≢ n
    other x is same = let some = some_held n x.id busy (subst (λ (k : ℕ). holder k busy ≡ Some x.id) same is) in omega (arith, some, none)

pub no_reuse : (C : SessionConfig) (H : List Numbered) (number id generation : ℕ) (tag : Tag) (cmdsn : ℕ) → ArePermitted C (record { number = number; event = Issue id generation tag cmdsn } ∷ H)
    → All (λ q. q.tag.0 ≢ tag.0) (meanings C H).queue
no_reuse C H number id generation tag cmdsn legal =
    let m : Meanings = meanings C H in
    let taken = counted_first m.free tag tag.0 legal.0.tagged.0 in
    let one = same_bit tag.0 tag.0 refl in
    let few = (are_tags C H legal.1).apart tag.0 in
    apart_all tag.0 m.busy m.queue (omega (arith, taken, one, few)) (are_held C H legal.1)
