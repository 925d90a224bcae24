-- What is owed may be entered, once all ended tags are released.
use Rattle.std.proofs.Common.{◌≡◌, ◌≤◌, ◌<◌, ◌&&◌, ◌||◌, ◌++◌, inr, ℕ, Bool, true, false, not, List, [], ◌∷◌, length, ap, sym, subst, refl, arith, is_some, Option, Some, None, slice_get, if◌then◌else◌}
use Rattle.std.specs.List.{flat_map}
use Rattle.oi_base.specs.Limits.{most_management_tags}
use Rattle.oi_base.specs.declared.tag.Tag.{Tag}
use Rattle.oi_history.specs.Handling.{is_idle}
use Rattle.oi_history.specs.Meanings.{Meanings, step}
use Rattle.oi_history.specs.Owing.{drawn_next, drawn_with, echo_next, issue_next, issue_with, logout_next, managed_next, next_after_data, next_in, next_management, or_else, owed_in, ping_next, push_of, queued_next, reaped, sendable}
use Rattle.oi_history.specs.Permitted.{DrawsAll, IsAsked, IsNextCommand, IsNumbered}
use Rattle.oi_history.specs.Phases.{has_connection, is_logged_in}
use Rattle.oi_history.specs.Queues.{drawable, drawn, drawn_by}
use Rattle.oi_history.specs.declared.config.SessionConfig.{SessionConfig}
use Rattle.oi_history.specs.declared.event.Event.{Event}
use Rattle.oi_history.specs.declared.event.Event.TheVariants.{Push, Issue, Reap, Manage, Nop, Logout}
use Rattle.oi_history.specs.declared.owed.Echo.{Echo}
use Rattle.oi_history.specs.declared.owed.Queued.{Queued}
use Rattle.oi_history.specs.declared.owed.Solicited.{Solicited}
use Rattle.oi_history.specs.declared.phase.Handler.{Handler}
use Rattle.oi_history.specs.declared.phase.Handler.TheVariants.{Idle, Aborting, ResettingLun, ResettingTarget, Spent}
use Rattle.oi_history.specs.declared.rule.Rule.{Rule}
use Rattle.oi_solo.proofs.Loads.{AreTurn}
use Rattle.oi_solo.specs.Turns.{is_owed, is_push, is_turn}
use Rattle.oi_window.specs.Numbering.{is_open, next_of}

-- a command has the tag that has been free longest; data are those that wait first
abbrev pub HasFirstTag : Meanings → Event → Type 0
HasFirstTag m (Issue id generation tag cmdsn) = slice_get m.free 0 ≡ Some tag
HasFirstTag m e = Unit {0}

abbrev pub IsFirstData : Meanings → Event → Type 0
IsFirstData m (Push id generation ttt number offset size last) = (q : Queued) × (slice_get m.queue 0 ≡ Some q) × (push_of m.generation q ≡ Push id generation ttt number offset size last)
IsFirstData m e = Unit {0}

pub record IsReady (C : SessionConfig) (m : Meanings) (e : Event) : Type 0 where
  pub owed : is_owed e ≡ true
  pub command : IsNextCommand C m e
  pub numbered : IsNumbered m e
  pub tagged : HasFirstTag m e
  pub pushed : IsFirstData m e
  pub drawn : DrawsAll m e

-- behind the first entry only data are sent
abbrev pub ArePieces : SessionConfig → Meanings → List Event → Type 0
ArePieces C m [] = Unit {0}
ArePieces C m (e ∷ es) = (is_push e ≡ true) × IsReady C m e × ArePieces C (step C e 0 m) es

abbrev pub AreReady : SessionConfig → Meanings → List Event → Type 0
AreReady C m [] = Unit {0}
AreReady C m (e ∷ es) = IsReady C m e × ArePieces C (step C e 0 m) es

ready-else : (C : SessionConfig) (m : Meanings) (xs ys : List Event) → AreReady C m xs → (xs ≡ [] → AreReady C m ys) → AreReady C m (or_else xs ys)
ready-else C m [] ys p q = q refl
ready-else C m (x ∷ xs) ys p q = p

ready-if : (C : SessionConfig) (m : Meanings) (b : Bool) (xs ys : List Event) → (b ≡ true → AreReady C m xs) → (b ≡ false → AreReady C m ys) → AreReady C m (if b then xs else ys)
ready-if C m true xs ys p q = p refl
ready-if C m false xs ys p q = q refl

first_of : (queue : List Queued) (q : Queued) (rest : List Queued) → queue ≡ q ∷ rest → slice_get queue 0 ≡ Some q
first_of queue q rest is = ap (λ (qs : List Queued). slice_get qs 0) is

ready_queued : (C : SessionConfig) (m : Meanings) (queue : List Queued) → m.queue ≡ queue → AreReady C m (queued_next m.generation queue)
ready_queued C m [] is = tt
ready_queued C m (q ∷ queue) is = (record { owed = refl; command = tt; numbered = tt; tagged = tt; pushed = (q, first_of m.queue q queue is, refl); drawn = tt }, tt)

queue_none : (generation : ℕ) (queue : List Queued) → queued_next generation queue ≡ [] → queue ≡ []
queue_none generation [] none = refl
queue_none generation (q ∷ queue) none = absurd cc

ready_logout : (C : SessionConfig) (m : Meanings) → AreReady C m (logout_next m.generation m)
ready_logout C m =
    ready-if C m m.leaving (Logout m.generation (next_management m) ∷ []) []
    (λ is. (record { owed = refl; command = tt; numbered = tt; tagged = tt; pushed = tt; drawn = tt }, tt)) (λ is. tt)

ready_managed : (C : SessionConfig) (m : Meanings) (handler : Handler) → AreReady C m (managed_next m.generation (next_management m) handler)
ready_managed C m (Aborting id None since) = (record { owed = refl; command = tt; numbered = tt; tagged = tt; pushed = tt; drawn = tt }, tt)
ready_managed C m (ResettingLun lun None since) = (record { owed = refl; command = tt; numbered = tt; tagged = tt; pushed = tt; drawn = tt }, tt)
ready_managed C m (ResettingTarget None since) = (record { owed = refl; command = tt; numbered = tt; tagged = tt; pushed = tt; drawn = tt }, tt)
ready_managed C m handler = tt

ready_echo : (C : SessionConfig) (m : Meanings) (echoes : List Echo) → AreReady C m (echo_next m.generation echoes)
ready_echo C m [] = tt
ready_echo C m (e ∷ echoes) = (record { owed = refl; command = tt; numbered = tt; tagged = tt; pushed = tt; drawn = tt }, tt)

ready_ping : (C : SessionConfig) (m : Meanings) → AreReady C m (ping_next C m.generation m)
ready_ping C m = ready-if C m _ (Nop m.generation (next_management m).0 _ _ ∷ []) [] (λ is. (record { owed = refl; command = tt; numbered = tt; tagged = tt; pushed = tt; drawn = tt }, tt)) (λ is. tt)

drawable_some : (f : Solicited → List Queued) (rs : List Solicited) (q : Queued) (qs : List Queued) → flat_map f rs ≡ q ∷ qs → 1 ≤ length rs
drawable_some f [] q qs is = absurd cc
drawable_some f (r ∷ rs) q qs is = omega arith

behind_none : (queue more : List Queued) (q : Queued) (qs : List Queued) → queue ≡ [] → more ≡ q ∷ qs → slice_get (queue ++ more) 0 ≡ Some q
behind_none queue more q qs none is = rw (none, is) refl

ready_drawn : (C : SessionConfig) (m : Meanings) (qs : List Queued) → drawn m.params m.busy m.tasks m.solicited ≡ qs → m.queue ≡ []
    → AreReady C m (drawn_with m.generation (length (drawable m.busy m.tasks m.solicited)) qs)
ready_drawn C m [] is none = tt
ready_drawn C m (q ∷ qs) is none = (
  record { owed = refl; command = tt; numbered = tt; tagged = tt; pushed = tt; drawn = (refl, drawable_some (λ r. drawn_by m.params m.busy r) (drawable m.busy m.tasks m.solicited) q qs is) },
  (refl, record { owed = refl; command = tt; numbered = tt; tagged = tt; pushed = (q, behind_none m.queue (drawn m.params m.busy m.tasks m.solicited) q qs none is, refl); drawn = tt }, tt),
)

-- a command

all_three : (a b c : Bool) → (a && b && c) ≡ true → (a ≡ true) × (b ≡ true) × (c ≡ true)
all_three true true true is = (refl, refl, refl)
all_three true true false is = absurd cc
all_three true false c is = absurd cc
all_three false b c is = absurd cc

idle_from : (handler : Handler) → is_idle handler ≡ true → handler ≡ Idle
idle_from Idle is = refl
idle_from (Aborting id tag since) is = absurd cc
idle_from (ResettingLun lun tag since) is = absurd cc
idle_from (ResettingTarget tag since) is = absurd cc
idle_from Spent is = absurd cc

stays_from : (b : Bool) → not b ≡ true → b ≡ false
stays_from false is = refl
stays_from true is = absurd cc

whole_from : (o : Option Rule) → is_some o ≡ false → o ≡ None
whole_from None is = refl
whole_from (Some rule) is = absurd cc

ready_with : (C : SessionConfig) (m : Meanings) (id : Option ℕ) (tag : Option Tag) → sendable C.queue_depth m.tasks ≡ id → slice_get m.free 0 ≡ tag
    → is_logged_in m.phase m.generation ≡ true → m.handler ≡ Idle → m.leaving ≡ false → m.broken ≡ None → is_open m.window ≡ true
    → AreReady C m (issue_with m.generation (next_of m.window) id tag)
ready_with C m (Some id) (Some tag) least first on rests stays whole wide =
    (record { owed = refl; command = (least, on, rests, stays, whole); numbered = (refl, wide); tagged = first; pushed = tt; drawn = tt }, tt)
ready_with C m None tag least first on rests stays whole wide = tt
ready_with C m (Some id) None least first on rests stays whole wide = tt

ready_issue : (C : SessionConfig) (m : Meanings) → is_logged_in m.phase m.generation ≡ true → m.broken ≡ None → AreReady C m (issue_next C m.generation m)
ready_issue C m on whole =
    ready-if C m (is_idle m.handler && not m.leaving && is_open m.window) (issue_with m.generation (next_of m.window) (sendable C.queue_depth m.tasks) (slice_get m.free 0)) []
    (λ is.
    let three = all_three (is_idle m.handler) (not m.leaving) (is_open m.window) is in
    ready_with C m (sendable C.queue_depth m.tasks) (slice_get m.free 0) refl refl on (idle_from m.handler three.0) (stays_from m.leaving three.1) whole three.2)
    (λ is. tt)

ready_after : (C : SessionConfig) (m : Meanings) → is_logged_in m.phase m.generation ≡ true → m.queue ≡ [] → m.broken ≡ None → AreReady C m (next_after_data C m.generation m)
ready_after C m on none whole =
    ready-else C m (logout_next m.generation m) _ (ready_logout C m)
    (λ a. ready-else C m (managed_next m.generation (next_management m) m.handler) _ (ready_managed C m m.handler)
    (λ b. ready-else C m (echo_next m.generation m.echoes) _ (ready_echo C m m.echoes)
    (λ c. ready-else C m (ping_next C m.generation m) _ (ready_ping C m)
    (λ d. ready-else C m (drawn_next m.generation m) (issue_next C m.generation m) (ready_drawn C m (drawn m.params m.busy m.tasks m.solicited) refl none)
    (λ e. ready_issue C m on whole)))))

pub ready_next : (C : SessionConfig) (m : Meanings) → is_logged_in m.phase m.generation ≡ true → AreReady C m (next_in C m.generation m)
ready_next C m on =
    ready-if C m (m.logout_sent || not (has_connection m.phase)) [] _ (λ is. tt)
    (λ is. ready-else C m (queued_next m.generation m.queue) _ (ready_queued C m m.queue refl)
    (λ none. ready-if C m (is_some m.broken) [] (next_after_data C m.generation m) (λ broken. tt)
    (λ whole. ready_after C m on (queue_none m.generation m.queue none) (whole_from m.broken whole))))

owed_turn : (e : Event) → is_owed e ≡ true → is_turn e ≡ true
owed_turn (Reap tag) is = refl
owed_turn e is = is

pieces_turn : (C : SessionConfig) (m : Meanings) (es : List Event) → ArePieces C m es → AreTurn es
pieces_turn C m [] p = tt
pieces_turn C m (e ∷ es) p = (owed_turn e p.1.owed, pieces_turn C (step C e 0 m) es p.2)

pub ready_turn : (C : SessionConfig) (m : Meanings) (es : List Event) → AreReady C m es → AreTurn es
ready_turn C m [] p = tt
ready_turn C m (e ∷ es) p = (owed_turn e p.0.owed, pieces_turn C (step C e 0 m) es p.1)

-- a request is asked for where it is all that is owed

pub asked_alone : (C : SessionConfig) (m : Meanings) (e : Event) → m.ended ≡ [] → next_in C m.generation m ≡ e ∷ [] → m.managed < most_management_tags → IsAsked C m e
asked_alone C m e none is few = step e (subst (λ (tags : List Tag). next_in C m.generation (reaped C tags m) ≡ e ∷ []) (sym none) is)
  where
    step : (x : Event) → owed_in C m ≡ x ∷ [] → IsAsked C m x
    step (Manage generation tag function subject) one = (one, inr few)
    step (Nop generation tag ttt lun) one = (one, inr few)
    step (Logout generation tag) one = (one, inr few)
    step x one = tt

pub asked_piece : (C : SessionConfig) (m : Meanings) (e : Event) → is_push e ≡ true → IsAsked C m e
asked_piece C m (Manage generation tag function subject) is = absurd cc
asked_piece C m (Nop generation tag ttt lun) is = absurd cc
asked_piece C m (Logout generation tag) is = absurd cc
asked_piece C m e is = tt
