-- A transmission: all ended tags are released, R2Ts are taken up, and one PDU is sent.
use Rattle.std.proofs.Common.{◌≡◌, ◌∙◌, ◌≤◌, ◌<◌, ◌+◌, ◌++◌, ℕ, Bool, true, false, List, [], ◌∷◌, append-nil, drop, IfSome, length, map, ap, sym, subst, refl, arith, vec_len, Option, Some, None, slice_get}
use Rattle.std.specs.Vec.{vec_capacity}
use Rattle.oi_base.specs.Limits.{most_management_tags}
use Rattle.oi_base.specs.declared.tag.Tag.{Tag}
use Rattle.oi_history.specs.Courses.{phase_step}
use Rattle.oi_history.specs.Ledgers.{CanStep, queued_in, released_by}
use Rattle.oi_history.specs.Meanings.{Meanings, step}
use Rattle.oi_history.specs.Owing.{next_in, owed_in, reaped}
use Rattle.oi_history.specs.Permitted.{IsAsked, IsNextData, IsPermitted}
use Rattle.oi_history.specs.Phases.{is_ended, is_logged_in}
use Rattle.oi_history.specs.Releasing.{HasTurn, behind, draw_of, entries_of, pieces_of, released}
use Rattle.oi_history.specs.Submitted.{brings, taken_by}
use Rattle.oi_history.specs.Tags.{holder}
use Rattle.oi_history.specs.declared.allocated.Allocated.{Allocated}
use Rattle.oi_history.specs.declared.config.SessionConfig.{SessionConfig}
use Rattle.oi_history.specs.declared.event.Event.{Event}
use Rattle.oi_history.specs.declared.event.Event.TheVariants.{Submit, PduIn, Deliver, Login, Push, Issue, Draw, Reap, Manage, Nop, Logout, Leave, Lost, Tick, Abort, ResetLun, ResetTarget, Terminate}
use Rattle.oi_history.specs.declared.owed.Queued.{Queued}
use Rattle.oi_history.specs.declared.owing.Owed.{Owed}
use Rattle.oi_history.specs.declared.phase.Phase.{Phase}
use Rattle.oi_session_laws.proofs.Connections.{logged_in}
use Rattle.oi_session_laws.proofs.Generations.{last_login, no_tags_over}
use Rattle.oi_session_laws.proofs.Moved.{sendable_waits}
use Rattle.oi_solo.proofs.Allowed.{above, live_goes}
use Rattle.oi_solo.proofs.Entries.{kept_back_most}
use Rattle.oi_solo.proofs.Held.{AreHeld, are_held}
use Rattle.oi_solo.proofs.Managed.{few_managed}
use Rattle.oi_solo.proofs.Loads.{AreTurn, spent_turn}
use Rattle.oi_solo.proofs.Ready.{AreReady, IsFirstData, IsReady, asked_alone, asked_piece, ready_next, ready_turn}
use Rattle.oi_solo.specs.Cores.{CanEnter, CanTurn, HasDrawn, HasEntered, IsKept, IsNumbered, IsReleased, next_entry, session_of}
use Rattle.oi_solo.specs.Limits.{first_passed, kept_bytes, receiving_load, sending_load, spent_by}
use Rattle.oi_solo.specs.Sessions.{Session, entered, entered_all, now_of, owed_of, releases}
use Rattle.oi_solo.specs.Calls.{IsOn, Sends, turn_of}
use Rattle.oi_solo.specs.Turns.{hears_of, is_owed, is_push, later}
use Rattle.oi_solo.specs.declared.kept.Kept.{Kept}
use Rattle.oi_solo.specs.declared.load.Load.{Load}

-- further entries

pub all-append : (s : Session) (xs ys : List Event) → entered_all s (xs ++ ys) ≡ entered_all (entered_all s xs) ys
all-append s [] ys = refl
all-append s (x ∷ xs) ys = all-append (entered s x) xs ys

pub all-config : (s : Session) (es : List Event) → (entered_all s es).config ≡ s.config
all-config s [] = refl
all-config s (e ∷ es) = all-config (entered s e) es

pub now-reaped : (s : Session) (tags : List Tag) → now_of (entered_all s (map (λ tag. Reap tag) tags)) ≡ reaped s.config tags (now_of s)
now-reaped s [] = refl
now-reaped s (tag ∷ tags) = now-reaped (entered s (Reap tag)) tags

-- what a release leaves

pub reaped-phase : (C : SessionConfig) (tags : List Tag) (m : Meanings) → (reaped C tags m).phase ≡ m.phase
reaped-phase C [] m = refl
reaped-phase C (tag ∷ tags) m = reaped-phase C tags (step C (Reap tag) 0 m)

pub reaped-generation : (C : SessionConfig) (tags : List Tag) (m : Meanings) → (reaped C tags m).generation ≡ m.generation
reaped-generation C [] m = refl
reaped-generation C (tag ∷ tags) m = reaped-generation C tags (step C (Reap tag) 0 m)

pub reaped-managed : (C : SessionConfig) (tags : List Tag) (m : Meanings) → (reaped C tags m).managed ≡ m.managed
reaped-managed C [] m = refl
reaped-managed C (tag ∷ tags) m = reaped-managed C tags (step C (Reap tag) 0 m)

pub reaped-ended : (C : SessionConfig) (tags : List Tag) (m : Meanings) → m.ended ≡ tags → (reaped C tags m).ended ≡ []
reaped-ended C [] m is = is
reaped-ended C (tag ∷ tags) m is = reaped-ended C tags (step C (Reap tag) 0 m) (ap (λ (ts : List Tag). drop 1 ts) is)

-- each release is permitted

reap_allowed : (s : Session) (tag : Tag) → IsNumbered s.history → slice_get (now_of s).ended 0 ≡ Some tag → is_ended (now_of s).phase ≡ false → IsPermitted s.config s.history (next_entry s (Reap tag))
reap_allowed s tag n first going =
    record { ascends = above s.history n; comes = tt; command = tt; numbered = tt; tagged = tt; pushed = tt; released = first; drawn = tt; owed = tt; ticks = tt; lost = tt; login = tt; handed = tt; heeded = tt; behind = going }

pub can_reap : (k : Kept) (tag : Tag) → IsKept k → slice_get k.ledger.now.ended 0 ≡ Some tag → is_ended k.ledger.now.phase ≡ false → 1 ≤ k.ledger.releases → vec_len k.events + 2 ≤ vec_capacity k.events
    → CanEnter k (Reap tag)
can_reap k tag kept first going place room =
    let back = kept_back_most (is_ended k.ledger.now.phase) in
    record {
      kept = kept;
      empty = refl;
      permitted = reap_allowed (session_of k) tag kept.numbered (sym (ap (λ (m : Meanings). slice_get m.ended 0) kept.now) ∙ first) (sym (ap (λ (m : Meanings). is_ended m.phase) kept.now) ∙ going);
      can = record { login = tt; window = tt; waits = tt };
      memory = record { quiet = refl; releases = place; takes = omega arith; pieces = omega arith };
      room = omega (arith, back, room);
    }

-- the release of all of them

pub record IsReleasing (initial current : Kept) : Type 0 where
  pub kept : IsKept current
  pub session : entered_all (session_of current) (releases (now_of (session_of current))) ≡ entered_all (session_of initial) (releases (now_of (session_of initial)))
  pub going : is_ended current.ledger.now.phase ≡ false
  pub releases_left : length current.ledger.now.ended ≤ current.ledger.releases
  pub takes : initial.ledger.takes ≤ current.ledger.takes
  pub pieces : initial.ledger.pieces ≤ current.ledger.pieces
  pub events : vec_len current.events + length current.ledger.now.ended + 3 ≤ vec_capacity current.events

pub now_after : (old new : Kept) (e : Event) → IsKept old → HasEntered old new e → new.ledger.now ≡ step old.ledger.config e (length (session_of old).history) old.ledger.now
now_after old new e kept has =
    has.kept.now ∙ (ap now_of has.session ∙ ap (λ (m : Meanings). step old.ledger.config e (length (session_of old).history) m) (sym kept.now))

release-list : (s : Session) (tag : Tag) (tags : List Tag) → slice_get tags 0 ≡ Some tag
    → entered_all (entered s (Reap tag)) (map (λ t. Reap t) (drop 1 tags)) ≡ entered_all s (map (λ t. Reap t) tags)
release-list s tag [] is = absurd cc
release-list s tag (t ∷ tags) is = let same : tag ≡ t = cc in ap (λ (x : Tag). entered_all (entered s (Reap x)) (map (λ (y : Tag). Reap y) tags)) same

one_fewer : (tags : List Tag) (tag : Tag) → slice_get tags 0 ≡ Some tag → length tags ≡ length (drop 1 tags) + 1
one_fewer [] tag is = absurd cc
one_fewer (t ∷ tags) tag is = omega arith

pub fewer_ended : (old new : Kept) (tag : Tag) → IsKept old → slice_get old.ledger.now.ended 0 ≡ Some tag → HasEntered old new (Reap tag) → length old.ledger.now.ended ≡ length new.ledger.now.ended + 1
fewer_ended old new tag kept first has =
    let ended : new.ledger.now.ended ≡ drop 1 old.ledger.now.ended = ap (λ (m : Meanings). m.ended) (now_after old new (Reap tag) kept has) in
    let count = ap (λ (ts : List Tag). length ts) ended in
    let one = one_fewer old.ledger.now.ended tag first in
    omega (arith, count, one)

pub release_step : (initial current new : Kept) (tag : Tag) → IsReleasing initial current → slice_get current.ledger.now.ended 0 ≡ Some tag → HasEntered current new (Reap tag) → IsReleasing initial new
release_step initial current new tag so-far first has =
    let s : Session = session_of current in
    let now = now_after current new (Reap tag) so-far.kept has in
    let fewer = fewer_ended current new tag so-far.kept first has in
    let there : slice_get (now_of s).ended 0 ≡ Some tag = sym (ap (λ (m : Meanings). slice_get m.ended 0) so-far.kept.now) ∙ first in
    let releases_room = has.ledger.releases refl in
    let takes_room = has.ledger.takes in
    let pieces_room = has.ledger.pieces in
    let left = so-far.releases_left in
    let takes = so-far.takes in
    let pieces = so-far.pieces in
    let events = so-far.events in
    let len = has.len in
    let capacity = has.capacity in
    record {
      kept = has.kept;
      session = ap (λ (z : Session). entered_all z (releases (now_of z))) has.session ∙ (release-list s tag (now_of s).ended there ∙ so-far.session);
      going = ap (λ (m : Meanings). is_ended m.phase) now ∙ so-far.going;
      releases_left = omega (arith, releases_room, left, fewer);
      takes = omega (arith, takes_room, takes);
      pieces = omega (arith, pieces_room, pieces);
      events = omega (arith, events, len, capacity, fewer);
    }

none_left : (tags : List Tag) → slice_get tags 0 ≡ None → tags ≡ []
none_left [] is = refl
none_left (t ∷ tags) is = absurd cc

pub release_end : (initial current : Kept) → IsReleasing initial current → slice_get current.ledger.now.ended 0 ≡ None → IsReleased initial current
release_end initial current so-far none =
    let s : Session = session_of current in
    let ended : (now_of s).ended ≡ [] = ap (λ (m : Meanings). m.ended) (sym so-far.kept.now) ∙ none_left current.ledger.now.ended none in
    let events = so-far.events in
    record {
      kept = so-far.kept;
      session = ap (λ (tags : List Tag). entered_all s (map (λ (tag : Tag). Reap tag) tags)) (sym ended) ∙ so-far.session;
      takes = so-far.takes;
      pieces = so-far.pieces;
      events = omega (arith, events);
    }

-- what is owed may be entered

unready : false ≡ true → ⊥
unready is = absurd cc

first_held : (busy : List Allocated) (queue : List Queued) (q : Queued) → slice_get queue 0 ≡ Some q → AreHeld busy queue → holder q.tag.0 busy ≡ Some q.id
first_held busy [] q is held = absurd cc
first_held busy (x ∷ queue) q is held = let same : x ≡ q = cc in subst (λ (y : Queued). holder y.tag.0 busy ≡ Some y.id) same held.0

data_allowed : (m : Meanings) (id generation ttt number offset size : ℕ) (last : Bool) → IsFirstData m (Push id generation ttt number offset size last) → AreHeld m.busy m.queue
    → IsNextData m (Push id generation ttt number offset size last)
data_allowed m id generation ttt number offset size last (q, first, is) held =
    let same : q.id ≡ id = cc in
    (q, first, is, first_held m.busy m.queue q first held ∙ ap (λ (i : ℕ). Some i) same)

turn_allowed : (s : Session) (e : Event) → IsNumbered s.history → IsReady s.config (now_of s) e → IsAsked s.config (now_of s) e → (now_of s).ended ≡ [] → is_ended (now_of s).phase ≡ false
    → AreHeld (now_of s).busy (now_of s).queue → IsPermitted s.config s.history (next_entry s e)
turn_allowed s (Push id generation ttt number offset size last) n ready asked none going held = record {
  ascends = above s.history n;
  comes = tt;
  command = tt;
  numbered = tt;
  tagged = tt;
  pushed = data_allowed (now_of s) id generation ttt number offset size last ready.pushed held;
  released = tt;
  drawn = tt;
  owed = tt;
  ticks = tt;
  lost = tt;
  login = tt;
  handed = tt;
  heeded = tt;
  behind = going;
}
turn_allowed s (Issue id generation tag cmdsn) n ready asked none going held = record {
  ascends = above s.history n;
  comes = tt;
  command = ready.command;
  numbered = ready.numbered;
  tagged = (ready.tagged, none);
  pushed = tt;
  released = tt;
  drawn = tt;
  owed = tt;
  ticks = tt;
  lost = tt;
  login = tt;
  handed = tt;
  heeded = tt;
  behind = going;
}
turn_allowed s (Draw count) n ready asked none going held = record {
  ascends = above s.history n;
  comes = tt;
  command = tt;
  numbered = tt;
  tagged = tt;
  pushed = tt;
  released = tt;
  drawn = ready.drawn;
  owed = tt;
  ticks = tt;
  lost = tt;
  login = tt;
  handed = tt;
  heeded = tt;
  behind = going;
}
turn_allowed s (Manage generation tag function subject) n ready asked none going held = record {
  ascends = above s.history n;
  comes = tt;
  command = tt;
  numbered = tt;
  tagged = tt;
  pushed = tt;
  released = tt;
  drawn = tt;
  owed = asked;
  ticks = tt;
  lost = tt;
  login = tt;
  handed = tt;
  heeded = tt;
  behind = going;
}
turn_allowed s (Nop generation tag ttt lun) n ready asked none going held = record {
  ascends = above s.history n;
  comes = tt;
  command = tt;
  numbered = tt;
  tagged = tt;
  pushed = tt;
  released = tt;
  drawn = tt;
  owed = asked;
  ticks = tt;
  lost = tt;
  login = tt;
  handed = tt;
  heeded = tt;
  behind = going;
}
turn_allowed s (Logout generation tag) n ready asked none going held = record {
  ascends = above s.history n;
  comes = tt;
  command = tt;
  numbered = tt;
  tagged = tt;
  pushed = tt;
  released = tt;
  drawn = tt;
  owed = asked;
  ticks = tt;
  lost = tt;
  login = tt;
  handed = tt;
  heeded = tt;
  behind = going;
}
turn_allowed s (Reap tag) n ready asked none going held = absurd (unready ready.owed)
turn_allowed s (Submit id request) n ready asked none going held = absurd (unready ready.owed)
turn_allowed s (PduIn generation pdu) n ready asked none going held = absurd (unready ready.owed)
turn_allowed s (Deliver count) n ready asked none going held = absurd (unready ready.owed)
turn_allowed s (Login generation params cmdsn max exp_stat) n ready asked none going held = absurd (unready ready.owed)
turn_allowed s Leave n ready asked none going held = absurd (unready ready.owed)
turn_allowed s (Lost generation cause) n ready asked none going held = absurd (unready ready.owed)
turn_allowed s (Tick now) n ready asked none going held = absurd (unready ready.owed)
turn_allowed s (Abort id) n ready asked none going held = absurd (unready ready.owed)
turn_allowed s (ResetLun lun) n ready asked none going held = absurd (unready ready.owed)
turn_allowed s ResetTarget n ready asked none going held = absurd (unready ready.owed)
turn_allowed s (Terminate cause) n ready asked none going held = absurd (unready ready.owed)

-- what it asks of the ledger

turn_can : (C : SessionConfig) (m : Meanings) (e : Event) → IsReady C m e → CanStep m e
turn_can C m (Issue id generation tag cmdsn) ready = record { login = tt; window = ready.numbered.1; waits = λ t there. sendable_waits C.queue_depth id m.tasks t ready.command.0 there }
turn_can C m (Login generation params cmdsn max exp_stat) ready = absurd (unready ready.owed)
turn_can C m e ready = record { login = tt; window = tt; waits = tt }

turn_quiet : (e : Event) → is_owed e ≡ true → brings e ≡ false
turn_quiet (Submit id request) is = absurd cc
turn_quiet (PduIn generation pdu) is = absurd cc
turn_quiet (Login generation params cmdsn max exp_stat) is = absurd cc
turn_quiet e is = refl

turn_releases : (e : Event) → is_owed e ≡ true → released_by e ≡ 0
turn_releases (Reap tag) is = absurd cc
turn_releases e is = refl

turn_takes : (e : Event) → taken_by e ≤ 1
turn_takes (Issue id generation tag cmdsn) = omega arith
turn_takes e = omega arith

turn_phase : (C : SessionConfig) (now : ℕ) (e : Event) (p : Phase) → is_owed e ≡ true → phase_step C now e p ≡ p
turn_phase C now (Login generation params cmdsn max exp_stat) p is = absurd cc
turn_phase C now (Lost generation cause) p is = absurd cc
turn_phase C now (Tick reading) p is = absurd cc
turn_phase C now (Terminate cause) p is = absurd cc
turn_phase C now e p is = refl

owed_empty : (e : Event) → is_owed e ≡ true → kept_bytes e ≡ 0
owed_empty (Submit id request) is = absurd cc
owed_empty (PduIn generation pdu) is = absurd cc
owed_empty e is = refl

pub can_send : (k : Kept) (e : Event) → IsKept k → IsReady k.ledger.config k.ledger.now e → IsAsked k.ledger.config k.ledger.now e → k.ledger.now.ended ≡ [] → is_ended k.ledger.now.phase ≡ false
    → 1 ≤ k.ledger.takes → queued_in k.ledger.now e ≤ k.ledger.pieces → vec_len k.events + 2 ≤ vec_capacity k.events → CanEnter k e
can_send k e kept ready asked none going takes pieces room =
    let s : Session = session_of k in
    let C : SessionConfig = k.ledger.config in
    let back = kept_back_most (is_ended (phase_step C k.ledger.now.clock e k.ledger.now.phase)) in
    let releases_none = turn_releases e ready.owed in
    let takes_few = turn_takes e in
    record {
      kept = kept;
      empty = owed_empty e ready.owed;
      permitted = turn_allowed s e kept.numbered (subst (λ (m : Meanings). IsReady C m e) kept.now ready) (subst (λ (m : Meanings). IsAsked C m e) kept.now asked)
          (subst (λ (m : Meanings). m.ended ≡ []) kept.now none) (subst (λ (m : Meanings). is_ended m.phase ≡ false) kept.now going) (are_held C s.history kept.legal);
      can = turn_can C k.ledger.now e ready;
      memory = record { quiet = turn_quiet e ready.owed; releases = omega (arith, releases_none); takes = omega (arith, takes_few, takes); pieces = pieces };
      room = omega (arith, back, room);
    }

-- behind the release, and behind the taking up of R2Ts

pub now_released : (old new : Kept) → IsKept old → IsReleased old new → new.ledger.now ≡ released old.ledger.config old.ledger.now
now_released old new kept has =
    let s : Session = session_of old in
    has.kept.now ∙ (ap now_of has.session ∙ (now-reaped s (now_of s).ended ∙ ap (λ (m : Meanings). reaped s.config m.ended m) (sym kept.now)))

pub config_released : (old new : Kept) → IsReleased old new → new.ledger.config ≡ old.ledger.config
config_released old new has = ap (λ (s : Session). s.config) has.session ∙ all-config (session_of old) (releases (now_of (session_of old)))

now-drawn : (s : Session) (d : Option ℕ) → now_of (entered_all s (draw_of d)) ≡ behind s.config (draw_of d) (now_of s)
now-drawn s None = refl
now-drawn s (Some count) = refl

now_drawn_up : (old new : Kept) (d : Option ℕ) → IsKept old → HasDrawn old new d → new.ledger.now ≡ behind old.ledger.config (draw_of d) old.ledger.now
now_drawn_up old new d kept has =
    let s : Session = session_of old in
    has.kept.now ∙ (ap now_of has.session ∙ (now-drawn s d ∙ ap (λ (m : Meanings). behind s.config (draw_of d) m) (sym kept.now)))

config_drawn : (old new : Kept) (d : Option ℕ) → HasDrawn old new d → new.ledger.config ≡ old.ledger.config
config_drawn old new d has = ap (λ (s : Session). s.config) has.session ∙ all-config (session_of old) (draw_of d)

-- what is owed is ready

owed_ready : (C : SessionConfig) (m : Meanings) → is_logged_in m.phase m.generation ≡ true → AreReady C (released C m) (owed_in C m)
owed_ready C m on =
    let r : Meanings = released C m in
    let generation : r.generation ≡ m.generation = reaped-generation C m.ended m in
    let on_it : is_logged_in r.phase r.generation ≡ true =
    subst (λ (p : Phase). is_logged_in p r.generation ≡ true) (sym (reaped-phase C m.ended m)) (subst (λ (g : ℕ). is_logged_in m.phase g ≡ true) (sym generation) on) in
    subst (λ (g : ℕ). AreReady C r (next_in C g r)) generation (ready_next C r on_it)

pub spent_is : (k : Kept) (o : Option Owed) → IsKept k → is_logged_in k.ledger.now.phase k.ledger.now.generation ≡ true → entries_of o ≡ owed_in k.ledger.config k.ledger.now
    → first_passed k.ledger.config k.sending (later (length k.ledger.now.ended + length (entries_of o)) k.sending) k.receiving (later (length k.ledger.now.ended + hears_of (entries_of o)) k.receiving)
    ≡ spent_by (session_of k) (turn_of (session_of k))
spent_is k o kept on owed =
    let C : SessionConfig = k.ledger.config in
    let s : Session = session_of k in
    let m : Meanings = k.ledger.now in
    let turn : AreTurn (owed_in C m) = ready_turn C (released C m) (owed_in C m) (owed_ready C m on) in
    let n : ℕ = length m.ended + length (entries_of o) in
    let j : ℕ = length m.ended + hears_of (entries_of o) in
    let whole = spent_turn s m.ended (owed_in C m) turn in
    let mine : first_passed C (sending_load s.history) (later n (sending_load s.history)) (receiving_load C s.history) (later j (receiving_load C s.history)) ≡ spent_by s (map (λ (tag : Tag). Reap tag) m.ended ++ owed_in C m) =
    subst (λ (es : List Event). first_passed C (sending_load s.history) (later (length m.ended + length es) (sending_load s.history)) (receiving_load C s.history) (later (length m.ended + hears_of es) (receiving_load C s.history))
    ≡ spent_by s (map (λ (tag : Tag). Reap tag) m.ended ++ owed_in C m)) (sym owed) whole in
    let sent = subst (λ (l : Load). first_passed C l (later n l) (receiving_load C s.history) (later j (receiving_load C s.history)) ≡ spent_by s (map (λ (tag : Tag). Reap tag) m.ended ++ owed_in C m)) (sym kept.sending) mine in
    let heard = subst (λ (l : Load). first_passed C k.sending (later n k.sending) l (later j l) ≡ spent_by s (map (λ (tag : Tag). Reap tag) m.ended ++ owed_in C m)) (sym kept.receiving) sent in
    heard ∙ ap (λ (x : Meanings). spent_by s (releases x ++ owed_in C x)) kept.now

-- once all ended tags are released, this is owed, and there is room for it
pub record Owes (C : SessionConfig) (m : Meanings) (takes pieces : ℕ) (d : Option ℕ) (e : Event) : Type 0 where
  pub ready : AreReady C m (draw_of d ++ e ∷ [])
  pub next : next_in C m.generation m ≡ draw_of d ++ e ∷ []
  pub ended : m.ended ≡ []
  pub few : m.managed < most_management_tags
  pub going : is_ended m.phase ≡ false
  pub takes_one : 1 ≤ takes
  pub has_pieces : pieces_of m (draw_of d ++ e ∷ []) ≤ pieces

owes_released : (k : Kept) (o : Owed) → CanTurn k (Some o) → Owes k.ledger.config (released k.ledger.config k.ledger.now) k.ledger.takes k.ledger.pieces o.draw o.send
owes_released k o can =
    let C : SessionConfig = k.ledger.config in
    let m : Meanings = k.ledger.now in
    let r : Meanings = released C m in
    let phase : r.phase ≡ m.phase = reaped-phase C m.ended m in
    let generation : r.generation ≡ m.generation = reaped-generation C m.ended m in
    let on : is_logged_in r.phase r.generation ≡ true =
    subst (λ (p : Phase). is_logged_in p r.generation ≡ true) (sym phase) (subst (λ (g : ℕ). is_logged_in m.phase g ≡ true) (sym generation) can.on) in
    let next : next_in C r.generation r ≡ draw_of o.draw ++ o.send ∷ [] = ap (λ (g : ℕ). next_in C g r) generation ∙ sym can.owed in
    record {
      ready = subst (λ (es : List Event). AreReady C r es) next (ready_next C r on);
      next = next;
      ended = reaped-ended C m.ended m refl;
      few = subst (λ (n : ℕ). n < most_management_tags) (sym (reaped-managed C m.ended m)) can.few;
      going = live_goes r.phase r.generation on;
      takes_one = can.room.takes;
      has_pieces = can.room.pieces;
    }

owes_more : (C : SessionConfig) (m : Meanings) (takes pieces more_takes more_pieces : ℕ) (d : Option ℕ) (e : Event) → takes ≤ more_takes → pieces ≤ more_pieces → Owes C m takes pieces d e
    → Owes C m more_takes more_pieces d e
owes_more C m takes pieces more_takes more_pieces d e some many owes =
    let one = owes.takes_one in
    let has = owes.has_pieces in
    record {
      ready = owes.ready;
      next = owes.next;
      ended = owes.ended;
      few = owes.few;
      going = owes.going;
      takes_one = omega (arith, one, some);
      has_pieces = omega (arith, has, many);
    }

pub owes_behind : (old new : Kept) (o : Owed) → CanTurn old (Some o) → IsReleased old new → Owes new.ledger.config new.ledger.now new.ledger.takes new.ledger.pieces o.draw o.send
owes_behind old new o can has =
    let more = owes_more old.ledger.config (released old.ledger.config old.ledger.now) old.ledger.takes old.ledger.pieces new.ledger.takes new.ledger.pieces o.draw o.send has.takes has.pieces (owes_released old o can) in
    subst (λ (m : Meanings). Owes new.ledger.config m new.ledger.takes new.ledger.pieces o.draw o.send) (sym (now_released old new can.kept has))
    (subst (λ (C : SessionConfig). Owes C (released old.ledger.config old.ledger.now) new.ledger.takes new.ledger.pieces o.draw o.send) (sym (config_released old new has)) more)

draw_up : (k : Kept) (d : Option ℕ) (e : Event) → IsKept k → vec_len k.events + 3 ≤ vec_capacity k.events → Owes k.ledger.config k.ledger.now k.ledger.takes k.ledger.pieces d e
    → IfSome d (λ count. CanEnter k (Draw count))
draw_up k None e kept events owes = tt
draw_up k (Some count) e kept events owes =
    let has = owes.has_pieces in
    can_send k (Draw count) kept owes.ready.0 tt owes.ended owes.going owes.takes_one (omega (arith, has)) (omega (arith, events))

pub can_draw : (old new : Kept) (o : Owed) → CanTurn old (Some o) → IsReleased old new → IfSome o.draw (λ count. CanEnter new (Draw count))
can_draw old new o can has = draw_up new o.draw o.send has.kept has.events (owes_behind old new o can has)

-- and behind that, the entry that sends

push_pieces : (m : Meanings) (e : Event) → is_push e ≡ true → queued_in m e ≡ 0
push_pieces m (Issue id generation tag cmdsn) is = absurd cc
push_pieces m (Draw count) is = absurd cc
push_pieces m e is = refl

none_over_draw : (C : SessionConfig) (m : Meanings) (count : ℕ) → m.ended ≡ [] → (step C (Draw count) 0 m).ended ≡ []
none_over_draw C m count none = rw (none, no_tags_over m.tasks) refl

finish : (k : Kept) (C : SessionConfig) (m : Meanings) (d : Option ℕ) (e : Event) (takes pieces : ℕ) → IsKept k → k.ledger.config ≡ C → k.ledger.now ≡ behind C (draw_of d) m
    → takes ≤ k.ledger.takes → pieces ≤ k.ledger.pieces + pieces_of m (draw_of d) → vec_len k.events + 2 ≤ vec_capacity k.events → Owes C m takes pieces d e → CanEnter k e
finish k C m None e takes pieces kept config now some many events owes =
    let one = owes.takes_one in
    let has = owes.has_pieces in
    let same : queued_in k.ledger.now e ≡ queued_in m e = ap (λ (x : Meanings). queued_in x e) now in
    can_send k e kept
    (subst (λ (x : Meanings). IsReady k.ledger.config x e) (sym now) (subst (λ (z : SessionConfig). IsReady z m e) (sym config) owes.ready.0))
    (subst (λ (x : Meanings). IsAsked k.ledger.config x e) (sym now) (subst (λ (z : SessionConfig). IsAsked z m e) (sym config) (asked_alone C m e owes.ended owes.next owes.few)))
    (ap (λ (x : Meanings). x.ended) now ∙ owes.ended) (ap (λ (x : Meanings). is_ended x.phase) now ∙ owes.going) (omega (arith, one, some)) (omega (arith, same, has, many)) events
finish k C m (Some count) e takes pieces kept config now some many events owes =
    let r : Meanings = step C (Draw count) 0 m in
    let one = owes.takes_one in
    let has = owes.has_pieces in
    let none : queued_in k.ledger.now e ≡ 0 = push_pieces k.ledger.now e owes.ready.1.0 in
    can_send k e kept
    (subst (λ (x : Meanings). IsReady k.ledger.config x e) (sym now) (subst (λ (z : SessionConfig). IsReady z r e) (sym config) owes.ready.1.1))
    (asked_piece k.ledger.config k.ledger.now e owes.ready.1.0)
    (ap (λ (x : Meanings). x.ended) now ∙ none_over_draw C m count owes.ended) (ap (λ (x : Meanings). is_ended x.phase) now ∙ owes.going) (omega (arith, one, some)) (omega (arith, none)) events

pub can_finish : (first old new : Kept) (o : Owed) → CanTurn first (Some o) → IsReleased first old → HasDrawn old new o.draw → CanEnter new o.send
can_finish first old new o can released_all has =
    finish new old.ledger.config old.ledger.now o.draw o.send old.ledger.takes old.ledger.pieces has.kept (config_drawn old new o.draw has) (now_drawn_up old new o.draw released_all.kept has)
    has.takes has.pieces has.events (owes_behind first old o can released_all)

-- all of it

pub turn_done : (first second third last : Kept) (o : Owed) → CanTurn first (Some o) → IsReleased first second → HasDrawn second third o.draw → session_of last ≡ entered (session_of third) o.send
    → session_of last ≡ entered_all (session_of first) (turn_of (session_of first))
turn_done first second third last o can released_all drawn_up is =
    let s : Session = session_of first in
    let owed : owed_of s ≡ draw_of o.draw ++ o.send ∷ [] = ap (λ (m : Meanings). owed_in s.config m) (sym can.kept.now) ∙ sym can.owed in
    is
    ∙ (ap (λ (z : Session). entered z o.send) (drawn_up.session ∙ ap (λ (z : Session). entered_all z (draw_of o.draw)) released_all.session)
    ∙ (sym (all-append (entered_all s (releases (now_of s))) (draw_of o.draw) (o.send ∷ []))
    ∙ (sym (all-append s (releases (now_of s)) (draw_of o.draw ++ o.send ∷ []))
    ∙ ap (λ (es : List Event). entered_all s (releases (now_of s) ++ es)) (sym owed))))

pub turn_idle : (first last : Kept) → CanTurn first None → IsReleased first last → session_of last ≡ entered_all (session_of first) (turn_of (session_of first))
turn_idle first last can released_all =
    let s : Session = session_of first in
    let owed : owed_of s ≡ [] = ap (λ (m : Meanings). owed_in s.config m) (sym can.kept.now) ∙ sym can.owed in
    released_all.session ∙ ap (λ (es : List Event). entered_all s es) (sym (append-nil (releases (now_of s))) ∙ ap (λ (es : List Event). releases (now_of s) ++ es) (sym owed))

-- what a transmission answers

pub on_now : (k : Kept) (generation : ℕ) → IsKept k → IsOn (session_of k) generation → is_logged_in k.ledger.now.phase k.ledger.now.generation ≡ true
on_now k generation kept on =
    let s : Session = session_of k in
    let m : Meanings = now_of s in
    let same = logged_in m.phase generation m.generation (last_login s.config s.history) on in
    subst (λ (x : Meanings). is_logged_in x.phase x.generation ≡ true) (sym kept.now) (subst (λ (g : ℕ). is_logged_in m.phase g ≡ true) same on)

some_entries : (d : Option ℕ) (e : Event) → 1 ≤ length (draw_of d ++ e ∷ [])
some_entries None e = omega arith
some_entries (Some count) e = omega arith

few_now : (k : Kept) (o : Owed) → IsKept k → is_logged_in k.ledger.now.phase k.ledger.now.generation ≡ true → entries_of (Some o) ≡ owed_in k.ledger.config k.ledger.now
    → spent_by (session_of k) (turn_of (session_of k)) ≡ None → k.ledger.now.managed < most_management_tags
few_now k o kept on owed none =
    let s : Session = session_of k in
    let n : ℕ = length k.ledger.now.ended + length (entries_of (Some o)) in
    let j : ℕ = length k.ledger.now.ended + hears_of (entries_of (Some o)) in
    let some = some_entries o.draw o.send in
    let passed = spent_is k (Some o) kept on owed ∙ none in
    let loads : first_passed k.ledger.config (sending_load s.history) (later n (sending_load s.history)) k.receiving (later j k.receiving) ≡ None =
    subst (λ (l : Load). first_passed k.ledger.config l (later n l) k.receiving (later j k.receiving) ≡ None) kept.sending passed in
    subst (λ (m : Meanings). m.managed < most_management_tags) (sym kept.now) (few_managed k.ledger.config s.history n k.receiving (later j k.receiving) kept.valid (omega (arith, some)) loads)

pub record IsPrepared (old new : Kept) (o : Option Owed) : Type 0 where
  pub kept : IsKept new
  pub config : new.ledger.config ≡ old.ledger.config
  pub now : new.ledger.now ≡ old.ledger.now
  pub room : HasTurn new.ledger (entries_of o)
  pub events : vec_len new.events + length new.ledger.now.ended + 3 ≤ vec_capacity new.events

few_if : (k : Kept) (o : Option Owed) → IsKept k → is_logged_in k.ledger.now.phase k.ledger.now.generation ≡ true → entries_of o ≡ owed_in k.ledger.config k.ledger.now
    → spent_by (session_of k) (turn_of (session_of k)) ≡ None → IfSome o (λ x. k.ledger.now.managed < most_management_tags)
few_if k None kept on owed none = tt
few_if k (Some o) kept on owed none = few_now k o kept on owed none

few_same : (o : Option Owed) (m n : ℕ) → m ≡ n → IfSome o (λ x. n < most_management_tags) → IfSome o (λ x. m < most_management_tags)
few_same None m n same few = tt
few_same (Some o) m n same few = omega (arith, same, few)

pub can_turn : (old new : Kept) (o : Option Owed) → IsKept old → is_logged_in old.ledger.now.phase old.ledger.now.generation ≡ true → entries_of o ≡ owed_in old.ledger.config old.ledger.now
    → spent_by (session_of old) (turn_of (session_of old)) ≡ None → IsPrepared old new o → CanTurn new o
can_turn old new o kept on owed none ready = record {
  kept = ready.kept;
  on = ap (λ (m : Meanings). is_logged_in m.phase m.generation) ready.now ∙ on;
  few = few_same o new.ledger.now.managed old.ledger.now.managed (ap (λ (m : Meanings). m.managed) ready.now) (few_if old o kept on owed none);
  owed = owed ∙ (ap (λ (m : Meanings). owed_in old.ledger.config m) (sym ready.now) ∙ ap (λ (C : SessionConfig). owed_in C new.ledger.now) (sym ready.config));
  room = ready.room;
  events = ready.events;
}

pub sends_it : (k : Kept) (o : Owed) → CanTurn k (Some o) → Sends (session_of k) o.send
sends_it k o can = (draw_of o.draw, ap (λ (m : Meanings). owed_in k.ledger.config m) (sym can.kept.now) ∙ sym can.owed)

pub idle_it : (k : Kept) → CanTurn k None → owed_of (session_of k) ≡ []
idle_it k can = ap (λ (m : Meanings). owed_in k.ledger.config m) (sym can.kept.now) ∙ sym can.owed
