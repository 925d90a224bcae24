-- A PDU that has its turn finds no command that a reset before it takes.
use Rattle.std.proofs.Common.{ℕ, Bool, true, false, not, ◌≡◌, ◌∙◌, Option, Some, None, List, [], ◌∷◌, ◌++◌, bytes_eq, filter, refl, ap, sym, subst, if◌then◌else◌, ◌==◌}
use Rattle.oi_pdu.specs.declared.codec.Pdu.{Pdu}
use Rattle.oi_target.specs.Events.{Joined, Left, Told, Whole, Malformed, state_after}
use Rattle.oi_target.specs.Targets.{Target, aside, link_of}
use Rattle.oi_target.specs.Turns.{told, turn_of}
use Rattle.oi_target.specs.declared.link.Link.{Link}
use Rattle.oi_target.specs.declared.link.Standing.{Standing}
use Rattle.oi_target.specs.declared.link.Standing.TheVariants as standing
use Rattle.oi_target_laws.proofs.Learning.{after_all, resets_tasks}
use Rattle.oi_target_laws.specs.Histories.{FindsNoneTaken, NoneTaken, TurnsFindNoneTaken, link_turns, step_turns, tasks_in}
use Rattle.oi_target_laws.specs.Turned.{Turned, in_turn_turns, taken_by, turns_at, turns_if}
use Rattle.oi_target_session.specs.Arrivals.{Held, advanced, place_of}
use Rattle.oi_target_session.specs.Owing.{paid, unready}
use Rattle.oi_target_session.specs.Sessions.{Session, Turn, spared, without_resets}
use Rattle.oi_target_session.specs.declared.fed.Fed.{Fed}
use Rattle.oi_target_session.specs.declared.fed.Fed.TheVariants.{Going, Closed}
use Rattle.oi_target_session.specs.declared.place.Place.{Place}
use Rattle.oi_target_session.specs.declared.place.Place.TheVariants.{Now, InTurn, Early, Outside}
use Rattle.oi_target_session.specs.declared.reset.Reset.{Reset}
use Rattle.oi_target_session.specs.declared.reset.Reset.TheVariants.{Unit as OfUnit, Whole as OfTarget}
use Rattle.oi_target_tasks.specs.Tasks.{is_waiting}
use Rattle.oi_target_tasks.specs.declared.task.Task.{Task}

-- where no task meets a condition, none of fewer does
first_not : (f : Task → Bool) (t : Task) (ts : List Task) → f t ≡ true → filter f (t ∷ ts) ≡ [] → t ∷ filter f ts ≡ []
first_not f t ts is none = ap (λ (b : Bool). if b then t ∷ filter f ts else filter f ts) (sym is) ∙ none

later_not : (f : Task → Bool) (t : Task) (ts : List Task) → filter f (t ∷ ts) ≡ [] → filter f ts ≡ []
later_not f t ts none = go (f t) refl where
  go : (b : Bool) → f t ≡ b → filter f ts ≡ []
  go true is = absurd (let n : ⊥ = let e : t ∷ filter f ts ≡ [] = first_not f t ts is none in cc in n)
  go false is = ap (λ (b : Bool). if b then t ∷ filter f ts else filter f ts) (sym is) ∙ none

none_filtered : (f g : Task → Bool) (ts : List Task) → filter f ts ≡ [] → filter f (filter g ts) ≡ []
none_filtered f g [] none = refl
none_filtered f g (t ∷ ts) none = go (g t) (f t) refl (none_filtered f g ts (later_not f t ts none)) where
  go : (b d : Bool) → f t ≡ d → filter f (filter g ts) ≡ [] → filter f (if b then t ∷ filter g ts else filter g ts) ≡ []
  go false d is rest = rest
  go true true is rest = absurd (let n : ⊥ = let e : t ∷ filter f ts ≡ [] = first_not f t ts is none in cc in n)
  go true false is rest = ap (λ (b : Bool). if b then t ∷ filter f (filter g ts) else filter f (filter g ts)) is ∙ rest

none_unready : (f : Task → Bool) (ts : List Task) → filter f ts ≡ [] → filter f (unready ts) ≡ []
none_unready f [] none = refl
none_unready f (t ∷ ts) none = go (is_waiting t) (none_unready f ts (later_not f t ts none)) where
  go : (b : Bool) → filter f (unready ts) ≡ [] → filter f (if b then t ∷ ts else unready ts) ≡ []
  go true rest = none
  go false rest = rest

-- what is taken is not left
none_left : (f : Task → Bool) (ts : List Task) → filter f (filter (λ t. not (f t)) ts) ≡ []
none_left f [] = refl
none_left f (t ∷ ts) = go (f t) refl (none_left f ts) where
  go : (b : Bool) → f t ≡ b → filter f (filter (λ t. not (f t)) ts) ≡ []
      → filter f (if not b then t ∷ filter (λ t. not (f t)) ts else filter (λ t. not (f t)) ts) ≡ []
  go true is rest = rest
  go false is rest =
      ap (λ (b : Bool). if b then t ∷ filter f (filter (λ t. not (f t)) ts) else filter f (filter (λ t. not (f t)) ts)) is ∙ rest

abbrev of_lun : List ℕ → Task → Bool
of_lun lun t = bytes_eq t.command.lun lun

-- the tasks behind another reset
still_none : (r one : Reset) (ts : List Task) → taken_by r ts ≡ [] → taken_by r (unready (spared one ts)) ≡ []
still_none (OfUnit lun) (OfUnit other) ts none =
    none_unready (of_lun lun) (spared (OfUnit other) ts) (none_filtered (of_lun lun) (λ t. not (of_lun other t)) ts none)
still_none (OfUnit lun) OfTarget ts none = refl
still_none OfTarget (OfUnit other) ts none = ap (λ (z : List Task). unready (spared (OfUnit other) z)) none
still_none OfTarget OfTarget ts none = refl

just_taken : (r : Reset) (ts : List Task) → taken_by r (unready (spared r ts)) ≡ []
just_taken (OfUnit lun) ts = none_unready (of_lun lun) (spared (OfUnit lun) ts) (none_left (of_lun lun) ts)
just_taken OfTarget ts = refl

none_behind_one : (resets : List Reset) (one : Reset) (ts : List Task) → NoneTaken resets ts → NoneTaken resets (unready (spared one ts))
none_behind_one [] one ts none = tt
none_behind_one (r ∷ rs) one ts none = (still_none r one ts none.0, none_behind_one rs one ts none.1)

-- and behind others
none_behind : (resets more : List Reset) (ts : List Task) → NoneTaken resets ts → NoneTaken resets (after_all more ts)
none_behind resets [] ts none = none
none_behind resets (r ∷ rs) ts none = none_behind resets rs (unready (spared r ts)) (none_behind_one resets r ts none)

one_behind : (r : Reset) (more : List Reset) (ts : List Task) → taken_by r ts ≡ [] → taken_by r (after_all more ts) ≡ []
one_behind r [] ts none = none
one_behind r (m ∷ more) ts none = one_behind r more (unready (spared m ts)) (still_none r m ts none)

all_taken : (resets : List Reset) (ts : List Task) → NoneTaken resets (after_all resets ts)
all_taken [] ts = tt
all_taken (r ∷ rs) ts = (one_behind r rs (unready (spared r ts)) (just_taken r ts), all_taken rs (unready (spared r ts)))

none_join : (first second : List Reset) (ts : List Task) → NoneTaken first ts → NoneTaken second ts → NoneTaken (first ++ second) ts
none_join [] second ts a b = b
none_join (r ∷ rs) second ts a b = (a.0, none_join rs second ts a.1 b)

-- so the next PDU finds none of them

in_turn_learned : (before : List Reset) (t : Target) (s : Session) (p : Pdu) (held : Held) → ((n : ℕ) → NoneTaken before (tasks_in n t.links))
    → FindsNoneTaken before (in_turn_turns t s p held)
in_turn_learned before t s p [] none = (none, tt)
in_turn_learned before t s p (None ∷ held) none = (none, tt)
in_turn_learned before t s p (Some next ∷ held) none =
    (none, go turn.fed (in_turn_learned (before ++ one) (told t turn) (without_resets turn.session) next held behind)) where
      turn : Turn
      turn = turn_of t (advanced s) p

      one : List Reset
      one = turn.session.resets

      turns : List Turned
      turns = in_turn_turns (told t turn) (without_resets turn.session) next held

      behind : (n : ℕ) → NoneTaken (before ++ one) (tasks_in n (told t turn).links)
      behind n =
          subst (λ (z : List Task). NoneTaken (before ++ one) z) (sym (resets_tasks n one turn.units t.links))
          (none_join before one (after_all one (tasks_in n t.links)) (none_behind before one (tasks_in n t.links) (none n)) (all_taken one (tasks_in n t.links)))

      go : (f : Fed) → FindsNoneTaken (before ++ one) turns → FindsNoneTaken (before ++ one) (turns_if f turns)
      go Closed more = tt
      go Going more = more

received_learned : (place : Place) (t : Target) (s : Session) (held : Held) (p : Pdu) → FindsNoneTaken [] (turns_at place t s held p)
received_learned Now t s held p = (λ n. tt, tt)
received_learned InTurn t s held p = in_turn_learned [] t s p held (λ n. tt)
received_learned (Early at) t s held p = tt
received_learned Outside t s held p = tt

step_learned : (t : Target) (s : Standing) (p : Pdu) → FindsNoneTaken [] (step_turns t s p)
step_learned t (standing.LoggingIn login) p = tt
step_learned t (standing.Serving v) p = received_learned (place_of v.session.discovers v.session.numbers.exp.0 p.head) t (paid v.session v.owed) v.held p
step_learned t standing.Ended p = tt
step_learned t standing.Closed p = tt

link_learns : (n m : ℕ) (t : Target) (p : Pdu) (o : Option Link) → FindsNoneTaken [] (if m == n then link_turns t m o p else [])
link_learns n m t p o = go (m == n) o where
  go : (b : Bool) (o : Option Link) → FindsNoneTaken [] (if b then link_turns t m o p else [])
  go false o = tt
  go true None = tt
  go true (Some l) = step_learned (aside m t) l.standing p

pub turns_find_none_taken : TurnsFindNoneTaken
turns_find_none_taken n c es (Joined m) = tt
turns_find_none_taken n c es (Left m) = tt
turns_find_none_taken n c es (Told listing) = tt
turns_find_none_taken n c es (Whole m p) = link_learns n m (state_after c es) p (link_of m (state_after c es).links)
turns_find_none_taken n c es (Malformed m) = tt
