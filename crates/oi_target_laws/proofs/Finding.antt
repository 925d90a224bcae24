-- A PDU that has its turn finds no command that could be executed.
use Rattle.std.proofs.Common.{ℕ, Bool, true, false, ◌≡◌, Option, Some, None, List, [], ◌∷◌, ◌++◌, map, refl, sym, subst, if◌then◌else◌, ◌==◌}
use Rattle.oi_pdu.specs.declared.codec.Pdu.{Pdu}
use Rattle.oi_target.proofs.Told.{AreTold, resets_told, step_told}
use Rattle.oi_target.specs.Events.{Event, Joined, Left, Told, Whole, Malformed, bare_link, heard_of, shut, state_after}
use Rattle.oi_target.specs.Steps.{Step, logged_in_by, received_by, stepped, with_words}
use Rattle.oi_target.specs.Targets.{Target, aside, closed_link, ended_by, learned, link_at, link_of, nexus_of, new_link, no_bytes, placed, reset_each, without}
use Rattle.oi_target.specs.Turns.{told, turn_of}
use Rattle.oi_target.specs.declared.config.TargetConfig.{TargetConfig}
use Rattle.oi_target.specs.declared.link.Link.{Link}
use Rattle.oi_target.specs.declared.link.Standing.{Standing}
use Rattle.oi_target.specs.declared.link.Standing.TheVariants as standing
use Rattle.oi_target_laws.proofs.Learning.{learned_stuck}
use Rattle.oi_target_laws.proofs.Steps.{ended_stuck, own_stuck}
use Rattle.oi_target_laws.proofs.Turns.{served_stuck, tasks_if}
use Rattle.oi_target_laws.specs.Histories.{AreStuck, FindsNoneReady, TurnsFindNoneReady, event_turns, link_turns, step_turns, tasks_at, turns_on}
use Rattle.oi_target_laws.specs.Turned.{Turned, in_turn_turns, turns_at, turns_if}
use Rattle.oi_target_login.specs.Logins.{turned}
use Rattle.oi_target_login.specs.declared.answer.Answer.{Answer}
use Rattle.oi_target_login.specs.declared.answer.Verdict.{Verdict}
use Rattle.oi_target_login.specs.declared.answer.Verdict.TheVariants as verdict
use Rattle.oi_target_session.specs.Arrivals.{Held, advanced, place_of}
use Rattle.oi_target_session.specs.Owing.{paid}
use Rattle.oi_target_session.specs.Sessions.{Session, Turn, without_resets}
use Rattle.oi_target_session.specs.declared.fed.Fed.{Fed}
use Rattle.oi_target_session.specs.declared.fed.Fed.TheVariants.{Going, Closed}
use Rattle.oi_target_session.specs.declared.place.Place.{Place}
use Rattle.oi_target_session.specs.declared.place.Place.TheVariants.{Now, InTurn, Early, Outside}
use Rattle.oi_target_session.specs.declared.reset.Reset.{Reset}
use Rattle.oi_target_tasks.specs.Tasks.{is_stuck}
use Rattle.oi_units.specs.declared.unit.LogicalUnit.{LogicalUnit}

-- on all connections the first command that waits lacks data

stuck_behind : (ls : List Link) (j : Link) → is_stuck (tasks_at j.standing) ≡ true → AreStuck ls → AreStuck (ls ++ j ∷ [])
stuck_behind [] j one are = (one, tt)
stuck_behind (l ∷ ls) j one are = (are.0, stuck_behind ls j one are.1)

stuck_without : (m : ℕ) (ls : List Link) → AreStuck ls → AreStuck (without m ls)
stuck_without m [] are = tt
stuck_without m (l ∷ ls) are = go (l.number == m) (stuck_without m ls are.1) where
  go : (b : Bool) → AreStuck (without m ls) → AreStuck (if b then ls else l ∷ without m ls)
  go true rest = are.1
  go false rest = (are.0, rest)

stuck_placed : (j : Link) (ls : List Link) → is_stuck (tasks_at j.standing) ≡ true → AreStuck ls → AreStuck (placed j ls)
stuck_placed j [] one are = tt
stuck_placed j (l ∷ ls) one are = go (l.number == j.number) (stuck_placed j ls one are.1) where
  go : (b : Bool) → AreStuck (placed j ls) → AreStuck (if b then j ∷ ls else l ∷ placed j ls)
  go true rest = (one, are.1)
  go false rest = (are.0, rest)

shut_stuck : (s : Standing) → is_stuck (tasks_at s) ≡ true → is_stuck (tasks_at (shut s)) ≡ true
shut_stuck (standing.LoggingIn p) was = was
shut_stuck (standing.Serving v) was = was
shut_stuck standing.Ended was = was
shut_stuck standing.Closed was = was

stuck_bare : (ls : List Link) → AreStuck ls → AreStuck (map bare_link ls)
stuck_bare [] are = tt
stuck_bare (l ∷ ls) are = (shut_stuck l.standing are.0, stuck_bare ls are.1)

stuck_ended : (nexus : List ℕ) (ls : List Link) → AreStuck ls → AreStuck (map (ended_by nexus) ls)
stuck_ended nexus [] are = tt
stuck_ended nexus (l ∷ ls) are = (ended_stuck nexus l.standing are.0, stuck_ended nexus ls are.1)

stuck_reset : (r : Reset) (units : List LogicalUnit) (ls : List Link) → AreStuck (reset_each r units ls).links
stuck_reset r units [] = tt
stuck_reset r units (l ∷ ls) = (learned_stuck r units l.standing, stuck_reset r (learned r units l.standing).units ls)

stuck_told : (resets : List Reset) (ls ks : List Link) → AreTold resets ls ks → AreStuck ls → AreStuck ks
stuck_told [] ls ks told are = subst AreStuck (sym told) are
stuck_told (r ∷ rs) ls ks told are = stuck_told rs (reset_each r told.0 ls).links ks told.1 (stuck_reset r told.0 ls)

stuck_login : (t : Target) (a : Answer) (v : Verdict) → AreStuck t.links → AreStuck (logged_in_by t a v).target.links
stuck_login t a verdict.Going are = are
stuck_login t a verdict.Closed are = are
stuck_login t a (verdict.Done s) are = stuck_ended (nexus_of s.who) t.links are

stuck_step : (t : Target) (s : Standing) (p : Pdu) → AreStuck t.links → AreStuck (stepped t s p).target.links
stuck_step t (standing.LoggingIn login) p are =
    stuck_login (with_words t (turned t.rules t.handle login p t.words).words) (turned t.rules t.handle login p t.words).answer
    (turned t.rules t.handle login p t.words).answer.verdict are
stuck_step t (standing.Serving v) p are = stuck_told (received_by v t p).resets t.links (received_by v t p).target.links (step_told t v p).links are
stuck_step t standing.Ended p are = are
stuck_step t standing.Closed p are = are

-- one that is there
found_stuck : (m : ℕ) (ls : List Link) (l : Link) → AreStuck ls → link_of m ls ≡ Some l → is_stuck (tasks_at l.standing) ≡ true
found_stuck m [] l are found = absurd (let n : ⊥ = cc in n)
found_stuck m (j ∷ ls) l are found = go (j.number == m) found (λ e. found_stuck m ls l are.1 e) where
  same : Some j ≡ Some l → j ≡ l
  same e = cc

  go : (b : Bool) → (if b then Some j else link_of m ls) ≡ Some l → (link_of m ls ≡ Some l → is_stuck (tasks_at l.standing) ≡ true) → is_stuck (tasks_at l.standing) ≡ true
  go true e more = subst (λ (z : Link). is_stuck (tasks_at z.standing) ≡ true) (same e) are.0
  go false e more = more e

stuck_aside : (m : ℕ) (t : Target) → AreStuck t.links → AreStuck (aside m t).links
stuck_aside m t are = stuck_placed (closed_link m) t.links refl are

stuck_link : (m : ℕ) (t : Target) (p : Pdu) (o : Option Link) → link_of m t.links ≡ o → AreStuck t.links → AreStuck (heard_of t m o p).target.links
stuck_link m t p None found are = are
stuck_link m t p (Some l) found are =
    stuck_bare (placed (link_at m no_bytes s.standing) s.target.links)
    (stuck_placed (link_at m no_bytes s.standing) s.target.links (own_stuck (aside m t) l.standing p (found_stuck m t.links l are found))
    (stuck_step (aside m t) l.standing p (stuck_aside m t are))) where
      s : Step
      s = stepped (aside m t) l.standing p

all_stuck : (c : TargetConfig) (es : List Event) → AreStuck (state_after c es).links
all_stuck c [] = tt
all_stuck c (Joined m ∷ es) = stuck_behind (state_after c es).links (new_link m) refl (all_stuck c es)
all_stuck c (Left m ∷ es) = stuck_without m (state_after c es).links (all_stuck c es)
all_stuck c (Told listing ∷ es) = all_stuck c es
all_stuck c (Whole m p ∷ es) = stuck_link m (state_after c es) p (link_of m (state_after c es).links) refl (all_stuck c es)
all_stuck c (Malformed m ∷ es) = stuck_aside m (state_after c es) (all_stuck c es)

-- so each PDU finds them as it has its turn

in_turn_finds : (t : Target) (s : Session) (p : Pdu) (held : Held) → is_stuck s.tasks ≡ true → AreStuck t.links → FindsNoneReady (in_turn_turns t s p held)
in_turn_finds t s p [] own others = (own, others, tt)
in_turn_finds t s p (None ∷ held) own others = (own, others, tt)
in_turn_finds t s p (Some next ∷ held) own others = (
  own,
  others,
  go turn.fed (served_stuck t (advanced s) p) (λ stuck. in_turn_finds (told t turn) (without_resets turn.session) next held stuck
      (stuck_told turn.session.resets t.links (told t turn).links (resets_told turn.session.resets turn.units t.links) others)),
) where
  turn : Turn
  turn = turn_of t (advanced s) p

  turns : List Turned
  turns = in_turn_turns (told t turn) (without_resets turn.session) next held

  go : (f : Fed) → is_stuck (tasks_if f turn.session.tasks) ≡ true → (is_stuck turn.session.tasks ≡ true → FindsNoneReady turns) → FindsNoneReady (turns_if f turns)
  go Closed stuck more = tt
  go Going stuck more = more stuck

received_finds : (place : Place) (t : Target) (s : Session) (held : Held) (p : Pdu) → is_stuck s.tasks ≡ true → AreStuck t.links → FindsNoneReady (turns_at place t s held p)
received_finds Now t s held p own others = (own, others, tt)
received_finds InTurn t s held p own others = in_turn_finds t s p held own others
received_finds (Early at) t s held p own others = tt
received_finds Outside t s held p own others = tt

step_finds : (t : Target) (s : Standing) (p : Pdu) → is_stuck (tasks_at s) ≡ true → AreStuck t.links → FindsNoneReady (step_turns t s p)
step_finds t (standing.LoggingIn login) p own others = tt
step_finds t (standing.Serving v) p own others =
    received_finds (place_of v.session.discovers v.session.numbers.exp.0 p.head) t (paid v.session v.owed) v.held p own others
step_finds t standing.Ended p own others = tt
step_finds t standing.Closed p own others = tt

link_finds : (n m : ℕ) (t : Target) (p : Pdu) (o : Option Link) → link_of m t.links ≡ o → AreStuck t.links → FindsNoneReady (if m == n then link_turns t m o p else [])
link_finds n m t p o found are = go (m == n) o found where
  go : (b : Bool) (o : Option Link) → link_of m t.links ≡ o → FindsNoneReady (if b then link_turns t m o p else [])
  go false o found = tt
  go true None found = tt
  go true (Some l) found = step_finds (aside m t) l.standing p (found_stuck m t.links l are found) (stuck_aside m t are)

event_finds : (n : ℕ) (t : Target) (e : Event) → AreStuck t.links → FindsNoneReady (event_turns n t e)
event_finds n t (Joined m) are = tt
event_finds n t (Left m) are = tt
event_finds n t (Told listing) are = tt
event_finds n t (Whole m p) are = link_finds n m t p (link_of m t.links) refl are
event_finds n t (Malformed m) are = tt

both_find : (first second : List Turned) → FindsNoneReady first → FindsNoneReady second → FindsNoneReady (first ++ second)
both_find [] second a b = b
both_find (turn ∷ turns) second a b = (a.0, a.1, both_find turns second a.2 b)

pub turns_find_none_ready : TurnsFindNoneReady
turns_find_none_ready n c [] = tt
turns_find_none_ready n c (e ∷ es) =
    both_find (turns_on n c es) (event_turns n (state_after c es) e) (turns_find_none_ready n c es) (event_finds n (state_after c es) e (all_stuck c es))
