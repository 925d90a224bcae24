-- No command is executed before its data are complete.
use Rattle.std.proofs.Common.{ℕ, Bool, true, false, not, ◌≡◌, Option, Some, None, List, [], ◌∷◌, ◌++◌, flat_map, map, refl, ap, if◌then◌else◌}
use Rattle.oi_pdu.specs.declared.codec.Pdu.{Pdu}
use Rattle.oi_target.specs.Events.{Event, Joined, Left, Told, Whole, Malformed, state_after}
use Rattle.oi_target.specs.Runs.{event_requests, in_turn_requests, learned_requests, link_learned, link_requests, requests_at, requests_of, reset_requests, step_requests, turn_others, turn_own, turn_requests}
use Rattle.oi_target.specs.Targets.{Reached, Target, aside, link_of, reset_each}
use Rattle.oi_target.specs.Turns.{told, turn_of}
use Rattle.oi_target.specs.declared.link.Link.{Link}
use Rattle.oi_target.specs.declared.link.Standing.{Standing}
use Rattle.oi_target.specs.declared.link.Standing.TheVariants as standing
use Rattle.oi_target_laws.specs.Histories.{AreComplete, ExecutedAreComplete}
use Rattle.oi_target_session.specs.Arrivals.{Held, advanced, place_of}
use Rattle.oi_target_session.specs.Executions.{if_going}
use Rattle.oi_target_session.specs.Owing.{paid}
use Rattle.oi_target_session.specs.Runs.{ready, request_of}
use Rattle.oi_target_session.specs.Sessions.{Handled, Session, Turn, handled, spared, without_resets}
use Rattle.oi_target_session.specs.declared.fed.Fed.{Fed}
use Rattle.oi_target_session.specs.declared.fed.Fed.TheVariants.{Going, Closed}
use Rattle.oi_target_session.specs.declared.place.Place.{Place}
use Rattle.oi_target_session.specs.declared.place.Place.TheVariants.{Now, InTurn, Early, Outside}
use Rattle.oi_target_session.specs.declared.reset.Reset.{Reset}
use Rattle.oi_target_tasks.specs.Tasks.{is_waiting}
use Rattle.oi_target_tasks.specs.declared.task.Task.{Task}
use Rattle.oi_units.specs.Runs.{Request}
use Rattle.oi_units.specs.declared.unit.LogicalUnit.{LogicalUnit}

both_complete : (first rest : List Request) → AreComplete first → AreComplete rest → AreComplete (first ++ rest)
both_complete [] rest a b = b
both_complete (r ∷ rs) rest a b = (a.0, both_complete rs rest a.1 b)

going_complete : (f : Fed) (rs : List Request) → AreComplete rs → AreComplete (if_going f rs)
going_complete Closed rs a = tt
going_complete Going rs a = a

ready_complete : (nexus : List ℕ) (ts : List Task) → AreComplete (map (request_of nexus) (ready ts))
ready_complete nexus [] = tt
ready_complete nexus (t ∷ ts) = go (is_waiting t) refl (ready_complete nexus ts) where
  go : (b : Bool) → is_waiting t ≡ b → AreComplete (map (request_of nexus) (ready ts)) → AreComplete (map (request_of nexus) (if b then [] else t ∷ ready ts))
  go true is was = tt
  go false is was = (ap not is, was)

own_complete : (t : Target) (s : Session) (p : Pdu) → AreComplete (turn_own t s p)
own_complete t s p =
    going_complete h.fed (map (request_of h.session.nexus) (ready h.session.tasks)) (ready_complete h.session.nexus h.session.tasks) where
      h : Handled
      h = handled s t.units t.listing p.head p.payload

-- behind resets
learned_complete : (r : Reset) (s : Standing) → AreComplete (learned_requests r s)
learned_complete r (standing.LoggingIn login) = tt
learned_complete r (standing.Serving v) = ready_complete v.session.nexus (spared r v.session.tasks)
learned_complete r standing.Ended = tt
learned_complete r standing.Closed = tt

reset_complete : (r : Reset) (ls : List Link) → AreComplete (flat_map (link_learned r) ls)
reset_complete r [] = tt
reset_complete r (l ∷ ls) = both_complete (link_learned r l) (flat_map (link_learned r) ls) (learned_complete r l.standing) (reset_complete r ls)

resets_complete : (resets : List Reset) (units : List LogicalUnit) (ls : List Link) → AreComplete (reset_requests resets units ls)
resets_complete [] units ls = tt
resets_complete (r ∷ rs) units ls =
    let all : Reached = reset_each r units ls in
    both_complete (flat_map (link_learned r) ls) (reset_requests rs all.units all.links) (reset_complete r ls) (resets_complete rs all.units all.links)

-- of a PDU whose turn it is
turn_complete : (t : Target) (s : Session) (p : Pdu) → AreComplete (turn_requests t s p)
turn_complete t s p =
    let turn : Turn = turn_of t s p in
    both_complete (turn_own t s p) (turn_others t s p) (own_complete t s p) (resets_complete turn.session.resets turn.units t.links)

in_turn_complete : (t : Target) (s : Session) (p : Pdu) (held : Held) → AreComplete (in_turn_requests t s p held)
in_turn_complete t s p [] = turn_complete t (advanced s) p
in_turn_complete t s p (None ∷ held) = turn_complete t (advanced s) p
in_turn_complete t s p (Some next ∷ held) =
    let turn : Turn = turn_of t (advanced s) p in
    let rest : List Request = in_turn_requests (told t turn) (without_resets turn.session) next held in
    both_complete (turn_requests t (advanced s) p) (if_going turn.fed rest) (turn_complete t (advanced s) p)
    (going_complete turn.fed rest (in_turn_complete (told t turn) (without_resets turn.session) next held))

placed_complete : (place : Place) (t : Target) (s : Session) (held : Held) (p : Pdu) → AreComplete (requests_at place t s held p)
placed_complete Now t s held p = turn_complete t s p
placed_complete InTurn t s held p = in_turn_complete t s p held
placed_complete (Early at) t s held p = tt
placed_complete Outside t s held p = tt

step_complete : (t : Target) (s : Standing) (p : Pdu) → AreComplete (step_requests t s p)
step_complete t (standing.LoggingIn login) p = tt
step_complete t (standing.Serving v) p = placed_complete (place_of v.session.discovers v.session.numbers.exp.0 p.head) t (paid v.session v.owed) v.held p
step_complete t standing.Ended p = tt
step_complete t standing.Closed p = tt

link_complete : (t : Target) (m : ℕ) (o : Option Link) (p : Pdu) → AreComplete (link_requests t m o p)
link_complete t m None p = tt
link_complete t m (Some l) p = step_complete (aside m t) l.standing p

event_complete : (t : Target) (e : Event) → AreComplete (event_requests t e)
event_complete t (Joined m) = tt
event_complete t (Left m) = tt
event_complete t (Told listing) = tt
event_complete t (Whole m p) = link_complete t m (link_of m t.links) p
event_complete t (Malformed m) = tt

pub executed_are_complete : ExecutedAreComplete
executed_are_complete c [] = tt
executed_are_complete c (e ∷ es) =
    both_complete (requests_of c es) (event_requests (state_after c es) e) (executed_are_complete c es) (event_complete (state_after c es) e)
