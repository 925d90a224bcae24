-- The commands that are executed on a connection are among those that the units were asked, in the same order.
use Rattle.std.proofs.Common.{ℕ, Bool, true, false, ◌≡◌, ◌∙◌, inl, Option, Some, None, List, [], ◌∷◌, ◌++◌, flat_map, map, refl, ap, sym, subst, append-nil, if◌then◌else◌, ◌==◌}
use Rattle.std.proofs.lemmas.List.{map-append}
use Rattle.oi_pdu.specs.declared.codec.Pdu.{Pdu}
use Rattle.oi_target.specs.Events.{Event, Joined, Left, Told, Whole, Malformed, state_after}
use Rattle.oi_target.specs.Runs.{event_requests, in_turn_own, in_turn_requests, learned_requests, link_learned, link_own, link_requests, own_at, own_requests, requests_at, requests_of, reset_requests, step_requests, turn_others, turn_own, turn_requests}
use Rattle.oi_target.specs.Targets.{Reached, Target, aside, link_of, reset_each}
use Rattle.oi_target.specs.Turns.{Received, followed, in_turn, received_at, received_turn, told, turn_of}
use Rattle.oi_target.specs.declared.link.Link.{Link}
use Rattle.oi_target.specs.declared.link.Standing.{Standing}
use Rattle.oi_target.specs.declared.link.Standing.TheVariants as standing
use Rattle.oi_target_laws.proofs.Accounts.{aside_standing}
use Rattle.oi_target_laws.proofs.Learning.{after_all, reset_tasks, resets_tasks, woken_join}
use Rattle.oi_target_laws.proofs.Moves.{within_join, within_past}
use Rattle.oi_target_laws.specs.Histories.{ExecutedAreAsked, event_executed, executed_on, link_woken, standing_in, standing_of, step_woken, tasks_at, tasks_in, woken_by_all}
use Rattle.oi_target_laws.specs.Turned.{command_of_request, command_of_task, commands_of}
use Rattle.oi_target_laws.specs.Within.{Within}
use Rattle.oi_target_session.specs.Arrivals.{Held, advanced, place_of}
use Rattle.oi_target_session.specs.Executions.{if_going}
use Rattle.oi_target_session.specs.Owing.{paid, unready}
use Rattle.oi_target_session.specs.Runs.{ready, request_of}
use Rattle.oi_target_session.specs.Sessions.{Session, Turn, spared, without_resets}
use Rattle.oi_target_session.specs.declared.fed.Fed.{Fed}
use Rattle.oi_target_session.specs.declared.fed.Fed.TheVariants.{Going, Closed}
use Rattle.oi_target_session.specs.declared.place.Place.{Place}
use Rattle.oi_target_session.specs.declared.place.Place.TheVariants.{Now, InTurn, Early, Outside}
use Rattle.oi_target_session.specs.declared.reset.Reset.{Reset}
use Rattle.oi_target_session.specs.declared.reset.Reset.TheVariants.{Unit as OfUnit, Whole as OfTarget}
use Rattle.oi_target_tasks.specs.declared.task.Task.{Task}
use Rattle.oi_units.specs.Runs.{Request}
use Rattle.oi_units.specs.declared.command.UnitCommand.{UnitCommand}
use Rattle.oi_units.specs.declared.unit.LogicalUnit.{LogicalUnit}

abbrev pub asked_by : List Request → List UnitCommand
asked_by rs = map command_of_request rs

within_front : (xs ys : List UnitCommand) → Within xs (xs ++ ys)
within_front [] ys = tt
within_front (x ∷ xs) ys = inl (refl, within_front xs ys)

within_behind : (xs ys zs : List UnitCommand) → Within zs ys → Within zs (xs ++ ys)
within_behind [] ys zs w = w
within_behind (x ∷ xs) ys zs w = within_past x zs (xs ++ ys) (within_behind xs ys zs w)

-- requests in two parts
among_first : (cs : List UnitCommand) (first second : List Request) → asked_by first ≡ cs → Within cs (asked_by (first ++ second))
among_first cs first second is =
    subst (λ (z : List UnitCommand). Within cs z) (sym (map-append command_of_request first second))
    (subst (λ (z : List UnitCommand). Within z (asked_by first ++ asked_by second)) is (within_front (asked_by first) (asked_by second)))

among_second : (cs : List UnitCommand) (first second : List Request) → Within cs (asked_by second) → Within cs (asked_by (first ++ second))
among_second cs first second w =
    subst (λ (z : List UnitCommand). Within cs z) (sym (map-append command_of_request first second)) (within_behind (asked_by first) (asked_by second) cs w)

among_both : (cs ds : List UnitCommand) (first second : List Request) → Within cs (asked_by first) → Within ds (asked_by second) → Within (cs ++ ds) (asked_by (first ++ second))
among_both cs ds first second v w =
    subst (λ (z : List UnitCommand). Within (cs ++ ds) z) (sym (map-append command_of_request first second)) (within_join cs (asked_by first) ds (asked_by second) v w)

-- what a reset lets be executed of a connection
request_commands : (nexus : List ℕ) (ts : List Task) → asked_by (map (request_of nexus) ts) ≡ commands_of ts
request_commands nexus [] = refl
request_commands nexus (t ∷ ts) = ap (λ (z : List UnitCommand). t.command ∷ z) (request_commands nexus ts)

pub learned_commands : (r : Reset) (s : Standing) → asked_by (learned_requests r s) ≡ commands_of (ready (spared r (tasks_at s)))
learned_commands (OfUnit lun) (standing.LoggingIn p) = refl
learned_commands OfTarget (standing.LoggingIn p) = refl
learned_commands r (standing.Serving v) = request_commands v.session.nexus (ready (spared r v.session.tasks))
learned_commands (OfUnit lun) standing.Ended = refl
learned_commands OfTarget standing.Ended = refl
learned_commands (OfUnit lun) standing.Closed = refl
learned_commands OfTarget standing.Closed = refl

each_asked : (n : ℕ) (r : Reset) (ls : List Link) → Within (commands_of (ready (spared r (tasks_in n ls)))) (asked_by (flat_map (link_learned r) ls))
each_asked n (OfUnit lun) [] = tt
each_asked n OfTarget [] = tt
each_asked n r (l ∷ ls) = go (l.number == n) (each_asked n r ls) where
  go : (b : Bool) → Within (commands_of (ready (spared r (tasks_in n ls)))) (asked_by (flat_map (link_learned r) ls))
      → Within (commands_of (ready (spared r (tasks_at (standing_of (if b then Some l else link_of n ls)))))) (asked_by (link_learned r l ++ flat_map (link_learned r) ls))
  go true w = among_first (commands_of (ready (spared r (tasks_at l.standing)))) (link_learned r l) (flat_map (link_learned r) ls) (learned_commands r l.standing)
  go false w = among_second (commands_of (ready (spared r (tasks_in n ls)))) (link_learned r l) (flat_map (link_learned r) ls) w

resets_asked : (n : ℕ) (resets : List Reset) (units : List LogicalUnit) (ls : List Link)
    → Within (commands_of (woken_by_all resets (tasks_in n ls))) (asked_by (reset_requests resets units ls))
resets_asked n [] units ls = tt
resets_asked n (r ∷ rs) units ls =
    subst (λ (z : List UnitCommand). Within z (asked_by (flat_map (link_learned r) ls ++ reset_requests rs all.units all.links)))
    (sym (map-append command_of_task (ready (spared r ts)) (woken_by_all rs (unready (spared r ts)))))
    (among_both (commands_of (ready (spared r ts))) (commands_of (woken_by_all rs (unready (spared r ts)))) (flat_map (link_learned r) ls) (reset_requests rs all.units all.links)
    (each_asked n r ls)
    (subst (λ (z : List Task). Within (commands_of (woken_by_all rs z)) (asked_by (reset_requests rs all.units all.links))) (reset_tasks n r units ls)
    (resets_asked n rs all.units all.links))) where
      ts : List Task
      ts = tasks_in n ls

      all : Reached
      all = reset_each r units ls

-- as a PDU of another connection has its turn
turn_asked : (n : ℕ) (t : Target) (s : Session) (p : Pdu)
    → Within (commands_of (woken_by_all (turn_of t s p).session.resets (tasks_in n t.links))) (asked_by (turn_requests t s p))
turn_asked n t s p =
    let turn : Turn = turn_of t s p in
    among_second (commands_of (woken_by_all turn.session.resets (tasks_in n t.links))) (turn_own t s p) (turn_others t s p)
    (resets_asked n turn.session.resets turn.units t.links)

in_turn_asked : (n : ℕ) (t : Target) (s : Session) (p : Pdu) (held : Held)
    → Within (commands_of (woken_by_all (in_turn t s p held).resets (tasks_in n t.links))) (asked_by (in_turn_requests t s p held))
in_turn_asked n t s p [] = turn_asked n t (advanced s) p
in_turn_asked n t s p (None ∷ held) = turn_asked n t (advanced s) p
in_turn_asked n t s p (Some next ∷ held) =
    go turn.fed (turn_asked n t (advanced s) p) (in_turn_asked n (told t turn) (without_resets turn.session) next held) where
      turn : Turn
      turn = turn_of t (advanced s) p

      end : Received
      end = in_turn (told t turn) (without_resets turn.session) next held

      first : List Request
      first = turn_requests t (advanced s) p

      rest : List Request
      rest = in_turn_requests (told t turn) (without_resets turn.session) next held

      ts : List Task
      ts = tasks_in n t.links

      one : List Reset
      one = turn.session.resets

      go : (f : Fed) → Within (commands_of (woken_by_all one ts)) (asked_by first)
          → Within (commands_of (woken_by_all end.resets (tasks_in n (told t turn).links))) (asked_by rest)
          → Within (commands_of (woken_by_all (followed f (received_turn t held turn) end).resets ts)) (asked_by (first ++ if_going f rest))
      go Closed w more = subst (λ (z : List Request). Within (commands_of (woken_by_all one ts)) (asked_by z)) (sym (append-nil first)) w
      go Going w more =
          subst (λ (z : List UnitCommand). Within z (asked_by (first ++ rest)))
          (sym (ap commands_of (woken_join one end.resets ts) ∙ map-append command_of_task (woken_by_all one ts) (woken_by_all end.resets (after_all one ts))))
          (among_both (commands_of (woken_by_all one ts)) (commands_of (woken_by_all end.resets (after_all one ts))) first rest w
          (subst (λ (z : List Task). Within (commands_of (woken_by_all end.resets z)) (asked_by rest)) (resets_tasks n one turn.units t.links) more))

received_asked : (n : ℕ) (place : Place) (t : Target) (s : Session) (held : Held) (p : Pdu)
    → Within (commands_of (woken_by_all (received_at place t s held p).resets (tasks_in n t.links))) (asked_by (requests_at place t s held p))
received_asked n Now t s held p = turn_asked n t s p
received_asked n InTurn t s held p = in_turn_asked n t s p held
received_asked n (Early at) t s held p = tt
received_asked n Outside t s held p = tt

step_asked : (n : ℕ) (t : Target) (s : Standing) (p : Pdu) → Within (commands_of (step_woken t s p (standing_in n t.links))) (asked_by (step_requests t s p))
step_asked n t (standing.LoggingIn login) p = tt
step_asked n t (standing.Serving v) p = received_asked n (place_of v.session.discovers v.session.numbers.exp.0 p.head) t (paid v.session v.owed) v.held p
step_asked n t standing.Ended p = tt
step_asked n t standing.Closed p = tt

-- for its own session
both_asked : (own more first rest : List Request) → Within (asked_by own) (asked_by first) → Within (asked_by more) (asked_by rest) → Within (asked_by (own ++ more)) (asked_by (first ++ rest))
both_asked own more first rest v w =
    subst (λ (z : List UnitCommand). Within z (asked_by (first ++ rest))) (sym (map-append command_of_request own more)) (among_both (asked_by own) (asked_by more) first rest v w)

going_asked : (f : Fed) (more rest : List Request) → Within (asked_by more) (asked_by rest) → Within (asked_by (if_going f more)) (asked_by (if_going f rest))
going_asked Closed more rest w = tt
going_asked Going more rest w = w

turn_own_asked : (t : Target) (s : Session) (p : Pdu) → Within (asked_by (turn_own t s p)) (asked_by (turn_requests t s p))
turn_own_asked t s p = among_first (asked_by (turn_own t s p)) (turn_own t s p) (turn_others t s p) refl

in_turn_own_asked : (t : Target) (s : Session) (p : Pdu) (held : Held) → Within (asked_by (in_turn_own t s p held)) (asked_by (in_turn_requests t s p held))
in_turn_own_asked t s p [] = turn_own_asked t (advanced s) p
in_turn_own_asked t s p (None ∷ held) = turn_own_asked t (advanced s) p
in_turn_own_asked t s p (Some next ∷ held) =
    let turn : Turn = turn_of t (advanced s) p in
    let own : List Request = in_turn_own (told t turn) (without_resets turn.session) next held in
    let rest : List Request = in_turn_requests (told t turn) (without_resets turn.session) next held in
    both_asked (turn_own t (advanced s) p) (if_going turn.fed own) (turn_requests t (advanced s) p) (if_going turn.fed rest) (turn_own_asked t (advanced s) p)
    (going_asked turn.fed own rest (in_turn_own_asked (told t turn) (without_resets turn.session) next held))

received_own_asked : (place : Place) (t : Target) (s : Session) (held : Held) (p : Pdu) → Within (asked_by (own_at place t s held p)) (asked_by (requests_at place t s held p))
received_own_asked Now t s held p = turn_own_asked t s p
received_own_asked InTurn t s held p = in_turn_own_asked t s p held
received_own_asked (Early at) t s held p = tt
received_own_asked Outside t s held p = tt

own_asked : (t : Target) (s : Standing) (p : Pdu) → Within (asked_by (own_requests t s p)) (asked_by (step_requests t s p))
own_asked t (standing.LoggingIn login) p = tt
own_asked t (standing.Serving v) p = received_own_asked (place_of v.session.discovers v.session.numbers.exp.0 p.head) t (paid v.session v.owed) v.held p
own_asked t standing.Ended p = tt
own_asked t standing.Closed p = tt

link_asked : (n m : ℕ) (t : Target) (p : Pdu) (o : Option Link)
    → Within (if m == n then asked_by (link_own t m o p) else commands_of (link_woken t m o p (standing_in n t.links))) (asked_by (link_requests t m o p))
link_asked n m t p None = go (m == n) where
  go : (b : Bool) → Within (if b then [] else []) []
  go true = tt
  go false = tt
link_asked n m t p (Some l) = go (m == n) refl where
  go : (b : Bool) → (m == n) ≡ b
      → Within (if b then asked_by (link_own t m (Some l) p) else commands_of (link_woken t m (Some l) p (standing_in n t.links))) (asked_by (link_requests t m (Some l) p))
  go true is = own_asked (aside m t) l.standing p
  go false is =
      subst (λ (z : Standing). Within (commands_of (link_woken t m (Some l) p z)) (asked_by (link_requests t m (Some l) p))) (aside_standing n m t is)
      (step_asked n (aside m t) l.standing p)

event_asked : (n : ℕ) (t : Target) (e : Event) → Within (event_executed n t e) (asked_by (event_requests t e))
event_asked n t (Joined m) = tt
event_asked n t (Left m) = tt
event_asked n t (Told listing) = tt
event_asked n t (Whole m p) = link_asked n m t p (link_of m t.links)
event_asked n t (Malformed m) = tt

pub executed_are_asked : ExecutedAreAsked
executed_are_asked n c [] = tt
executed_are_asked n c (e ∷ es) =
    among_both (executed_on n c es) (event_executed n (state_after c es) e) (requests_of c es) (event_requests (state_after c es) e)
    (executed_are_asked n c es) (event_asked n (state_after c es) e)
