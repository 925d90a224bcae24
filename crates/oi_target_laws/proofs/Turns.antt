-- PDUs that have their turn, one after another.
use Rattle.std.proofs.Common.{ℕ, Bool, true, false, ◌≡◌, Some, None, List, [], ◌∷◌, ◌++◌, map, refl, ap, sym, subst, append-nil, flat_map, slice_get, if◌then◌else◌}
use Rattle.std.proofs.lemmas.List.{map-append}
use Rattle.oi_pdu.specs.declared.codec.Pdu.{Pdu}
use Rattle.oi_target.specs.Runs.{in_turn_own, own_at, turn_own}
use Rattle.oi_target.specs.Targets.{Target}
use Rattle.oi_target.specs.Turns.{Received, followed, in_turn, received_at, received_turn, told, turn_of}
use Rattle.oi_target_laws.proofs.Handles.{ended_by, handled_handles}
use Rattle.oi_target_laws.proofs.Moves.{Moves, ends, executes, moves_on, stays}
use Rattle.oi_target_laws.specs.Turned.{Turned, brought, came_in, command_of_request, commands_if, commands_of, ended_as, ended_at, ended_in, in_turn_turns, taken_in, turned_at, turns_at, turns_if}
use Rattle.oi_target_session.specs.Arrivals.{Held, advanced, is_held}
use Rattle.oi_target_session.specs.Executions.{if_going}
use Rattle.oi_target_session.specs.Runs.{ready, request_of}
use Rattle.oi_target_session.specs.Sessions.{Handled, Session, Turn, and_drained, behind, counted, drained, handled, reply_pdus, with_tasks, without_resets}
use Rattle.oi_target_session.specs.declared.fed.Fed.{Fed}
use Rattle.oi_target_session.specs.declared.fed.Fed.TheVariants.{Going, Closed}
use Rattle.oi_target_session.specs.declared.place.Place.{Place}
use Rattle.oi_target_session.specs.declared.place.Place.TheVariants.{Now, InTurn, Early, Outside}
use Rattle.oi_target_tasks.specs.Tasks.{is_stuck, is_waiting}
use Rattle.oi_target_tasks.specs.declared.task.Task.{Task}
use Rattle.oi_units.specs.Runs.{Request}
use Rattle.oi_units.specs.Units.{executed}
use Rattle.oi_units.specs.declared.command.UnitCommand.{UnitCommand}
use Rattle.oi_units.specs.declared.unit.LogicalUnit.{LogicalUnit}

-- the commands that are executed as a PDU comes
abbrev pub executed_at : Place → Target → Session → Held → Pdu → List UnitCommand
executed_at place t s held p = map command_of_request (own_at place t s held p)

-- the tasks that wait, where the connection stays
abbrev pub tasks_if : Fed → List Task → List Task
tasks_if Closed ts = []
tasks_if Going ts = ts

-- nothing is appended
pub with_nil : (ws cs es ds ks : List UnitCommand) → Moves ws cs es ds ks → Moves ws (cs ++ []) es (ds ++ []) ks
with_nil ws cs es ds ks m =
    subst (λ (z : List UnitCommand). Moves ws z es (ds ++ []) ks) (sym (append-nil cs)) (subst (λ (z : List UnitCommand). Moves ws cs es z ks) (sym (append-nil ds)) m)

pub with_nil_ended : (ws cs es ds ks : List UnitCommand) → Moves ws cs es ds ks → Moves ws cs es (ds ++ []) ks
with_nil_ended ws cs es ds ks m = subst (λ (z : List UnitCommand). Moves ws cs es z ks) (sym (append-nil ds)) m

without_nil : (ws cs es ds ks : List UnitCommand) → Moves ws (cs ++ []) es (ds ++ []) ks → Moves ws cs es ds ks
without_nil ws cs es ds ks m =
    subst (λ (z : List UnitCommand). Moves ws z es ds ks) (append-nil cs) (subst (λ (z : List UnitCommand). Moves ws (cs ++ []) es z ks) (append-nil ds) m)

-- the first of those that wait are executed then
pub then_executes : (ws cs ds ms es ks : List UnitCommand) → Moves ws cs [] ds ms → ms ≡ es ++ ks → Moves ws cs es ds ks
then_executes ws cs ds ms es ks m is =
    without_nil ws cs es ds ks
    (moves_on ws cs [] [] es ds [] (es ++ ks) ks (subst (λ (z : List UnitCommand). Moves ws cs [] ds z) is m) (executes es ks))

-- the commands that are executed, and those that still wait
drained_commands : (nexus : List ℕ) (s : Session) (units : List LogicalUnit) (ts : List Task)
    → commands_of ts ≡ map command_of_request (map (request_of nexus) (ready ts)) ++ commands_of (drained s units ts).session.tasks
drained_commands nexus s units [] = refl
drained_commands nexus s units (t ∷ ts) = go (is_waiting t) (drained_commands nexus (counted s) (executed units s.nexus t.command t.payload).units ts) where
  go : (b : Bool)
      → commands_of ts ≡ map command_of_request (map (request_of nexus) (ready ts)) ++ commands_of (drained (counted s) (executed units s.nexus t.command t.payload).units ts).session.tasks
      → t.command ∷ commands_of ts
      ≡ map command_of_request (map (request_of nexus) (if b then [] else t ∷ ready ts))
      ++ commands_of (if b then record { session = with_tasks s (t ∷ ts); units = units; sent = []; fed = Going }
      else behind (reply_pdus s t (executed units s.nexus t.command t.payload).reply)
      (drained (counted s) (executed units s.nexus t.command t.payload).units ts)).session.tasks
  go true was = refl
  go false was = ap (λ (z : List UnitCommand). t.command ∷ z) was

drained_stuck : (s : Session) (units : List LogicalUnit) (ts : List Task) → is_stuck (drained s units ts).session.tasks ≡ true
drained_stuck s units [] = refl
drained_stuck s units (t ∷ ts) = go (is_waiting t) refl (drained_stuck (counted s) (executed units s.nexus t.command t.payload).units ts) where
  go : (b : Bool) → is_waiting t ≡ b → is_stuck (drained (counted s) (executed units s.nexus t.command t.payload).units ts).session.tasks ≡ true
      → is_stuck (if b then record { session = with_tasks s (t ∷ ts); units = units; sent = []; fed = Going }
      else behind (reply_pdus s t (executed units s.nexus t.command t.payload).reply)
      (drained (counted s) (executed units s.nexus t.command t.payload).units ts)).session.tasks
      ≡ true
  go true is was = is
  go false is was = was

-- a PDU whose turn it is
served_moves : (t : Target) (s : Session) (p : Pdu)
    → Moves (commands_of s.tasks) (came_in (turned_at t s p)) (map command_of_request (turn_own t s p)) (ended_in (turned_at t s p))
    (commands_if (turn_of t s p).fed (commands_of (turn_of t s p).session.tasks))
served_moves t s p = go h.fed (handled_handles s t.units t.listing p.head p.payload) where
  h : Handled
  h = handled s t.units t.listing p.head p.payload

  go : (f : Fed)
      → Moves (commands_of s.tasks) (commands_if f (brought p.head)) [] (ended_by f s (commands_of (taken_in s t.units p.head))) (commands_if f (commands_of h.session.tasks))
      → Moves (commands_of s.tasks) (commands_if f (brought p.head)) (map command_of_request (if_going f (map (request_of h.session.nexus) (ready h.session.tasks))))
      (ended_as f (turned_at t s p)) (commands_if (and_drained f h t.units).fed (commands_of (and_drained f h t.units).session.tasks))
  go Closed m = m
  go Going m =
      then_executes (commands_of s.tasks) (brought p.head) (commands_of (taken_in s t.units p.head)) (commands_of h.session.tasks)
      (map command_of_request (map (request_of h.session.nexus) (ready h.session.tasks))) (commands_of (drained h.session t.units h.session.tasks).session.tasks) m
      (drained_commands h.session.nexus h.session t.units h.session.tasks)

pub served_stuck : (t : Target) (s : Session) (p : Pdu) → is_stuck (tasks_if (turn_of t s p).fed (turn_of t s p).session.tasks) ≡ true
served_stuck t s p = go h.fed where
  h : Handled
  h = handled s t.units t.listing p.head p.payload

  go : (f : Fed) → is_stuck (tasks_if (and_drained f h t.units).fed (and_drained f h t.units).session.tasks) ≡ true
  go Closed = refl
  go Going = drained_stuck h.session t.units h.session.tasks

-- with those that were held
one_moves : (t : Target) (s : Session) (p : Pdu)
    → Moves (commands_of s.tasks) (came_in (turned_at t (advanced s) p) ++ []) (map command_of_request (turn_own t (advanced s) p)) (ended_in (turned_at t (advanced s) p) ++ [])
    (commands_if (turn_of t (advanced s) p).fed (commands_of (turn_of t (advanced s) p).session.tasks))
one_moves t s p =
    with_nil (commands_of s.tasks) (came_in (turned_at t (advanced s) p)) (map command_of_request (turn_own t (advanced s) p)) (ended_in (turned_at t (advanced s) p))
    (commands_if (turn_of t (advanced s) p).fed (commands_of (turn_of t (advanced s) p).session.tasks)) (served_moves t (advanced s) p)

in_turn_moves : (t : Target) (s : Session) (p : Pdu) (held : Held)
    → Moves (commands_of s.tasks) (flat_map came_in (in_turn_turns t s p held)) (map command_of_request (in_turn_own t s p held)) (flat_map ended_in (in_turn_turns t s p held))
    (commands_if (in_turn t s p held).fed (commands_of (in_turn t s p held).session.tasks))
in_turn_moves t s p [] = one_moves t s p
in_turn_moves t s p (None ∷ held) = one_moves t s p
in_turn_moves t s p (Some next ∷ held) =
    go turn.fed refl (served_moves t (advanced s) p) (in_turn_moves (told t turn) (without_resets turn.session) next held) where
      turn : Turn
      turn = turn_of t (advanced s) p

      one : Turned
      one = turned_at t (advanced s) p

      first : List Request
      first = turn_own t (advanced s) p

      turns : List Turned
      turns = in_turn_turns (told t turn) (without_resets turn.session) next held

      rest : List Request
      rest = in_turn_own (told t turn) (without_resets turn.session) next held

      end : Received
      end = in_turn (told t turn) (without_resets turn.session) next held

      all : Fed → Received
      all f = followed f (received_turn t held turn) end

      go : (f : Fed) → turn.fed ≡ f
          → Moves (commands_of s.tasks) (came_in one) (map command_of_request first) (ended_in one) (commands_if turn.fed (commands_of turn.session.tasks))
          → Moves (commands_of turn.session.tasks) (flat_map came_in turns) (map command_of_request rest) (flat_map ended_in turns) (commands_if end.fed (commands_of end.session.tasks))
          → Moves (commands_of s.tasks) (came_in one ++ flat_map came_in (turns_if f turns)) (map command_of_request (first ++ if_going f rest))
          (ended_in one ++ flat_map ended_in (turns_if f turns)) (commands_if (all f).fed (commands_of (all f).session.tasks))
      go Closed is m more =
          subst (λ (z : List Request). Moves (commands_of s.tasks) (came_in one ++ []) (map command_of_request z) (ended_in one ++ []) (commands_if turn.fed (commands_of turn.session.tasks)))
          (sym (append-nil first))
          (with_nil (commands_of s.tasks) (came_in one) (map command_of_request first) (ended_in one) (commands_if turn.fed (commands_of turn.session.tasks)) m)
      go Going is m more =
          subst (λ (z : List UnitCommand). Moves (commands_of s.tasks) (came_in one ++ flat_map came_in turns) z (ended_in one ++ flat_map ended_in turns) (commands_if end.fed (commands_of end.session.tasks)))
          (sym (map-append command_of_request first rest))
          (moves_on (commands_of s.tasks) (came_in one) (flat_map came_in turns) (map command_of_request first) (map command_of_request rest) (ended_in one) (flat_map ended_in turns)
          (commands_of turn.session.tasks) (commands_if end.fed (commands_of end.session.tasks))
          (subst (λ (f : Fed). Moves (commands_of s.tasks) (came_in one) (map command_of_request first) (ended_in one) (commands_if f (commands_of turn.session.tasks))) is m) more)

in_turn_stuck : (t : Target) (s : Session) (p : Pdu) (held : Held) → is_stuck (tasks_if (in_turn t s p held).fed (in_turn t s p held).session.tasks) ≡ true
in_turn_stuck t s p [] = served_stuck t (advanced s) p
in_turn_stuck t s p (None ∷ held) = served_stuck t (advanced s) p
in_turn_stuck t s p (Some next ∷ held) =
    go turn.fed (served_stuck t (advanced s) p) (in_turn_stuck (told t turn) (without_resets turn.session) next held) where
      turn : Turn
      turn = turn_of t (advanced s) p

      end : Received
      end = in_turn (told t turn) (without_resets turn.session) next held

      all : Fed → Received
      all f = followed f (received_turn t held turn) end

      go : (f : Fed) → is_stuck (tasks_if turn.fed turn.session.tasks) ≡ true → is_stuck (tasks_if end.fed end.session.tasks) ≡ true
          → is_stuck (tasks_if (all f).fed (all f).session.tasks) ≡ true
      go Closed m more = m
      go Going m more = more

-- a PDU that comes
pub received_moves : (place : Place) (t : Target) (s : Session) (held : Held) (p : Pdu)
    → Moves (commands_of s.tasks) (flat_map came_in (turns_at place t s held p)) (executed_at place t s held p) (ended_at place t s held p)
    (commands_if (received_at place t s held p).fed (commands_of (received_at place t s held p).session.tasks))
received_moves Now t s held p =
    with_nil_ended (commands_of s.tasks) (came_in (turned_at t s p) ++ []) (map command_of_request (turn_own t s p)) (ended_in (turned_at t s p) ++ [])
    (commands_if (turn_of t s p).fed (commands_of (turn_of t s p).session.tasks))
    (with_nil (commands_of s.tasks) (came_in (turned_at t s p)) (map command_of_request (turn_own t s p)) (ended_in (turned_at t s p))
    (commands_if (turn_of t s p).fed (commands_of (turn_of t s p).session.tasks)) (served_moves t s p))
received_moves InTurn t s held p =
    with_nil_ended (commands_of s.tasks) (flat_map came_in (in_turn_turns t s p held)) (map command_of_request (in_turn_own t s p held))
    (flat_map ended_in (in_turn_turns t s p held)) (commands_if (in_turn t s p held).fed (commands_of (in_turn t s p held).session.tasks)) (in_turn_moves t s p held)
received_moves (Early at) t s held p = go (is_held (slice_get held at)) where
  go : (b : Bool) → Moves (commands_of s.tasks) [] [] (if b then commands_of s.tasks else []) (commands_if (if b then Closed else Going) (commands_of s.tasks))
  go true = ends (commands_of s.tasks)
  go false = stays (commands_of s.tasks)
received_moves Outside t s held p = ends (commands_of s.tasks)

-- behind it the first that waits lacks data
pub received_stuck : (place : Place) (t : Target) (s : Session) (held : Held) (p : Pdu) → is_stuck s.tasks ≡ true
    → is_stuck (tasks_if (received_at place t s held p).fed (received_at place t s held p).session.tasks) ≡ true
received_stuck Now t s held p was = served_stuck t s p
received_stuck InTurn t s held p was = in_turn_stuck t s p held
received_stuck (Early at) t s held p was = go (is_held (slice_get held at)) where
  go : (b : Bool) → is_stuck (tasks_if (if b then Closed else Going) s.tasks) ≡ true
  go true = refl
  go false = was
received_stuck Outside t s held p was = refl
