-- PDUs of a connection one after another, and the commands that they let the units execute.
use Rattle.std.specs.Prelude.{◌≡◌, ℕ, Option, Some, None, List, [], ◌∷◌, ◌++◌, drop, length, map, take}
use Rattle.std.specs.List.{flat_map}
use Rattle.oi_pdu.specs.declared.codec.Pdu.{Pdu}
use Rattle.oi_target.specs.Courses.{AreNumbered, Call, course, events_of}
use Rattle.oi_target.specs.Events.{Event, Whole, happened, state_after}
use Rattle.oi_target.specs.Steps.{one_then, stepped, steps}
use Rattle.oi_target.specs.Targets.{Target, aside, learned, link_of, reset_each}
use Rattle.oi_target.specs.Turns.{told, turn_of}
use Rattle.oi_target.specs.declared.config.TargetConfig.{TargetConfig}
use Rattle.oi_target.specs.declared.link.Link.{Link}
use Rattle.oi_target.specs.declared.link.Standing.{Standing}
use Rattle.oi_target.specs.declared.link.Standing.TheVariants as standing
use Rattle.oi_target_session.specs.Arrivals.{Held, advanced, place_of}
use Rattle.oi_target_session.specs.Executions.{if_going, sent_if_going, served_requests, served_sent}
use Rattle.oi_target_session.specs.Owing.{Owed, owed_pdus, paid, reply_owed, woken}
use Rattle.oi_target_session.specs.Runs.{ready, request_of}
use Rattle.oi_target_session.specs.Sessions.{Session, spared, without_resets}
use Rattle.oi_target_session.specs.declared.place.Place.{Place}
use Rattle.oi_target_session.specs.declared.place.Place.TheVariants.{Now, InTurn, Early, Outside}
use Rattle.oi_target_session.specs.declared.reset.Reset.{Reset}
use Rattle.oi_units.specs.Runs.{Request, replies, units_after}
use Rattle.oi_units.specs.Units.{fresh_unit}
use Rattle.oi_units.specs.declared.reply.UnitReply.{UnitReply}
use Rattle.oi_units.specs.declared.unit.LogicalUnit.{LogicalUnit}

-- PDUs in two parts come to the same as in one
abbrev pub StepsJoin : Type 0
StepsJoin =
    (t : Target) (s : Standing) (ps qs : List Pdu)
    → steps t s (ps ++ qs) ≡ one_then (steps t s ps).fed (steps t s ps) (steps (steps t s ps).target (steps t s ps).standing qs)

-- the requests that a reset lets the units execute for another session
abbrev pub learned_requests : Reset → Standing → List Request
learned_requests reset (standing.Serving v) = map (request_of v.session.nexus) (ready (spared reset v.session.tasks))
learned_requests reset s = []

-- for all others
abbrev pub link_learned : Reset → Link → List Request
link_learned reset l = learned_requests reset l.standing

abbrev pub reset_requests : List Reset → List LogicalUnit → List Link → List Request
reset_requests [] units links = []
reset_requests (reset ∷ resets) units links =
    flat_map (link_learned reset) links
    ++ reset_requests resets (reset_each reset units links).units (reset_each reset units links).links

-- those of a PDU whose turn it is: for its own session, and for the others by its reset, in the order of execution
abbrev pub turn_own : Target → Session → Pdu → List Request
turn_own t s p = served_requests s t.units t.listing p

abbrev pub turn_others : Target → Session → Pdu → List Request
turn_others t s p = reset_requests (turn_of t s p).session.resets (turn_of t s p).units t.links

abbrev pub turn_requests : Target → Session → Pdu → List Request
turn_requests t s p = turn_own t s p ++ turn_others t s p

-- with those of the PDUs that were held and follow it at once
abbrev pub in_turn_requests : Target → Session → Pdu → Held → List Request
in_turn_requests t s p [] = turn_requests t (advanced s) p
in_turn_requests t s p (None ∷ held) = turn_requests t (advanced s) p
in_turn_requests t s p (Some next ∷ held) =
    turn_requests t (advanced s) p
    ++ if_going (turn_of t (advanced s) p).fed
    (in_turn_requests (told t (turn_of t (advanced s) p)) (without_resets (turn_of t (advanced s) p).session) next held)

abbrev pub requests_at : Place → Target → Session → Held → Pdu → List Request
requests_at Now t s held p = turn_requests t s p
requests_at InTurn t s held p = in_turn_requests t s p held
requests_at (Early at) t s held p = []
requests_at Outside t s held p = []

-- all requests that a PDU lets the units execute, in the order of execution
abbrev pub step_requests : Target → Standing → Pdu → List Request
step_requests t (standing.Serving v) pdu =
    requests_at (place_of v.session.discovers v.session.numbers.exp.0 pdu.head) t (paid v.session v.owed) v.held pdu
step_requests t s pdu = []

-- of PDUs, up to the one that closes the connection
abbrev pub steps_requests : Target → Standing → List Pdu → List Request
steps_requests t s [] = []
steps_requests t s (p ∷ ps) =
    step_requests t s p ++ if_going (stepped t s p).fed (steps_requests (stepped t s p).target (stepped t s p).standing ps)

-- the units after PDUs are those after these requests, one after another: nothing else changes them
abbrev pub StepsExecute : Type 0
StepsExecute = (t : Target) (s : Standing) (ps : List Pdu) → (steps t s ps).target.units ≡ units_after t.units (steps_requests t s ps)

-- what is owed to sessions by resets, in the same order
abbrev pub owed_by : Reset → List LogicalUnit → Standing → List Owed
owed_by reset units (standing.Serving v) = (woken v.session.nexus units (spared reset v.session.tasks)).owed
owed_by reset units s = []

abbrev pub owed_each : Reset → List LogicalUnit → List Link → List Owed
owed_each reset units [] = []
owed_each reset units (l ∷ ls) = owed_by reset units l.standing ++ owed_each reset (learned reset units l.standing).units ls

abbrev pub owed_all : List Reset → List LogicalUnit → List Link → List Owed
owed_all [] units links = []
owed_all (reset ∷ resets) units links =
    owed_each reset units links ++ owed_all resets (reset_each reset units links).units (reset_each reset units links).links

-- the replies that are owed are those of the units to these requests, one after another
abbrev pub OwedAreReplies : Type 0
OwedAreReplies =
    (resets : List Reset) (units : List LogicalUnit) (links : List Link)
    → map reply_owed (owed_all resets units links) ≡ replies units (reset_requests resets units links)

-- of an event
abbrev pub link_requests : Target → ℕ → Option Link → Pdu → List Request
link_requests t n None p = []
link_requests t n (Some l) p = step_requests (aside n t) l.standing p

abbrev pub event_requests : Target → Event → List Request
event_requests t (Whole n p) = link_requests t n (link_of n t.links) p
event_requests t e = []

-- all requests since the target was made, of all connections, in the order of execution
abbrev pub requests_of : TargetConfig → List Event → List Request
requests_of c [] = []
requests_of c (e ∷ es) = requests_of c es ++ event_requests (state_after c es) e

-- and the replies to them, each of the units as they stood then
abbrev pub replies_of : TargetConfig → List Event → List UnitReply
replies_of c [] = []
replies_of c (e ∷ es) = replies_of c es ++ replies (state_after c es).units (event_requests (state_after c es) e)

-- over all calls so far: the units are those after these requests, one after another, and the replies are those of units that were asked
-- nothing else
abbrev pub CommandsInOrder : Type 0
CommandsInOrder =
    (c : TargetConfig) (calls : List Call) → AreNumbered calls
    → ((course c calls).units ≡ units_after (map fresh_unit c.blocks) (requests_of c (events_of calls)))
    × (replies_of c (events_of calls) ≡ replies (map fresh_unit c.blocks) (requests_of c (events_of calls)))

-- those for the session of the PDU itself
abbrev pub in_turn_own : Target → Session → Pdu → Held → List Request
in_turn_own t s p [] = turn_own t (advanced s) p
in_turn_own t s p (None ∷ held) = turn_own t (advanced s) p
in_turn_own t s p (Some next ∷ held) =
    turn_own t (advanced s) p
    ++ if_going (turn_of t (advanced s) p).fed
    (in_turn_own (told t (turn_of t (advanced s) p)) (without_resets (turn_of t (advanced s) p).session) next held)

abbrev pub own_at : Place → Target → Session → Held → Pdu → List Request
own_at Now t s held p = turn_own t s p
own_at InTurn t s held p = in_turn_own t s p held
own_at (Early at) t s held p = []
own_at Outside t s held p = []

abbrev pub own_requests : Target → Standing → Pdu → List Request
own_requests t (standing.Serving v) pdu =
    own_at (place_of v.session.discovers v.session.numbers.exp.0 pdu.head) t (paid v.session v.owed) v.held pdu
own_requests t s pdu = []

abbrev pub link_own : Target → ℕ → Option Link → Pdu → List Request
link_own t n None p = []
link_own t n (Some l) p = own_requests (aside n t) l.standing p

abbrev pub event_own : Target → Event → List Request
event_own t (Whole n p) = link_own t n (link_of n t.links) p
event_own t e = []

-- what a PDU whose turn it is makes the target send, where these are the replies of the units to the requests from it on
abbrev pub turn_sent : Target → Session → Pdu → List UnitReply → List Pdu
turn_sent t s p rs = served_sent s t.units t.listing p (take (length (turn_own t s p)) rs)

abbrev pub in_turn_sent : Target → Session → Pdu → Held → List UnitReply → List Pdu
in_turn_sent t s p [] rs = turn_sent t (advanced s) p rs
in_turn_sent t s p (None ∷ held) rs = turn_sent t (advanced s) p rs
in_turn_sent t s p (Some next ∷ held) rs =
    turn_sent t (advanced s) p rs
    ++ sent_if_going (turn_of t (advanced s) p).fed
    (in_turn_sent (told t (turn_of t (advanced s) p)) (without_resets (turn_of t (advanced s) p).session) next held
    (drop (length (turn_requests t (advanced s) p)) rs))

abbrev pub sent_at : Place → Target → Session → Held → Pdu → List UnitReply → List Pdu
sent_at Now t s held p rs = turn_sent t s p rs
sent_at InTurn t s held p rs = in_turn_sent t s p held rs
sent_at (Early at) t s held p rs = []
sent_at Outside t s held p rs = []

-- first what was owed
abbrev pub step_sent : Target → Standing → Pdu → List UnitReply → List Pdu
step_sent t (standing.Serving v) pdu rs =
    owed_pdus v.session v.owed
    ++ sent_at (place_of v.session.discovers v.session.numbers.exp.0 pdu.head) t (paid v.session v.owed) v.held pdu rs
step_sent t s pdu rs = (stepped t s pdu).sent

abbrev pub link_sent : Target → ℕ → Option Link → Pdu → List UnitReply → List Pdu
link_sent t n None p rs = []
link_sent t n (Some l) p rs = step_sent (aside n t) l.standing p rs

abbrev pub event_sent : Target → Event → List UnitReply → List Pdu
event_sent t (Whole n p) rs = link_sent t n (link_of n t.links) p rs
event_sent t e rs = []

-- the replies that are sent for each event are what was owed and the units' at that point: the answers to commands are those of the sequence
-- of all requests, each at the place of its command
abbrev pub AnswersAreReplies : Type 0
AnswersAreReplies = (t : Target) (e : Event) → (happened t e).sent ≡ event_sent t e (replies t.units (event_requests t e))
