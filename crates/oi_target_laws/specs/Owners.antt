-- Whose the requests to the units are, in the order of execution, and what a connection is owed: the replies to those of its commands that
-- PDUs of other connections let be executed.
use Rattle.std.specs.Prelude.{◌≡◌, ℕ, Option, Some, None, List, [], ◌∷◌, ◌++◌, map, ◌==◌, if◌then◌else◌}
use Rattle.std.specs.List.{flat_map}
use Rattle.oi_pdu.specs.declared.codec.Pdu.{Pdu}
use Rattle.oi_target.specs.Events.{Event, Whole, state_after}
use Rattle.oi_target.specs.Runs.{event_requests, link_learned, turn_own}
use Rattle.oi_target.specs.Targets.{Target, aside, link_of, reset_each}
use Rattle.oi_target.specs.Turns.{told, turn_of}
use Rattle.oi_target.specs.declared.config.TargetConfig.{TargetConfig}
use Rattle.oi_target.specs.declared.link.Link.{Link}
use Rattle.oi_target.specs.declared.link.Standing.{Standing}
use Rattle.oi_target.specs.declared.link.Standing.TheVariants as standing
use Rattle.oi_target_laws.specs.Histories.{executed_on, standing_in}
use Rattle.oi_target_laws.specs.Turned.{command_of_request}
use Rattle.oi_target_session.specs.Arrivals.{Held, advanced, place_of}
use Rattle.oi_target_session.specs.Owing.{paid, reply_owed}
use Rattle.oi_target_session.specs.Sessions.{Session, without_resets}
use Rattle.oi_target_session.specs.declared.fed.Fed.{Fed}
use Rattle.oi_target_session.specs.declared.fed.Fed.TheVariants.{Going, Closed}
use Rattle.oi_target_session.specs.declared.place.Place.{Place}
use Rattle.oi_target_session.specs.declared.place.Place.TheVariants.{Now, InTurn, Early, Outside}
use Rattle.oi_target_session.specs.declared.reset.Reset.{Reset}
use Rattle.oi_units.specs.Runs.{Request, replies}
use Rattle.oi_units.specs.declared.reply.UnitReply.{UnitReply}
use Rattle.oi_units.specs.declared.unit.LogicalUnit.{LogicalUnit}

-- this number for each of the requests
abbrev pub each_of : ℕ → List Request → List ℕ
each_of n requests = map (λ r. n) requests

-- of those that a reset lets the units execute for another session
abbrev pub link_owners : Reset → Link → List ℕ
link_owners reset l = each_of l.number (link_learned reset l)

-- for all others
abbrev pub reset_owners : List Reset → List LogicalUnit → List Link → List ℕ
reset_owners [] units links = []
reset_owners (reset ∷ resets) units links =
    flat_map (link_owners reset) links ++ reset_owners resets (reset_each reset units links).units (reset_each reset units links).links

-- as a PDU of connection m has its turn
abbrev pub turn_owners : ℕ → Target → Session → Pdu → List ℕ
turn_owners m t s p = each_of m (turn_own t s p) ++ reset_owners (turn_of t s p).session.resets (turn_of t s p).units t.links

-- where the connection stays
abbrev pub owners_if : Fed → List ℕ → List ℕ
owners_if Closed owners = []
owners_if Going owners = owners

-- with those of the PDUs that were held and follow it at once
abbrev pub in_turn_owners : ℕ → Target → Session → Pdu → Held → List ℕ
in_turn_owners m t s p [] = turn_owners m t (advanced s) p
in_turn_owners m t s p (None ∷ held) = turn_owners m t (advanced s) p
in_turn_owners m t s p (Some next ∷ held) =
    turn_owners m t (advanced s) p
    ++ owners_if (turn_of t (advanced s) p).fed
    (in_turn_owners m (told t (turn_of t (advanced s) p)) (without_resets (turn_of t (advanced s) p).session) next held)

abbrev pub owners_at : ℕ → Place → Target → Session → Held → Pdu → List ℕ
owners_at m Now t s held p = turn_owners m t s p
owners_at m InTurn t s held p = in_turn_owners m t s p held
owners_at m (Early at) t s held p = []
owners_at m Outside t s held p = []

abbrev pub step_owners : ℕ → Target → Standing → Pdu → List ℕ
step_owners m t (standing.Serving v) pdu =
    owners_at m (place_of v.session.discovers v.session.numbers.exp.0 pdu.head) t (paid v.session v.owed) v.held pdu
step_owners m t s pdu = []

-- of a connection that is there
abbrev pub owners_by : ℕ → Target → Option Link → Pdu → List ℕ
owners_by m t None p = []
owners_by m t (Some l) p = step_owners m (aside m t) l.standing p

-- of all requests of an event
abbrev pub event_owners : Target → Event → List ℕ
event_owners t (Whole m p) = owners_by m t (link_of m t.links) p
event_owners t e = []

-- what belongs to the requests of one connection
abbrev pub chosen : {A : Type 0} → ℕ → List ℕ → List A → List A
chosen n [] xs = []
chosen n (k ∷ ks) [] = []
chosen n (k ∷ ks) (x ∷ xs) = if k == n then x ∷ chosen n ks xs else chosen n ks xs

-- the requests of its commands, with their nexus and their data
abbrev pub requests_on : ℕ → TargetConfig → List Event → List Request
requests_on n c [] = []
requests_on n c (e ∷ es) = requests_on n c es ++ chosen n (event_owners (state_after c es) e) (event_requests (state_after c es) e)

-- they are its commands that are executed: all of them, in order
abbrev pub ExecutedAreOwned : Type 0
ExecutedAreOwned = (n : ℕ) (c : TargetConfig) (es : List Event) → map command_of_request (requests_on n c es) ≡ executed_on n c es

-- the initiator port of a session
abbrev pub nexus_at : Standing → List ℕ
nexus_at (standing.Serving v) = v.session.nexus
nexus_at s = []

-- these requests are made for it
abbrev pub AreFor : List ℕ → List Request → Type 0
AreFor nexus [] = Unit {0}
AreFor nexus (r ∷ rs) = (r.nexus ≡ nexus) × AreFor nexus rs

-- the requests of a connection are made for the initiator port of its session, whose reservations decide
abbrev pub RequestsHavePort : Type 0
RequestsHavePort =
    (n : ℕ) (c : TargetConfig) (es : List Event) (e : Event)
    → AreFor (nexus_at (standing_in n (state_after c es).links)) (chosen n (event_owners (state_after c es) e) (event_requests (state_after c es) e))

-- those that an event gives to a connection
abbrev pub event_replies : ℕ → Target → Event → List UnitReply
event_replies n t e = chosen n (event_owners t e) (replies t.units (event_requests t e))

-- the replies that a connection is owed
abbrev pub owed_at : Standing → List UnitReply
owed_at (standing.Serving v) = map reply_owed v.owed
owed_at s = []

-- nothing is owed behind its session
abbrev pub while_served : Standing → List UnitReply → List UnitReply
while_served (standing.Serving v) rs = rs
while_served s rs = []

-- a PDU of its own leaves nothing that is owed; one of another connection adds to it
abbrev pub awaited_by : ℕ → Target → Event → List UnitReply → List UnitReply
awaited_by n t (Whole m p) before = if m == n then [] else before ++ event_replies n t (Whole m p)
awaited_by n t e before = before

-- the replies to those of its commands that were executed since its own last PDU
abbrev pub awaited_on : ℕ → TargetConfig → List Event → List UnitReply
awaited_on n c [] = []
awaited_on n c (e ∷ es) =
    while_served (standing_in n (state_after c (e ∷ es)).links) (awaited_by n (state_after c es) e (awaited_on n c es))

-- just these are owed, each once and in the order of execution
abbrev pub OwedAreAwaited : Type 0
OwedAreAwaited = (n : ℕ) (c : TargetConfig) (es : List Event) → owed_at (standing_in n (state_after c es).links) ≡ awaited_on n c es
