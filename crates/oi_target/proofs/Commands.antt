-- Commands of all connections, one after another.
use Rattle.std.proofs.Common.{ℕ, ◌≡◌, ◌∙◌, Option, Some, None, List, [], ◌∷◌, ◌++◌, drop, length, map, take, refl, ap, sym, append-nil, append_assoc}
use Rattle.std.proofs.lemmas.List.{map-append}
use Rattle.std.specs.List.{flat_map}
use Rattle.oi_pdu.specs.declared.codec.Pdu.{Pdu}
use Rattle.oi_target.proofs.Courses.{courses_are_events}
use Rattle.oi_target.proofs.Joins.{each_units, learned_units, step_units, told_units}
use Rattle.oi_target.specs.Courses.{events_of}
use Rattle.oi_target.specs.Events.{Event, Joined, Left, Told, Whole, Malformed, happened, heard_of, state_after}
use Rattle.oi_target.specs.Runs.{AnswersAreReplies, CommandsInOrder, OwedAreReplies, event_requests, in_turn_requests, in_turn_sent, learned_requests, link_learned, link_requests, link_sent, owed_all, owed_by, owed_each, replies_of, requests_at, requests_of, reset_requests, sent_at, step_requests, step_sent, turn_others, turn_own, turn_requests, turn_sent}
use Rattle.oi_target.specs.Targets.{Reached, Target, aside, learned, link_of, reset_each}
use Rattle.oi_target.specs.Turns.{followed, in_turn, received_at, received_turn, told, turn_of}
use Rattle.oi_target.specs.declared.config.TargetConfig.{TargetConfig}
use Rattle.oi_target.specs.declared.link.Link.{Link}
use Rattle.oi_target.specs.Steps.{stepped}
use Rattle.oi_target.specs.declared.link.Standing.{Standing}
use Rattle.oi_target.specs.declared.link.Standing.TheVariants as standing
use Rattle.oi_target_session.proofs.Answered.{first_replies, later_replies, replies_are_sent}
use Rattle.oi_target_session.proofs.Executed.{joined_units}
use Rattle.oi_target_session.proofs.Wakes.{woken_in_order}
use Rattle.oi_target_session.specs.Arrivals.{Held, advanced, place_of}
use Rattle.oi_target_session.specs.Executions.{if_going, sent_if_going, served_sent}
use Rattle.oi_target_session.specs.Owing.{Owed, owed_pdus, paid, reply_owed}
use Rattle.oi_target_session.specs.Sessions.{Session, Turn, spared, without_resets}
use Rattle.oi_target_session.specs.declared.fed.Fed.{Fed}
use Rattle.oi_target_session.specs.declared.fed.Fed.TheVariants.{Going, Closed}
use Rattle.oi_target_session.specs.declared.place.Place.{Place}
use Rattle.oi_target_session.specs.declared.place.Place.TheVariants.{Now, InTurn, Early, Outside}
use Rattle.oi_target_session.specs.declared.reset.Reset.{Reset}
use Rattle.oi_units.specs.Runs.{Request, replies, units_after}
use Rattle.oi_units.specs.Units.{executed, fresh_unit}
use Rattle.oi_units.specs.declared.reply.UnitReply.{UnitReply}
use Rattle.oi_units.specs.declared.unit.LogicalUnit.{LogicalUnit}

link_units : (t : Target) (n : ℕ) (o : Option Link) (p : Pdu) → (heard_of t n o p).target.units ≡ units_after t.units (link_requests t n o p)
link_units t n None p = refl
link_units t n (Some l) p = step_units (aside n t) l.standing p

event_units : (t : Target) (e : Event) → (happened t e).target.units ≡ units_after t.units (event_requests t e)
event_units t (Joined n) = refl
event_units t (Left n) = refl
event_units t (Told listing) = refl
event_units t (Whole n p) = link_units t n (link_of n t.links) p
event_units t (Malformed n) = refl

units_at : (c : TargetConfig) (es : List Event) → (state_after c es).units ≡ units_after (map fresh_unit c.blocks) (requests_of c es)
units_at c [] = refl
units_at c (e ∷ es) =
    joined_units (map fresh_unit c.blocks) (state_after c es).units (state_after c (e ∷ es)).units (requests_of c es)
    (event_requests (state_after c es) e) (units_at c es) (event_units (state_after c es) e)

replies_join : (units : List LogicalUnit) (first second : List Request)
    → replies units (first ++ second) ≡ replies units first ++ replies (units_after units first) second
replies_join units [] second = refl
replies_join units (r ∷ rs) second =
    ap (λ (z : List UnitReply). (executed units r.nexus r.command r.payload).reply ∷ z)
    (replies_join (executed units r.nexus r.command r.payload).units rs second)

replies_at : (c : TargetConfig) (es : List Event) → replies_of c es ≡ replies (map fresh_unit c.blocks) (requests_of c es)
replies_at c [] = refl
replies_at c (e ∷ es) =
    ap (λ (z : List UnitReply). z ++ replies (state_after c es).units (event_requests (state_after c es) e)) (replies_at c es)
    ∙ ap (λ (u : List LogicalUnit). replies (map fresh_unit c.blocks) (requests_of c es) ++ replies u (event_requests (state_after c es) e)) (units_at c es)
    ∙ sym (replies_join (map fresh_unit c.blocks) (requests_of c es) (event_requests (state_after c es) e))

pub commands_in_order : CommandsInOrder
commands_in_order c calls numbered =
    (ap (λ (t : Target). t.units) (courses_are_events c calls numbered) ∙ units_at c (events_of calls), replies_at c (events_of calls))

-- a PDU whose turn it is: of the replies from it on the first ones are its own
turn_answers : (t : Target) (s : Session) (p : Pdu) → (turn_of t s p).sent ≡ turn_sent t s p (replies t.units (turn_requests t s p))
turn_answers t s p =
    replies_are_sent s t.units t.listing p
    ∙ sym (ap (λ (z : List UnitReply). served_sent s t.units t.listing p z) (first_replies t.units (turn_own t s p) (turn_others t s p)))

turn_answers_first : (t : Target) (s : Session) (p : Pdu) (later : List Request)
    → (turn_of t s p).sent ≡ turn_sent t s p (replies t.units (turn_requests t s p ++ later))
turn_answers_first t s p later =
    let own : List Request = turn_own t s p in
    replies_are_sent s t.units t.listing p
    ∙ sym (ap (λ (z : List UnitReply). served_sent s t.units t.listing p z)
    (ap (λ (z : List Request). take (length own) (replies t.units z)) (append_assoc own (turn_others t s p) later)
    ∙ first_replies t.units own (turn_others t s p ++ later)))

in_turn_answers : (t : Target) (s : Session) (p : Pdu) (held : Held)
    → (in_turn t s p held).sent ≡ in_turn_sent t s p held (replies t.units (in_turn_requests t s p held))
in_turn_answers t s p [] = turn_answers t (advanced s) p
in_turn_answers t s p (None ∷ held) = turn_answers t (advanced s) p
in_turn_answers t s p (Some next ∷ held) = go turn.fed (in_turn_answers after behind next held) where
  turn : Turn
  turn = turn_of t (advanced s) p

  after : Target
  after = told t turn

  behind : Session
  behind = without_resets turn.session

  first : List Request
  first = turn_requests t (advanced s) p

  rest : List Request
  rest = in_turn_requests after behind next held

  go : (f : Fed) → (in_turn after behind next held).sent ≡ in_turn_sent after behind next held (replies after.units rest)
      → (followed f (received_turn t held turn) (in_turn after behind next held)).sent
      ≡ turn_sent t (advanced s) p (replies t.units (first ++ if_going f rest))
      ++ sent_if_going f (in_turn_sent after behind next held (drop (length first) (replies t.units (first ++ if_going f rest))))
  go Closed was =
      turn_answers_first t (advanced s) p [] ∙ sym (append-nil (turn_sent t (advanced s) p (replies t.units (first ++ []))))
  go Going was =
      ap (λ (z : List Pdu). z ++ (in_turn after behind next held).sent) (turn_answers_first t (advanced s) p rest)
      ∙ ap (λ (z : List Pdu). turn_sent t (advanced s) p (replies t.units (first ++ rest)) ++ z)
      (was
      ∙ ap (λ (u : List LogicalUnit). in_turn_sent after behind next held (replies u rest)) (told_units t (advanced s) p)
      ∙ sym (ap (λ (z : List UnitReply). in_turn_sent after behind next held z) (later_replies t.units first rest)))

received_answers : (place : Place) (t : Target) (s : Session) (held : Held) (p : Pdu)
    → (received_at place t s held p).sent ≡ sent_at place t s held p (replies t.units (requests_at place t s held p))
received_answers Now t s held p = turn_answers t s p
received_answers InTurn t s held p = in_turn_answers t s p held
received_answers (Early at) t s held p = refl
received_answers Outside t s held p = refl

step_answers : (t : Target) (s : Standing) (p : Pdu) → (stepped t s p).sent ≡ step_sent t s p (replies t.units (step_requests t s p))
step_answers t (standing.LoggingIn login) p = refl
step_answers t (standing.Serving v) p =
    ap (λ (z : List Pdu). owed_pdus v.session v.owed ++ z)
    (received_answers (place_of v.session.discovers v.session.numbers.exp.0 p.head) t (paid v.session v.owed) v.held p)
step_answers t standing.Ended p = refl
step_answers t standing.Closed p = refl

link_answers : (t : Target) (n : ℕ) (o : Option Link) (p : Pdu) → (heard_of t n o p).sent ≡ link_sent t n o p (replies t.units (link_requests t n o p))
link_answers t n None p = refl
link_answers t n (Some l) p = step_answers (aside n t) l.standing p

pub answers_are_replies : AnswersAreReplies
answers_are_replies t (Joined n) = refl
answers_are_replies t (Left n) = refl
answers_are_replies t (Told listing) = refl
answers_are_replies t (Whole n p) = link_answers t n (link_of n t.links) p
answers_are_replies t (Malformed n) = refl

-- what is owed
owed_learned : (reset : Reset) (units : List LogicalUnit) (s : Standing) → map reply_owed (owed_by reset units s) ≡ replies units (learned_requests reset s)
owed_learned reset units (standing.LoggingIn p) = refl
owed_learned reset units (standing.Serving v) = (woken_in_order v.session.nexus units (spared reset v.session.tasks)).1
owed_learned reset units standing.Ended = refl
owed_learned reset units standing.Closed = refl

-- behind a first part
owed_join : (units after : List LogicalUnit) (owed more : List Owed) (first second : List Request)
    → after ≡ units_after units first → map reply_owed owed ≡ replies units first → map reply_owed more ≡ replies after second
    → map reply_owed (owed ++ more) ≡ replies units (first ++ second)
owed_join units after owed more first second is one rest =
    map-append reply_owed owed more
    ∙ ap (λ (z : List UnitReply). z ++ map reply_owed more) one
    ∙ ap (λ (z : List UnitReply). replies units first ++ z) (rest ∙ ap (λ (u : List LogicalUnit). replies u second) is)
    ∙ sym (replies_join units first second)

owed_each_are : (reset : Reset) (units : List LogicalUnit) (ls : List Link)
    → map reply_owed (owed_each reset units ls) ≡ replies units (flat_map (link_learned reset) ls)
owed_each_are reset units [] = refl
owed_each_are reset units (l ∷ ls) =
    let after : List LogicalUnit = (learned reset units l.standing).units in
    owed_join units after (owed_by reset units l.standing) (owed_each reset after ls) (link_learned reset l) (flat_map (link_learned reset) ls)
    (learned_units reset units l.standing) (owed_learned reset units l.standing) (owed_each_are reset after ls)

pub owed_are_replies : OwedAreReplies
owed_are_replies [] units ls = refl
owed_are_replies (reset ∷ resets) units ls =
    let all : Reached = reset_each reset units ls in
    owed_join units all.units (owed_each reset units ls) (owed_all resets all.units all.links) (flat_map (link_learned reset) ls)
    (reset_requests resets all.units all.links) (each_units reset units ls) (owed_each_are reset units ls)
    (owed_are_replies resets all.units all.links)
