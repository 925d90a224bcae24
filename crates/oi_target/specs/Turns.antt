-- What becomes of a PDU that came in the session of a connection, and of those that were held and follow it at once. All other sessions
-- learn of a reset before the next PDU has its turn.
use Rattle.std.specs.Prelude.{Some, None, List, [], ◌∷◌, ◌++◌}
use Rattle.oi_pdu.specs.declared.codec.Pdu.{Pdu}
use Rattle.oi_target.specs.Targets.{Reached, Target, reset_links}
use Rattle.oi_target_session.specs.Arrivals.{Held, advanced, held_fed, held_with, place_of}
use Rattle.oi_target_session.specs.Sessions.{Session, Turn, served, without_resets}
use Rattle.oi_target_session.specs.declared.fed.Fed.{Fed}
use Rattle.oi_target_session.specs.declared.fed.Fed.TheVariants.{Going, Closed}
use Rattle.oi_target_session.specs.declared.place.Place.{Place}
use Rattle.oi_target_session.specs.declared.place.Place.TheVariants.{Now, InTurn, Early, Outside}
use Rattle.oi_target_session.specs.declared.reset.Reset.{Reset}

-- the target and the session afterwards, what is held still, the resets that the others were told of, what is sent, and whether the
-- connection stays
pub record Received : Type 0 where
  pub target : Target
  pub session : Session
  pub held : Held
  pub resets : List Reset
  pub sent : List Pdu
  pub fed : Fed

abbrev pub reached : Target → Reached → Target
reached t r = record t { units = r.units; links = r.links }

-- a PDU whose turn it is, before the others are told of its reset
abbrev pub turn_of : Target → Session → Pdu → Turn
turn_of t s p = served s t.units t.listing p

abbrev pub told : Target → Turn → Target
told t turn = reached t (reset_links turn.session.resets turn.units t.links)

abbrev pub received_turn : Target → Held → Turn → Received
received_turn t held turn = record {
  target = told t turn;
  session = without_resets turn.session;
  held = held;
  resets = turn.session.resets;
  sent = turn.sent;
  fed = turn.fed;
}

abbrev pub ahead_of : Received → Received → Received
ahead_of one rest = record {
  target = rest.target;
  session = rest.session;
  held = rest.held;
  resets = one.resets ++ rest.resets;
  sent = one.sent ++ rest.sent;
  fed = rest.fed;
}

-- where the connection stays
abbrev pub followed : Fed → Received → Received → Received
followed Closed one rest = one
followed Going one rest = ahead_of one rest

-- PDUs in turn: those that are held and follow it at once have theirs behind it
abbrev pub in_turn : Target → Session → Pdu → Held → Received
in_turn t s p [] = received_turn t [] (turn_of t (advanced s) p)
in_turn t s p (None ∷ held) = received_turn t held (turn_of t (advanced s) p)
in_turn t s p (Some next ∷ held) =
    followed (turn_of t (advanced s) p).fed (received_turn t held (turn_of t (advanced s) p))
    (in_turn (told t (turn_of t (advanced s) p)) (without_resets (turn_of t (advanced s) p).session) next held)

abbrev pub unmoved : Target → Session → Held → Fed → Received
unmoved t s held fed = record { target = t; session = s; held = held; resets = []; sent = []; fed = fed }

abbrev pub received_at : Place → Target → Session → Held → Pdu → Received
received_at Now t s held p = received_turn t held (turn_of t s p)
received_at InTurn t s held p = in_turn t s p held
received_at (Early at) t s held p = unmoved t s (held_with at held p) (held_fed at held)
received_at Outside t s held p = unmoved t s held Closed

abbrev pub received : Target → Session → Held → Pdu → Received
received t s held p = received_at (place_of s.discovers s.numbers.exp.0 p.head) t s held p
