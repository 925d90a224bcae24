-- A target as a function of what came to it: connections, PDUs in the order in which they became whole, and listings. No bytes are
-- kept of a connection.
use Rattle.std.specs.Prelude.{ℕ, Option, Some, None, List, [], ◌∷◌, ◌++◌, map, ◌==◌, if◌then◌else◌}
use Rattle.oi_pdu.specs.declared.codec.Pdu.{Pdu}
use Rattle.oi_sendtargets.specs.declared.found.Found.{Found}
use Rattle.oi_target.specs.Feeding.{put_back, with_new}
use Rattle.oi_target.specs.Steps.{Step, stepped}
use Rattle.oi_target.specs.Targets.{Target, aside, link_at, link_of, new_target, no_bytes, with_links, without}
use Rattle.oi_target.specs.declared.config.TargetConfig.{TargetConfig}
use Rattle.oi_target.specs.declared.link.Link.{Link}
use Rattle.oi_target.specs.declared.link.Standing.{Standing}
use Rattle.oi_target.specs.declared.link.Standing.TheVariants as standing

-- a connection was accepted, is gone, or had a PDU that became whole or one that is malformed; a listing was given
pub data Event : Type 0 where
  Joined : (n : ℕ) → Event
  Left : (n : ℕ) → Event
  Told : (listing : List Found) → Event
  Whole : (n : ℕ) → (pdu : Pdu) → Event
  Malformed : (n : ℕ) → Event

-- bytes have no effect on a connection whose session was ended, as on a closed one
abbrev pub shut : Standing → Standing
shut standing.Ended = standing.Closed
shut s = s

abbrev pub bare_link : Link → Link
bare_link l = link_at l.number no_bytes (shut l.standing)

abbrev pub bare : Target → Target
bare t = with_links t (map bare_link t.links)

-- the target afterwards, and what is sent on the connection
pub record Happened : Type 0 where
  pub target : Target
  pub sent : List Pdu

abbrev pub silently : Target → Happened
silently t = record { target = t; sent = [] }

abbrev pub heard : ℕ → Step → Happened
heard n s = record { target = bare (put_back n no_bytes s); sent = s.sent }

abbrev pub heard_of : Target → ℕ → Option Link → Pdu → Happened
heard_of t n None p = silently t
heard_of t n (Some l) p = heard n (stepped (aside n t) l.standing p)

abbrev pub happened : Target → Event → Happened
happened t (Joined n) = silently (with_new t n)
happened t (Left n) = silently (with_links t (without n t.links))
happened t (Told listing) = silently (record t { listing = listing })
happened t (Whole n p) = heard_of t n (link_of n t.links) p
happened t (Malformed n) = silently (aside n t)

-- the target after events, of which the newest stands first
abbrev pub state_after : TargetConfig → List Event → Target
state_after c [] = new_target c
state_after c (e ∷ es) = (happened (state_after c es) e).target

-- what they make the target send on a connection
abbrev pub sent_to : ℕ → TargetConfig → List Event → List Pdu
sent_to k c [] = []
sent_to k c (Whole n p ∷ es) = sent_to k c es ++ (if n == k then (happened (state_after c es) (Whole n p)).sent else [])
sent_to k c (e ∷ es) = sent_to k c es

-- the PDUs of a connection since it was accepted, in the order in which they became whole
abbrev pub pdus_on : ℕ → List Event → List Pdu
pdus_on k [] = []
pdus_on k (Joined n ∷ es) = if n == k then [] else pdus_on k es
pdus_on k (Whole n p ∷ es) = if n == k then pdus_on k es ++ p ∷ [] else pdus_on k es
pdus_on k (e ∷ es) = pdus_on k es
