-- No PDU of a session is lost on the way to its turn, and none has two.
use Rattle.std.specs.Prelude.{◌≡◌, ◌+◌, ℕ, Bool, Option, Some, None, List, [], ◌∷◌, ◌++◌, count_by, map, option_to_list, ◌==◌, if◌then◌else◌}
use Rattle.std.specs.List.{flat_map}
use Rattle.oi_pdu.specs.declared.codec.Pdu.{Pdu}
use Rattle.oi_target.specs.Events.{Event, Whole, state_after}
use Rattle.oi_target.specs.declared.config.TargetConfig.{TargetConfig}
use Rattle.oi_target.specs.declared.link.Serving.{Serving}
use Rattle.oi_target.specs.declared.link.Standing.TheVariants as standing
use Rattle.oi_target_laws.specs.Histories.{standing_in}
use Rattle.oi_target_laws.specs.Numbers.{event_opened, session_turns}
use Rattle.oi_target_laws.specs.Turned.{Turned}
use Rattle.oi_target_session.specs.Arrivals.{Held}

-- the PDU that comes on connection n as an event happens
abbrev pub event_pdus : ℕ → Event → List Pdu
event_pdus n (Whole m p) = if m == n then p ∷ [] else []
event_pdus n e = []

-- that with which a session opens is none of the session's
abbrev pub came_since : Option ℕ → List Pdu → List Pdu → List Pdu
came_since None was new = was ++ new
came_since (Some first) was new = []

-- the PDUs that came since the newest session of a connection was opened, in order
abbrev pub session_pdus : ℕ → TargetConfig → List Event → List Pdu
session_pdus n c [] = []
session_pdus n c (e ∷ es) = came_since (event_opened n (state_after c es) e) (session_pdus n c es) (event_pdus n e)

-- those that are held until the ones before them come
abbrev pub held_pdus : Held → List Pdu
held_pdus held = flat_map option_to_list held

-- those that had their turn
abbrev pub pdu_of : Turned → Pdu
pdu_of t = t.pdu

abbrev pub pdus_of : List Turned → List Pdu
pdus_of turns = map pdu_of turns

-- each PDU that came on a session had its turn once, or is held, whatever is counted
abbrev pub EachHasItsTurn : Type 0
EachHasItsTurn =
    (n : ℕ) (c : TargetConfig) (es : List Event) (v : Serving) (f : Pdu → Bool) → standing_in n (state_after c es).links ≡ standing.Serving v
    → count_by f (session_pdus n c es) ≡ count_by f (pdus_of (session_turns n c es)) + count_by f (held_pdus v.held)
