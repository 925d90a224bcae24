-- Commands come in the order of their CmdSN (RFC 7143, section 4.2.2.1). A PDU that is early is held until those before it
-- came; one outside the window, and one whose number came before, closes the connection.
use Rattle.std.specs.Prelude.{ℕ, suc, ◌-◌, Bool, false, not, ◌||◌, Option, Some, None, is_some, List, ◌++◌, length, replicate, slice_set, ◌==◌, nat_lt, if◌then◌else◌}
use Rattle.std.specs.List.{slice_get}
use Rattle.oi_base.specs.Serials.{distance, successor}
use Rattle.oi_pdu.specs.declared.codec.Pdu.{Pdu}
use Rattle.oi_pdu.specs.declared.header.Header.{Header}
use Rattle.oi_pdu.specs.declared.header.Header.TheVariants as head
use Rattle.oi_target_session.specs.Sessions.{Session}
use Rattle.oi_target_session.specs.declared.fed.Fed.{Fed}
use Rattle.oi_target_session.specs.declared.fed.Fed.TheVariants.{Going, Closed}
use Rattle.oi_target_session.specs.declared.place.Place.{Place}
use Rattle.oi_target_session.specs.declared.place.Place.TheVariants.{Now, InTurn, Early, Outside}

-- the window holds 32 numbers
abbrev pub window : ℕ
window = 32

-- a PDU that takes a number, by how far that is ahead of the one that is expected
abbrev pub place_ahead : ℕ → Place
place_ahead ahead = if ahead == 0 then InTurn else (if nat_lt ahead window then Early (ahead - 1) else Outside)

-- immediate PDUs take no number
abbrev pub place_by : ℕ → Bool → ℕ → Place
place_by exp immediate number = if immediate then Now else place_ahead (distance exp number)

-- Data-Out has no number. A PDU that has no place in the session closes the connection at once: commands and task management in
-- a discovery, a Text Request in a normal session, and all others
abbrev pub place_of : Bool → ℕ → Header → Place
place_of discovers exp (head.NopOut h) = place_by exp h.immediate h.cmdsn.0
place_of discovers exp (head.ScsiCommand h) = place_by exp (h.immediate || discovers) h.cmdsn.0
place_of discovers exp (head.TaskManagement h) = place_by exp (h.immediate || discovers) h.cmdsn.0
place_of discovers exp (head.LogoutRequest h) = place_by exp h.immediate h.cmdsn.0
place_of discovers exp (head.TextRequest h) = place_by exp (h.immediate || not discovers) h.cmdsn.0
place_of discovers exp h = Now

-- the PDUs that are held, by how far they are behind the next one; None where none came yet
abbrev pub Held : Type 0
Held = List (Option Pdu)

-- the number that is expected came
abbrev pub advanced : Session → Session
advanced s = record s { numbers = record { exp = record { 0 = successor s.numbers.exp.0 }; stat = s.numbers.stat } }

-- the places up to this one are there
abbrev pub padded : ℕ → Held → Held
padded at held = held ++ replicate (suc at - length held) None

abbrev pub is_held : Option (Option Pdu) → Bool
is_held None = false
is_held (Some slot) = is_some slot

-- an early PDU is put in its place. A second one with its number is not held, and closes the connection
abbrev pub held_with : ℕ → Held → Pdu → Held
held_with at held p = if is_held (slice_get held at) then held else slice_set (padded at held) at (Some p)

abbrev pub held_fed : ℕ → Held → Fed
held_fed at held = if is_held (slice_get held at) then Closed else Going
