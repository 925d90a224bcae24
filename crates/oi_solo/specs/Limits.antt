-- How full the two halves of a history are, and when a call would pass their limits. A half has the entries that need its
-- lock, and keeps the payloads of their requests and PDUs.
use Rattle.std.specs.Prelude.{◌≡◌, ◌⊎◌, ℕ, Bool, not, ◌==◌, ◌+◌, ◌-◌, ◌||◌, ◌&&◌, List, [], ◌∷◌, Option, Some, None, length, nat_lt, if◌then◌else◌}
use Rattle.oi_history.specs.Courses.{is_fail_fast}
use Rattle.oi_history.specs.Locks.{is_receiving, is_sending}
use Rattle.oi_history.specs.Meanings.{Meanings, meanings}
use Rattle.oi_history.specs.declared.config.SessionConfig.{SessionConfig}
use Rattle.oi_history.specs.declared.event.Event.{Event}
use Rattle.oi_history.specs.declared.event.Event.TheVariants.{Submit, PduIn}
use Rattle.oi_history.specs.declared.event.Numbered.{Numbered}
use Rattle.oi_scsi.specs.declared.request.Kind.{Kind}
use Rattle.oi_scsi.specs.Requests.{reserve_out_length}
use Rattle.oi_scsi.specs.declared.request.Kind.TheVariants.{ReserveOut, Write}
use Rattle.oi_solo.specs.Sessions.{Session, entered_all}
use Rattle.oi_solo.specs.declared.load.Load.{Load}

-- the bytes that a request writes and that are kept with it
abbrev pub payload_of : Kind → ℕ
payload_of (Write lba blocks payload) = length payload
payload_of (ReserveOut action form key new_key) = reserve_out_length
payload_of k = 0

abbrev pub kept_bytes : Event → ℕ
kept_bytes (Submit id request) = payload_of request.kind
kept_bytes (PduIn generation pdu) = length pdu.payload
kept_bytes e = 0

abbrev pub loaded : Bool → Event → Load → Load
loaded covers e l = if covers then record { steps = l.steps + 1; kept = l.kept + kept_bytes e } else l

-- an entry behind these meanings needs the lock of the half that receives
abbrev pub needs_receiving : Meanings → Event → Bool
needs_receiving m e = is_receiving (is_fail_fast m.phase) m.told.pending e

-- entries and bytes of the half that sends, and of the half that receives
abbrev pub sending_load : List Numbered → Load
sending_load [] = record { steps = 0; kept = 0 }
sending_load (n ∷ H) = loaded (is_sending n.event) n.event (sending_load H)

abbrev pub receiving_load : SessionConfig → List Numbered → Load
receiving_load C [] = record { steps = 0; kept = 0 }
receiving_load C (n ∷ H) = loaded (needs_receiving (meanings C H) n.event) n.event (receiving_load C H)

-- a half gets entries, and passes its limits by them; sixteen entries are kept back for the end
abbrev pub passes : SessionConfig → Load → Load → Bool
passes C before after = not (after.steps == before.steps) && (nat_lt (C.steps - 16) after.steps || nat_lt C.kept after.kept)

abbrev pub first_passed : SessionConfig → Load → Load → Load → Load → Option Load
first_passed C sending sending_after receiving receiving_after =
    if passes C sending sending_after then Some sending else (if passes C receiving receiving_after then Some receiving else None)

-- the half that would pass its limits by further entries, that which sends before the other
abbrev pub spent_by : Session → List Event → Option Load
spent_by s es =
    first_passed s.config (sending_load s.history) (sending_load (entered_all s es).history) (receiving_load s.config s.history) (receiving_load s.config (entered_all s es).history)

-- an entry passes no limit, or it has no payload
abbrev pub Fits : Session → Event → Type 0
Fits s e = (spent_by s (e ∷ []) ≡ None) ⊎ (kept_bytes e ≡ 0)
