-- Which PDUs of the target count, and which break the connection (RFC 7143, section 7.13 on protocol errors).
use Rattle.std.specs.Prelude.{ℕ, Bool, false, not, ◌==◌, ◌&&◌, ◌+◌, List, [], ◌∷◌, Option, Some, None, is_none, length, slice_index, nat_lt, Result, Ok, Err, if◌then◌else◌}
use Rattle.std.specs.Int.{from_be_bytes, w32}
use Rattle.oi_base.specs.TagLayout.{reserved_tag}
use Rattle.oi_buffer.specs.Placings.{Placed, place_answer}
use Rattle.oi_buffer.specs.declared.fault.PlaceFault.{PlaceFault}
use Rattle.oi_buffer.specs.declared.fault.PlaceFault.TheVariants.{Number, Offset, Range}
use Rattle.oi_history.specs.Phases.{is_logged_in}
use Rattle.oi_history.specs.Tasks.{held, is_live_on}
use Rattle.oi_history.specs.declared.allocated.Allocated.{Allocated}
use Rattle.oi_history.specs.declared.numbers.Numbers.{Numbers}
use Rattle.oi_history.specs.declared.phase.Phase.{Phase}
use Rattle.oi_history.specs.declared.rule.Rule.{Rule}
use Rattle.oi_history.specs.declared.rule.Rule.TheVariants.{WrongOpcode, UnknownTag, WrongKind, DataNumber, DataOffset, DataRange, R2tRange, Rejected}
use Rattle.oi_history.specs.declared.task.Task.{Task}
use Rattle.oi_pdu.specs.declared.header.DataIn.{DataIn}
use Rattle.oi_pdu.specs.declared.header.Header.{Header}
use Rattle.oi_pdu.specs.declared.header.Header.TheVariants.{NopIn, ScsiResponse, TaskResponse, DataIn as DataInPdu, LogoutResponse, R2t, Async, Reject}
use Rattle.oi_pdu.specs.declared.header.R2t.{R2t as R2tHeader}

-- ExpCmdSN and MaxCmdSN of a PDU of the target, and StatSN where it is its own (RFC 7143, section 4.2.2.2)
abbrev pub numbers_of : Header → Option Numbers
numbers_of (NopIn h) = Some (record { exp = h.exp; max = h.max; stat = if h.tag.0 == reserved_tag then None else Some h.stat })
numbers_of (ScsiResponse h) = Some (record { exp = h.exp; max = h.max; stat = Some h.stat })
numbers_of (TaskResponse h) = Some (record { exp = h.exp; max = h.max; stat = Some h.stat })
numbers_of (DataInPdu h) = Some (record { exp = h.exp; max = h.max; stat = if h.ends then Some h.stat else None })
numbers_of (LogoutResponse h) = Some (record { exp = h.exp; max = h.max; stat = Some h.stat })
numbers_of (R2t h) = Some (record { exp = h.exp; max = h.max; stat = None })
numbers_of (Async h) = Some (record { exp = h.exp; max = h.max; stat = Some h.stat })
numbers_of (Reject h) = Some (record { exp = h.exp; max = h.max; stat = Some h.stat })
numbers_of h = None

-- the data that the present try got
abbrev pub placed_of : Task → Placed
placed_of t = record { length = t.command.length; count = t.pieces; bytes = t.got }

-- the rule that data broke
abbrev pub place_rule : Result (Unit {0}) PlaceFault → Option Rule
place_rule (Ok taken) = None
place_rule (Err Number) = Some DataNumber
place_rule (Err Offset) = Some DataOffset
place_rule (Err Range) = Some DataRange

-- data for a submission that is live on the tag have to come in order and inside its length
abbrev pub live_data_rule : Task → DataIn → List ℕ → Option Rule
live_data_rule t h payload = place_rule (place_answer (placed_of t) h.number h.offset (length payload))

abbrev pub data_rule : Option Task → DataIn → List ℕ → Option Rule
data_rule None h payload = Some UnknownTag
data_rule (Some t) h payload =
    if not t.command.reads then Some WrongKind else (if is_live_on h.tag.0 t.fate then live_data_rule t h payload else None)

abbrev pub r2t_rule : Option Task → R2tHeader → Option Rule
r2t_rule None h = Some UnknownTag
r2t_rule (Some t) h =
    if not t.command.writes then Some WrongKind
    else (if h.length == 0 then Some R2tRange
    else (if nat_lt t.command.length (h.offset + h.length) then Some R2tRange
    else None))

abbrev pub known_rule : Option Task → Option Rule
known_rule None = Some UnknownTag
known_rule (Some t) = None

-- the initiator task tag of the header that a Reject returns (RFC 7143, section 11.17)
abbrev pub returned_tag : List ℕ → ℕ
returned_tag payload = from_be_bytes w32 (slice_index payload 16 ∷ slice_index payload 17 ∷ slice_index payload 18 ∷ slice_index payload 19 ∷ [])

abbrev pub is_live_held : ℕ → Option Task → Bool
is_live_held tag None = false
is_live_held tag (Some t) = is_live_on tag t.fate

abbrev pub reject_rule : List Allocated → List Task → List ℕ → Option Rule
reject_rule busy tasks payload =
    if length payload == 48
    then (if is_live_held (returned_tag payload) (held (returned_tag payload) busy tasks) then Some Rejected else None)
    else None

-- the first rule that a PDU breaks
abbrev pub rule_of : List Allocated → List Task → Header → List ℕ → Option Rule
rule_of busy tasks (DataInPdu h) payload = data_rule (held h.tag.0 busy tasks) h payload
rule_of busy tasks (ScsiResponse h) payload = known_rule (held h.tag.0 busy tasks)
rule_of busy tasks (R2t h) payload = r2t_rule (held h.tag.0 busy tasks) h
rule_of busy tasks (NopIn h) payload = if h.tag.0 == reserved_tag then None else Some UnknownTag
rule_of busy tasks (TaskResponse h) payload = Some UnknownTag
rule_of busy tasks (LogoutResponse h) payload = Some UnknownTag
rule_of busy tasks (Async h) payload = None
rule_of busy tasks (Reject h) payload = reject_rule busy tasks payload
rule_of busy tasks h payload = Some WrongOpcode

-- on the live connection, which no PDU has broken yet
abbrev pub is_current : ℕ → Phase → Option Rule → Bool
is_current generation p broken = is_logged_in p generation && is_none broken
