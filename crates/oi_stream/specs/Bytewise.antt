-- What a splitter makes of a piece, as a function, byte by byte.
use Rattle.std.specs.Prelude.{ℕ, Bool, true, false, List, [], ◌∷◌, ◌≡◌, ◌≢◌, ◌++◌, ◌+◌, ◌&&◌, nat_le, nat_lt, if◌then◌else◌, Option, Some, None, Result, Ok, Err, take}
use Rattle.oi_base.specs.Counts.{told_long}
use Rattle.oi_pdu.specs.Segments.{additional, basic_at, data_len}
use Rattle.oi_pdu.specs.Table.{bad_header, header_of}
use Rattle.oi_pdu.specs.Wire.{whole_len}
use Rattle.oi_pdu.specs.declared.codec.Pdu.{Pdu}
use Rattle.oi_stream.specs.Framing.{Stop, BadHeader, TooLong, Short, Frames}
use Rattle.oi_stream.specs.Feeding.{State, Follows}
use Rattle.oi_stream.specs.declared.fault.StreamFault.{StreamFault}
use Rattle.oi_stream.specs.declared.fault.StreamFault.TheVariants as faults

-- a splitter that was fed nothing
abbrev pub unfed : ℕ → State
unfed limit = record { limit = limit; place = 0; head = []; payload = []; count = 0; ended = false }

-- what a splitter that has not ended makes of a piece: where it stands then, the PDUs that became whole, and why no
-- further one follows
pub record Fed : Type 0 where
  pub state : State
  pub pdus : List Pdu
  pub stop : Stop

-- whether the next byte of the PDU under way is one of its data segment
abbrev pub is_data : State → Bool
is_data s = nat_le (48 + additional s.head) s.count && nat_lt s.count (48 + additional s.head + data_len s.head)

-- one byte more of the PDU under way: of its header, its additional headers, its data segment or its padding
abbrev pub with_byte : State → ℕ → State
with_byte s byte = record s {
  head = if nat_lt s.count 48 then s.head ++ byte ∷ [] else s.head;
  payload = if is_data s then s.payload ++ byte ∷ [] else s.payload;
  count = s.count + 1;
}

-- no PDU became whole
abbrev pub waits : State → Fed
waits s = record { state = s; pdus = []; stop = Short }

-- the PDU under way is whole, and the next one begins with nothing
abbrev pub hands_out : State → Fed
hands_out s = record {
  state = record s { place = told_long (s.place + s.count); head = []; payload = []; count = 0 };
  pdus = record { head = header_of (basic_at s.head); payload = s.payload } ∷ [];
  stop = Short;
}

-- what stops at a header: that it is bad, or that it names more data than the limit
abbrev pub stop_by : ℕ → List ℕ → Option ℕ → Stop
stop_by limit head (Some byte) = BadHeader byte
stop_by limit head None = if nat_lt limit (data_len head) then TooLong (data_len head) else Short

abbrev pub stop_at : ℕ → List ℕ → Stop
stop_at limit head = stop_by limit head (bad_header (basic_at head))

-- behind a byte of a PDU whose header is there
abbrev pub stands_by : State → Stop → Fed
stands_by s Short = if nat_lt s.count (whole_len s.head) then waits s else hands_out s
stands_by s stop = record { state = record s { ended = true }; pdus = []; stop = stop }

-- behind a byte
abbrev pub stands : State → Fed
stands s = if nat_lt s.count 48 then waits s else stands_by s (stop_at s.limit s.head)

abbrev pub fed_byte : State → ℕ → Fed
fed_byte s byte = stands (with_byte s byte)

-- the one and then the other; behind a stop nothing counts
abbrev pub joined_by : Stop → Fed → Fed → Fed
joined_by Short a b = record { state = b.state; pdus = a.pdus ++ b.pdus; stop = b.stop }
joined_by stop a b = a

abbrev pub joined : Fed → Fed → Fed
joined a b = joined_by a.stop a b

-- byte after byte of a piece
abbrev pub fed : State → List ℕ → Fed
fed s [] = waits s
fed s (byte ∷ piece) = joined (fed_byte s byte) (fed (fed_byte s byte).state piece)

-- the piece made these PDUs whole, and behind them comes this stop, at this place
pub record StopsAs (f : Fed) (new : State) (before after : List Pdu) (place : ℕ) (stop : Stop) : Type 0 where
  pub appended : after ≡ before ++ f.pdus
  pub same : f.stop ≡ stop
  pub at : f.state.place ≡ place
  pub ended : new.ended ≡ true

-- each answer by the function; want of memory leaves the first few PDUs
abbrev pub IsFedBy : State → State → List ℕ → List Pdu → List Pdu → Result (Unit {0}) StreamFault → Type 0
IsFedBy old new piece before after (Ok u) =
    (new ≡ (fed old piece).state) × (after ≡ before ++ (fed old piece).pdus) × ((fed old piece).stop ≡ Short)
IsFedBy old new piece before after (Err (faults.BadHeader place byte)) = StopsAs (fed old piece) new before after place (BadHeader byte)
IsFedBy old new piece before after (Err (faults.TooLong place size)) = StopsAs (fed old piece) new before after place (TooLong size)
IsFedBy old new piece before after (Err (faults.Ended place)) = old.ended ≡ true
IsFedBy old new piece before after (Err faults.Memory) =
    (new.ended ≡ true) × ((count : ℕ) × (after ≡ before ++ take count (fed old piece).pdus))

-- a splitter that was fed nothing stands at the front of the stream
abbrev pub UnfedFollows : Type 0
UnfedFollows = (limit : ℕ) → Follows [] [] (unfed limit)

-- a piece that is fed behind these bytes: all of them have the framing that the function gives
abbrev pub FedIsFramed : Type 0
FedIsFramed =
    (bytes piece : List ℕ) (pdus : List Pdu) (s : State) → Follows bytes pdus s
    → Frames s.limit (bytes ++ piece) (pdus ++ (fed s piece).pdus) (fed s piece).state.place (fed s piece).stop

-- where nothing stopped, the splitter stands at their end
abbrev pub FedFollows : Type 0
FedFollows =
    (bytes piece : List ℕ) (pdus : List Pdu) (s : State) → Follows bytes pdus s → (fed s piece).stop ≡ Short
    → Follows (bytes ++ piece) (pdus ++ (fed s piece).pdus) (fed s piece).state

-- the limit stays, and the splitter has ended where something stopped it
abbrev pub Stays : State → Fed → Type 0
Stays s f = (f.state.limit ≡ s.limit) × (f.stop ≡ Short → f.state.ended ≡ s.ended) × (f.stop ≢ Short → f.state.ended ≡ true)

abbrev pub FedStays : Type 0
FedStays = (s : State) (piece : List ℕ) → Stays s (fed s piece)

-- two pieces in a row are as one
abbrev pub FedInARow : Type 0
FedInARow = (s : State) (xs ys : List ℕ) → fed s (xs ++ ys) ≡ joined (fed s xs) (fed (fed s xs).state ys)
