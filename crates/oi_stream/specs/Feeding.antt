-- A splitter over the stream that it was fed, whatever the pieces were.
use Rattle.std.specs.Prelude.{ℕ, Bool, true, false, List, [], ◌∷◌, ◌≡◌, ◌++◌, ◌+◌, ◌<◌, ◌≤◌, Result, Ok, Err, length, take, drop, None}
use Rattle.oi_base.specs.Counts.{told_long}
use Rattle.oi_pdu.specs.Segments.{additional, basic_at, data_len}
use Rattle.oi_pdu.specs.Table.{bad_header}
use Rattle.oi_pdu.specs.Wire.{Encodable, head_of, whole_len}
use Rattle.oi_pdu.specs.declared.codec.Pdu.{Pdu}
use Rattle.oi_stream.specs.Framing.{Stop, BadHeader, TooLong, IsRun, Frames}
use Rattle.oi_stream.specs.declared.fault.StreamFault.{StreamFault}
use Rattle.oi_stream.specs.declared.fault.StreamFault.TheVariants as faults

-- a splitter: the bound on a PDU's data, the place of the PDU under way, its header, data and number of bytes so far,
-- and whether the splitter has ended
pub record State : Type 0 where
  pub limit : ℕ
  pub place : ℕ
  pub head : List ℕ
  pub payload : List ℕ
  pub count : ℕ
  pub ended : Bool

-- of a PDU whose header is there: it is good, and this is its data so far
pub record IsOpened (limit : ℕ) (rest payload : List ℕ) : Type 0 where
  pub good : bad_header (basic_at (head_of rest)) ≡ None
  pub fits : data_len (head_of rest) ≤ limit
  pub segment : payload ≡ take (data_len (head_of rest)) (drop (48 + additional (head_of rest)) rest)

-- these bytes of the PDU under way have the header, data and number that the splitter keeps of them
pub record IsKept (limit : ℕ) (rest head payload : List ℕ) (count : ℕ) : Type 0 where
  pub counted : count ≡ length rest
  pub header : head ≡ head_of rest
  pub blank : length rest < 48 → payload ≡ []
  pub opened : 48 ≤ length rest → IsOpened limit rest payload

-- the splitter stands where these bytes, of which these PDUs were handed out, have led it
pub record Follows (bytes : List ℕ) (pdus : List Pdu) (s : State) : Type 0 where
  pub front : List ℕ
  pub rest : List ℕ
  pub whole : bytes ≡ front ++ rest
  pub run : IsRun s.limit front pdus
  pub at : s.place ≡ told_long (length front)
  pub kept : IsKept s.limit rest s.head s.payload s.count
  pub cut : 48 ≤ length rest → length rest < whole_len (head_of rest)

-- some bytes have led the splitter to where it stands
pub record IsReached (s : State) : Type 0 where
  pub bytes : List ℕ
  pub pdus : List Pdu
  pub follows : Follows bytes pdus s

abbrev pub AreEncodable : List Pdu → Type 0
AreEncodable [] = Unit {0}
AreEncodable (p ∷ ps) = Encodable p × AreEncodable ps

-- the list has grown by these PDUs, each of which can be encoded, and the bound is the same
pub record Appends (old new : State) (before after more : List Pdu) : Type 0 where
  pub appended : after ≡ before ++ more
  pub encodable : AreEncodable more
  pub limit : new.limit ≡ old.limit

-- the piece made these PDUs whole, and the next one may follow
pub record GoesOn (old new : State) (piece : List ℕ) (before after : List Pdu) : Type 0 where
  pub more : List Pdu
  pub appends : Appends old new before after more
  pub follows : (bytes : List ℕ) (pdus : List Pdu) → Follows bytes pdus old → Follows (bytes ++ piece) (pdus ++ more) new

-- the piece made these PDUs whole, and no further one follows them
pub record StopsFor (old new : State) (piece : List ℕ) (before after : List Pdu) (place : ℕ) (stop : Stop) : Type 0 where
  pub more : List Pdu
  pub appends : Appends old new before after more
  pub frames : (bytes : List ℕ) (pdus : List Pdu) → Follows bytes pdus old → Frames old.limit (bytes ++ piece) (pdus ++ more) place stop
  pub at : new.place ≡ place

-- these PDUs stand at the front of the bytes, up to this place
pub record BeginsWith (limit : ℕ) (bytes : List ℕ) (pdus : List Pdu) (place : ℕ) : Type 0 where
  pub front : List ℕ
  pub rest : List ℕ
  pub whole : bytes ≡ front ++ rest
  pub run : IsRun limit front pdus
  pub at : place ≡ told_long (length front)

-- want of memory: the place is that of the first PDU that was not handed out
pub record LeavesOff (old new : State) (piece : List ℕ) (before after : List Pdu) : Type 0 where
  pub more : List Pdu
  pub appends : Appends old new before after more
  pub begins : (bytes : List ℕ) (pdus : List Pdu) → Follows bytes pdus old → BeginsWith old.limit (bytes ++ piece) (pdus ++ more) new.place

-- what a splitter that has not ended does with a piece
abbrev pub Splits : State → State → List ℕ → List Pdu → List Pdu → Result (Unit {0}) StreamFault → Type 0
Splits old new piece before after (Ok u) = GoesOn old new piece before after
Splits old new piece before after (Err (faults.BadHeader place byte)) = StopsFor old new piece before after place (BadHeader byte)
Splits old new piece before after (Err (faults.TooLong place size)) = StopsFor old new piece before after place (TooLong size)
Splits old new piece before after (Err (faults.Ended place)) = ⊥
Splits old new piece before after (Err faults.Memory) = LeavesOff old new piece before after

-- the causes of each answer; after any other answer than Ok the splitter has ended
abbrev pub IsFed : State → State → List ℕ → List Pdu → List Pdu → Result (Unit {0}) StreamFault → Type 0
IsFed old new piece before after (Ok u) =
    (old.ended ≡ false) × (new.ended ≡ false) × GoesOn old new piece before after
IsFed old new piece before after (Err (faults.BadHeader place byte)) =
    (old.ended ≡ false) × (new.ended ≡ true) × StopsFor old new piece before after place (BadHeader byte)
IsFed old new piece before after (Err (faults.TooLong place size)) =
    (old.ended ≡ false) × (new.ended ≡ true) × StopsFor old new piece before after place (TooLong size)
IsFed old new piece before after (Err (faults.Ended place)) =
    (old.ended ≡ true) × (new ≡ old) × (place ≡ old.place) × (after ≡ before)
IsFed old new piece before after (Err faults.Memory) =
    (old.ended ≡ false) × (new.ended ≡ true) × LeavesOff old new piece before after
