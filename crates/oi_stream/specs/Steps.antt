-- One PDU under way: what each step of reading it does, for whatever bytes of it came before.
use Rattle.std.specs.Prelude.{ℕ, Bool, List, [], Option, Some, None, ◌≡◌, ◌++◌, ◌+◌, ◌<◌, ◌≤◌, ◌^◌, Result, Ok, Err, length, take}
use Rattle.oi_pdu.specs.Segments.{basic_at, data_len}
use Rattle.oi_pdu.specs.Table.{bad_header}
use Rattle.oi_pdu.specs.Wire.{Encodable, whole_len}
use Rattle.oi_stream.specs.Framing.{Stop, BadHeader, TooLong, StopsAt, IsFrame}
use Rattle.oi_stream.specs.Feeding.{State, IsKept}
use Rattle.oi_stream.specs.declared.fault.StreamFault.{StreamFault}
use Rattle.oi_stream.specs.declared.fault.StreamFault.TheVariants as faults
use Rattle.oi_stream.specs.declared.part.Part.{Part}
use Rattle.oi_stream.specs.declared.part.Whole.{Whole}

-- a splitter by its bound, its place and the PDU under way
abbrev pub state_of : ℕ → ℕ → Part → Bool → State
state_of limit place p ended = record {
  limit = limit;
  place = place;
  head = take p.count p.head;
  payload = p.payload.items;
  count = p.count;
  ended = ended;
}

-- the part is what is kept of these bytes
abbrev pub Keeps : ℕ → List ℕ → Part → Type 0
Keeps limit rest p = IsKept limit rest (take p.count p.head) p.payload.items p.count

-- of a part whose header is there: it is good, and its bytes are not more than the PDU has
pub record IsSound (p : Part) : Type 0 where
  pub long : length p.head ≡ 48
  pub good : 48 ≤ p.count → bad_header (basic_at p.head) ≡ None
  pub short : length p.payload.items < 2 ^ 24
  pub within : 48 ≤ p.count → p.count ≤ whole_len p.head

-- besides, it is no whole PDU
pub record IsGoing (p : Part) : Type 0 where
  pub sound : IsSound p
  pub cut : 48 ≤ p.count → p.count < whole_len p.head

-- whether a header is good, and its data within the bound
abbrev pub IsChecked : ℕ → ℕ → List ℕ → Result ℕ StreamFault → Type 0
IsChecked limit place head (Ok size) = (bad_header (basic_at head) ≡ None) × (size ≡ data_len head) × (size ≤ limit)
IsChecked limit place head (Err (faults.BadHeader at byte)) = (at ≡ place) × (bad_header (basic_at head) ≡ Some byte)
IsChecked limit place head (Err (faults.TooLong at size)) =
    (at ≡ place) × (bad_header (basic_at head) ≡ None) × (data_len head ≡ size) × (limit < size)
IsChecked limit place head (Err (faults.Ended at)) = ⊥
IsChecked limit place head (Err faults.Memory) = ⊥

-- so many bytes of the chunk were taken
pub record Takes (limit : ℕ) (old new : Part) (chunk : List ℕ) (taken : ℕ) : Type 0 where
  pub within : taken ≤ length chunk
  pub counted : new.count ≡ old.count + taken
  pub keeps : (rest : List ℕ) → Keeps limit rest old → Keeps limit (rest ++ take taken chunk) new
  pub sound : IsSound new

-- whatever bytes came before, no PDU follows
abbrev pub Stops : ℕ → Part → List ℕ → Stop → Type 0
Stops limit old chunk stop = (rest : List ℕ) → Keeps limit rest old → StopsAt limit (rest ++ chunk) stop

-- the bytes up to the end of the header
abbrev pub IsBegun : ℕ → ℕ → Part → Part → List ℕ → Result ℕ StreamFault → Type 0
IsBegun limit place old new chunk (Ok taken) =
    Takes limit old new chunk taken × (new.count < 48 → taken ≡ length chunk) × (48 ≤ old.count → new ≡ old)
IsBegun limit place old new chunk (Err (faults.BadHeader at byte)) = (at ≡ place) × Stops limit old chunk (BadHeader byte)
IsBegun limit place old new chunk (Err (faults.TooLong at size)) = (at ≡ place) × Stops limit old chunk (TooLong size)
IsBegun limit place old new chunk (Err (faults.Ended at)) = ⊥
IsBegun limit place old new chunk (Err faults.Memory) = Unit {0}

-- all bytes of the chunk were taken, and the PDU is not whole yet
pub record StaysShort (limit : ℕ) (old new : Part) (chunk : List ℕ) : Type 0 where
  pub going : IsGoing new
  pub keeps : (rest : List ℕ) → Keeps limit rest old → Keeps limit (rest ++ chunk) new

-- the chunk made the PDU whole, and the next one begins behind it
pub record MakesWhole (limit : ℕ) (old new : Part) (chunk : List ℕ) (w : Whole) : Type 0 where
  pub some : 0 < w.taken
  pub within : w.taken ≤ length chunk
  pub frame : (rest : List ℕ) → Keeps limit rest old → IsFrame limit (rest ++ take w.taken chunk) w.pdu
  pub size : (rest : List ℕ) → Keeps limit rest old → length (rest ++ take w.taken chunk) ≡ w.size
  pub encodable : Encodable w.pdu
  pub going : IsGoing new
  pub fresh : Keeps limit [] new

-- the bytes up to the end of the PDU
abbrev pub IsStep : ℕ → ℕ → Part → Part → List ℕ → Result (Option Whole) StreamFault → Type 0
IsStep limit place old new chunk (Ok None) = StaysShort limit old new chunk
IsStep limit place old new chunk (Ok (Some w)) = MakesWhole limit old new chunk w
IsStep limit place old new chunk (Err (faults.BadHeader at byte)) = (at ≡ place) × Stops limit old chunk (BadHeader byte)
IsStep limit place old new chunk (Err (faults.TooLong at size)) = (at ≡ place) × Stops limit old chunk (TooLong size)
IsStep limit place old new chunk (Err (faults.Ended at)) = ⊥
IsStep limit place old new chunk (Err faults.Memory) = Unit {0}
