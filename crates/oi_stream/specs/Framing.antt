-- Framing of a byte stream into PDUs (RFC 7143, section 11.1): PDUs one after another, and a rest that is no whole one.
use Rattle.std.specs.Prelude.{ℕ, List, [], ◌∷◌, Some, None, ◌≡◌, ◌++◌, ◌<◌, ◌≤◌, length}
use Rattle.oi_base.specs.Counts.{told_long}
use Rattle.oi_pdu.specs.Segments.{basic_at, data_len}
use Rattle.oi_pdu.specs.Table.{bad_header}
use Rattle.oi_pdu.specs.Wire.{Decodes, head_of, whole_len}
use Rattle.oi_pdu.specs.declared.codec.Pdu.{Pdu}

-- why no PDU follows: its header is bad at this byte, it names this many bytes of data, which are too many, or it is
-- not whole yet
pub data Stop : Type 0 where
  BadHeader : ℕ → Stop
  TooLong : ℕ → Stop
  Short : Stop

-- the bytes are this PDU, with at most so many bytes of data
pub record IsFrame (limit : ℕ) (bytes : List ℕ) (p : Pdu) : Type 0 where
  pub decodes : Decodes bytes p
  pub fits : data_len (head_of bytes) ≤ limit

-- the bytes are these PDUs, one after another
abbrev pub IsRun : ℕ → List ℕ → List Pdu → Type 0
IsRun limit bytes [] = bytes ≡ []
IsRun limit bytes (p ∷ ps) =
    (front : List ℕ) × (rest : List ℕ) × ((bytes ≡ front ++ rest) × IsFrame limit front p × IsRun limit rest ps)

-- the bytes begin a good PDU and end within it
pub record IsCut (limit : ℕ) (rest : List ℕ) : Type 0 where
  pub good : bad_header (basic_at (head_of rest)) ≡ None
  pub fits : data_len (head_of rest) ≤ limit
  pub cut : length rest < whole_len (head_of rest)

-- why no PDU follows at the front of the rest; fewer bytes than a header are short
abbrev pub StopsAt : ℕ → List ℕ → Stop → Type 0
StopsAt limit rest (BadHeader byte) = (48 ≤ length rest) × (bad_header (basic_at (head_of rest)) ≡ Some byte)
StopsAt limit rest (TooLong size) =
    (48 ≤ length rest) × (bad_header (basic_at (head_of rest)) ≡ None) × (data_len (head_of rest) ≡ size) × (limit < size)
StopsAt limit rest Short = 48 ≤ length rest → IsCut limit rest

-- the framing of a byte stream: its PDUs, the place after them, and why no further one follows there
pub record Frames (limit : ℕ) (bytes : List ℕ) (pdus : List Pdu) (place : ℕ) (stop : Stop) : Type 0 where
  pub front : List ℕ
  pub rest : List ℕ
  pub whole : bytes ≡ front ++ rest
  pub run : IsRun limit front pdus
  pub at : place ≡ told_long (length front)
  pub stops : StopsAt limit rest stop

-- a byte stream has one framing
abbrev pub OneFraming : Type 0
OneFraming =
    (limit : ℕ) (bytes : List ℕ) (ps qs : List Pdu) (place place' : ℕ) (stop stop' : Stop)
    → Frames limit bytes ps place stop → Frames limit bytes qs place' stop'
    → (ps ≡ qs) × (place ≡ place') × (stop ≡ stop')
