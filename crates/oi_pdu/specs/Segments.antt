-- The basic header segment of 48 bytes, and the parts of a PDU behind it (RFC 7143, section 11.2).
use Rattle.std.specs.Prelude.{ℕ, Bool, List, [], ◌∷◌, ◌++◌, ◌+◌, ◌-◌, ◌*◌, ◌/◌, ◌%◌, ◌^◌, ◌==◌, take, drop, slice_index, if◌then◌else◌}
use Rattle.std.specs.Int.{w16, w32, to_be_bytes, from_be_bytes}
use Rattle.oi_pdu.specs.declared.basic.BasicHeader.{BasicHeader}

-- a flag of a byte, as a summand
abbrev pub flag : Bool → ℕ → ℕ
flag set mask = if set then mask else 0

-- the byte has the bit
abbrev pub is_set : ℕ → ℕ → Bool
is_set byte mask = byte / mask % 2 == 1

-- the number of 32 bits at a place
abbrev pub word : List ℕ → ℕ → ℕ
word bytes i = from_be_bytes w32 (slice_index bytes i ∷ slice_index bytes (i + 1) ∷ slice_index bytes (i + 2) ∷ slice_index bytes (i + 3) ∷ [])

-- the number of 16 bits at a place
abbrev pub half : List ℕ → ℕ → ℕ
half bytes i = from_be_bytes w16 (slice_index bytes i ∷ slice_index bytes (i + 1) ∷ [])

-- four numbers of 32 bits
unfoldable pub words : ℕ → ℕ → ℕ → ℕ → List ℕ
words a b c d = to_be_bytes w32 a ++ to_be_bytes w32 b ++ to_be_bytes w32 c ++ to_be_bytes w32 d

-- the 48 bytes of a header whose data segment has this size; byte 4, the length of the additional headers, is zero,
-- since the size is below 2^24
unfoldable pub cells : BasicHeader → ℕ → List ℕ
cells b size =
    (b.first ∷ b.flags ∷ b.two ∷ b.three ∷ []) ++ to_be_bytes w32 size ++ b.lun ++ words b.tag b.word20 b.word24 b.word28 ++ b.tail

-- what stands at the places of 48 bytes
unfoldable pub basic_at : List ℕ → BasicHeader
basic_at bytes = record {
  first = slice_index bytes 0;
  flags = slice_index bytes 1;
  two = slice_index bytes 2;
  three = slice_index bytes 3;
  lun = take 8 (drop 8 bytes);
  tag = word bytes 16;
  word20 = word bytes 20;
  word24 = word bytes 24;
  word28 = word bytes 28;
  tail = take 16 (drop 32 bytes);
}

-- bytes of the additional headers: byte 4 counts words of 4 bytes
unfoldable pub additional : List ℕ → ℕ
additional bytes = slice_index bytes 4 * 4

-- bytes of the data segment, without padding: bytes 5 to 7
unfoldable pub data_len : List ℕ → ℕ
data_len bytes = word bytes 4 % 2 ^ 24

-- zero bytes up to a multiple of 4
abbrev pub padding : ℕ → ℕ
padding size = (4 - size % 4) % 4
