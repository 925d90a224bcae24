-- The wire format of a PDU (RFC 7143, section 11).
use Rattle.std.specs.Prelude.{ℕ, List, None, ◌≡◌, ◌++◌, ◌+◌, ◌<◌, ◌^◌, length, take, drop, replicate}
use Rattle.oi_pdu.specs.Segments.{cells, basic_at, additional, data_len, padding}
use Rattle.oi_pdu.specs.Table.{layout, header_of, bad_header}
use Rattle.oi_pdu.specs.Widths.{EncodableHeader}
use Rattle.oi_pdu.specs.declared.codec.Pdu.{Pdu}

-- the one encoding of a PDU: the header with all reserved bits zero, the payload, zero bytes up to a multiple of 4
abbrev pub encoding : Pdu → List ℕ
encoding p = cells (layout p.head) (length p.payload) ++ p.payload ++ replicate (padding (length p.payload)) 0

-- the basic header segment at the front of bytes
abbrev pub head_of : List ℕ → List ℕ
head_of bytes = take 48 bytes

-- bytes of the PDU that begins with this header
abbrev pub whole_len : List ℕ → ℕ
whole_len head = 48 + additional head + data_len head + padding (data_len head)

-- the bytes are exactly this PDU; reserved bits, additional headers and padding may hold anything
pub record Decodes (bytes : List ℕ) (p : Pdu) : Type 0 where
  pub whole : length bytes ≡ whole_len (head_of bytes)
  pub good : bad_header (basic_at (head_of bytes)) ≡ None
  pub head : p.head ≡ header_of (basic_at (head_of bytes))
  pub payload : p.payload ≡ take (data_len (head_of bytes)) (drop (48 + additional (head_of bytes)) bytes)

-- each field fits its width, no login PDU names stage 2, and the payload's length fits
pub record Encodable (p : Pdu) : Type 0 where
  pub header : EncodableHeader p.head
  pub size : length p.payload < 2 ^ 24

-- what can be encoded decodes to itself
abbrev pub EncodedDecodes : Type 0
EncodedDecodes = (p : Pdu) → Encodable p → Decodes (encoding p) p
