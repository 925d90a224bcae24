-- The data of a command for the initiator (RFC 7143, section 11.7): sequences of at most MaxBurstLength, each in pieces of
-- at most the length that the initiator declared. The numbers run on over all sequences.
use Rattle.std.specs.Prelude.{ℕ, zero, suc, ◌≤◌, ◌<◌, ◌+◌, ◌-◌, ◌*◌, ◌/◌, ◌%◌, ◌^◌, Bool, false, ◌||◌, List, [], ◌∷◌, length, max, min, take, drop, ◌==◌, if◌then◌else◌}
use Rattle.oi_base.specs.Serials.{successor}
use Rattle.oi_base.specs.declared.tag.Tag.{Tag}
use Rattle.oi_pdu.specs.declared.codec.Pdu.{Pdu}
use Rattle.oi_pdu.specs.declared.header.Header.{Header}
use Rattle.oi_pdu.specs.declared.header.Header.TheVariants as head
use Rattle.oi_recovery.specs.declared.hit.Residual.{Residual}
use Rattle.oi_target_session.specs.Answers.{bytes_of, is_over, is_under, max_number, no_lun, no_tag, residual_count}
use Rattle.oi_target_session.specs.declared.limits.Limits.{Limits}
use Rattle.oi_target_session.specs.declared.limits.Numbers.{Numbers}

-- lengths that a login can settle
pub record AreLimits (l : Limits) : Type 0 where
  pub some : 1 ≤ l.max_send
  pub most : l.max_send < 2 ^ 24
  pub burst : 1 ≤ l.max_burst

-- the same lengths, brought within these bounds
abbrev pub usable : Limits → Limits
usable l = record { max_send = min (max l.max_send 1) 16777215; max_burst = max l.max_burst 1; first_burst = l.first_burst }

-- the size of the piece that begins at a place, with so many bytes left
abbrev pub piece_size : Limits → ℕ → ℕ → ℕ
piece_size l at left = min (min l.max_send (l.max_burst - at % l.max_burst)) left

-- it is the last of its sequence
abbrev pub ends_sequence : Limits → ℕ → ℕ → Bool
ends_sequence l at left = (at + piece_size l at left) % l.max_burst == 0 || piece_size l at left == left

-- it is the last of the command, and has its status
abbrev pub ends_command : Limits → ℕ → ℕ → Bool
ends_command l at left = piece_size l at left == left

-- the piece at the front of the data that are left: its header, by the number of bytes that are left
abbrev pub piece_head : Limits → Numbers → Tag → Residual → ℕ → ℕ → ℕ → Header
piece_head l n tag r number at left = head.DataIn (record {
  last = ends_sequence l at left;
  over = if ends_command l at left then is_over r else false;
  under = if ends_command l at left then is_under r else false;
  ends = ends_command l at left;
  status = 0;
  lun = no_lun;
  tag = tag;
  ttt = no_tag;
  stat = if ends_command l at left then n.stat else record { 0 = 0 };
  exp = n.exp;
  max = max_number n;
  number = number;
  offset = at;
  residual = if ends_command l at left then residual_count r else 0;
})

-- with its data
abbrev pub piece_pdu : Limits → Numbers → Tag → Residual → ℕ → ℕ → List ℕ → Pdu
piece_pdu l n tag r number at rest = record {
  head = piece_head l n tag r number at (length rest);
  payload = take (piece_size l at (length rest)) rest;
}

-- all pieces from a place on; as many as there are bytes are enough
abbrev pub data_pdus : Limits → Numbers → Tag → Residual → ℕ → ℕ → ℕ → List ℕ → List Pdu
data_pdus l n tag r zero number at rest = []
data_pdus l n tag r (suc most) number at [] = []
data_pdus l n tag r (suc most) number at (x ∷ xs) =
    piece_pdu l n tag r number at (x ∷ xs)
    ∷ data_pdus l n tag r most (successor number) (at + piece_size l at (length (x ∷ xs))) (drop (piece_size l at (length (x ∷ xs))) (x ∷ xs))

-- room for all pieces of so many bytes, each with a header of 48 bytes and at most three bytes of padding: all but the last
-- one are as long as a segment may be, or end a sequence
abbrev pub room_for : Limits → ℕ → ℕ
room_for l size = size + (size / l.max_send + size / l.max_burst + 1) * 51

-- they fit in that room
abbrev pub RoomIsEnough : Type 0
RoomIsEnough = (l : Limits) (n : Numbers) (tag : Tag) (r : Residual) (bytes : List ℕ) → AreLimits l
    → length (bytes_of (data_pdus l n tag r (length bytes) 0 0 bytes)) ≤ room_for l (length bytes)
