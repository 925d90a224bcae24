-- Where the data of a read stand: Data-In is taken in order, each piece behind the one before (RFC 7143, section 11.7).
use Rattle.std.specs.Prelude.{ℕ, ◌+◌, ◌^◌, ◌≤◌, List, [], ◌++◌, length, Result, Ok, Err, ◌==◌, nat_le, if◌then◌else◌}
use Rattle.oi_buffer.specs.declared.fault.PlaceFault.{PlaceFault}
use Rattle.oi_buffer.specs.declared.fault.PlaceFault.TheVariants.{Number, Offset, Range}

-- the length that the read asked for, the pieces taken so far, and their bytes
pub record Placed : Type 0 where
  pub length : ℕ
  pub count : ℕ
  pub bytes : List ℕ

-- nothing is placed yet
abbrev pub none_placed : ℕ → Placed
none_placed n = record { length = n; count = 0; bytes = [] }

-- what is said to so many bytes with this number and offset: the first rule that they break
abbrev pub place_answer : Placed → ℕ → ℕ → ℕ → Result (Unit {0}) PlaceFault
place_answer p number offset size =
    if number == p.count
    then (if offset == length p.bytes
    then (if nat_le (offset + size) p.length then Ok tt else Err Range)
    else Err Offset)
    else Err Number

-- the piece is taken behind the others
abbrev pub after_place : Placed → List ℕ → Placed
after_place p more = record { length = p.length; count = p.count + 1; bytes = p.bytes ++ more }

-- what a placing keeps: room for all bytes, and no more bytes than were asked for
pub record IsInside (asked count : ℕ) (bytes : List ℕ) (room : ℕ) : Type 0 where
  pub has_room : asked ≤ room
  pub few : count ≤ 2 ^ 32
  pub within : length bytes ≤ asked
