-- A whole stream, in whatever pieces it came.
use Rattle.std.specs.Prelude.{ℕ, List, ◌≡◌, ◌++◌, Result, Ok, Err}
use Rattle.oi_pdu.specs.declared.codec.Pdu.{Pdu}
use Rattle.oi_stream.specs.Framing.{Stop, BadHeader, TooLong, Short, Frames}
use Rattle.oi_stream.specs.Feeding.{State, AreEncodable, BeginsWith, Follows}
use Rattle.oi_stream.specs.declared.fault.StreamFault.{StreamFault}
use Rattle.oi_stream.specs.declared.fault.StreamFault.TheVariants as faults

-- the list has grown by the PDUs of the framing of these bytes, which stops so
pub record IsFramedTo (limit : ℕ) (bytes : List ℕ) (before after : List Pdu) (place : ℕ) (stop : Stop) : Type 0 where
  pub more : List Pdu
  pub appended : after ≡ before ++ more
  pub encodable : AreEncodable more
  pub frames : Frames limit bytes more place stop

-- the list has grown by PDUs at the front of these bytes
pub record IsFramedInPart (limit : ℕ) (bytes : List ℕ) (before after : List Pdu) : Type 0 where
  pub more : List Pdu
  pub appended : after ≡ before ++ more
  pub encodable : AreEncodable more
  pub place : ℕ
  pub begins : BeginsWith limit bytes more place

-- what a new splitter answers that is fed all pieces of these bytes, up to its first fault
abbrev pub IsFramed : ℕ → List ℕ → List Pdu → List Pdu → Result (Unit {0}) StreamFault → Type 0
IsFramed limit bytes before after (Ok u) = (place : ℕ) × IsFramedTo limit bytes before after place Short
IsFramed limit bytes before after (Err (faults.BadHeader place byte)) = IsFramedTo limit bytes before after place (BadHeader byte)
IsFramed limit bytes before after (Err (faults.TooLong place size)) = IsFramedTo limit bytes before after place (TooLong size)
IsFramed limit bytes before after (Err (faults.Ended place)) = ⊥
IsFramed limit bytes before after (Err faults.Memory) = IsFramedInPart limit bytes before after

-- a splitter that has not ended stands at the end of the framing of what it was fed
abbrev pub FollowedIsFramed : Type 0
FollowedIsFramed = (bytes : List ℕ) (pdus : List Pdu) (s : State) → Follows bytes pdus s → Frames s.limit bytes pdus s.place Short
