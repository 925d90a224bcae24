-- The rest of an input, of which so many bytes may still come.
use Rattle.std.specs.Prelude.{◌≡◌, ◌+◌, ◌<◌, ℕ, false, ◌++◌, List, Option, Some, None, Result, Ok, Err, is_some, length, take, nat_le, if◌then◌else◌}
use Rattle.oi_base.specs.Counts.{Rose}
use Rattle.oi_drive.specs.Parts.{BrokeOff}
use Rattle.oi_drive.specs.Worlds.{World, feed, feed_text, input_end, input_end_text, input_over}
use Rattle.oi_drive.specs.declared.runner.Broken.{Broken}
use Rattle.oi_drive.specs.declared.runner.Broken.TheVariants.{Memory, Read, Write}
use Rattle.oi_outside.specs.Streams.{behind, in_front}

abbrev pub rest_world : ℕ → World → List ℕ → World
rest_world room w bytes = if nat_le (length bytes) room then input_end (feed w bytes) else input_over (feed w (take room bytes))

abbrev pub rest_text : ℕ → World → List ℕ → List ℕ
rest_text room w bytes = if nat_le (length bytes) room then feed_text w bytes ++ input_end_text (feed w bytes) else feed_text w (take room bytes)

-- why reading broke: the source failed, the sink failed, or memory is wanted
abbrev pub BreaksBy : Broken → ℕ → ℕ → ℕ → ℕ → Type 0
BreaksBy Read source0 source sink0 sink = Rose source0 source × (sink ≡ sink0)
BreaksBy Write source0 source sink0 sink = Rose sink0 sink × (source ≡ source0)
BreaksBy Memory source0 source sink0 sink = (source ≡ source0) × (sink ≡ sink0)

-- the input came to its end or its stop
pub record Finishes (room : ℕ) (left0 : Option (List ℕ)) (w0 w : World) (held0 held : Option (List ℕ)) : Type 0 where
  pub world : (bytes : List ℕ) → left0 ≡ Some bytes → w ≡ rest_world room w0 bytes
  pub text : (bytes : List ℕ) → left0 ≡ Some bytes → held ≡ behind held0 (rest_text room w0 bytes)

-- a piece was taken, no line of it stopped the input, and less may come
pub record GoesOn (room less : ℕ) (left0 left : Option (List ℕ)) (w0 w : World) (held0 held : Option (List ℕ)) : Type 0 where
  pub piece : List ℕ
  pub moved : left0 ≡ in_front piece left
  pub count : length piece + less ≡ room
  pub some : 0 < length piece
  pub world : w ≡ feed w0 piece
  pub going : is_some w.stop ≡ false
  pub text : held ≡ behind held0 (feed_text w0 piece)

abbrev pub ReadsOnce : Result (Option ℕ) Broken → ℕ → Option (List ℕ) → Option (List ℕ) → World → World → Option (List ℕ) → Option (List ℕ) → ℕ → ℕ → ℕ → ℕ → Type 0
ReadsOnce (Ok (Some less)) room left0 left w0 w held0 held source0 source sink0 sink = GoesOn room less left0 left w0 w held0 held × (source ≡ source0) × (sink ≡ sink0)
ReadsOnce (Ok None) room left0 left w0 w held0 held source0 source sink0 sink = Finishes room left0 w0 w held0 held × (source ≡ source0) × (sink ≡ sink0)
ReadsOnce (Err e) room left0 left w0 w held0 held source0 source sink0 sink = BreaksBy e source0 source sink0 sink × BrokeOff e left0 left w0 w held0 held

abbrev pub ReadsAll : Result (Unit {0}) Broken → ℕ → Option (List ℕ) → Option (List ℕ) → World → World → Option (List ℕ) → Option (List ℕ) → ℕ → ℕ → ℕ → ℕ → Type 0
ReadsAll (Ok u) room left0 left w0 w held0 held source0 source sink0 sink = Finishes room left0 w0 w held0 held × (source ≡ source0) × (sink ≡ sink0)
ReadsAll (Err e) room left0 left w0 w held0 held source0 source sink0 sink = BreaksBy e source0 source sink0 sink × BrokeOff e left0 left w0 w held0 held
