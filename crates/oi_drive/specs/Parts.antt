-- What stands where a replay broke off: the entries and the text of the lines before, and a first part of the next line's.
use Rattle.std.specs.Prelude.{◌≡◌, ◌<◌, ◌⊎◌, ℕ, false, List, [], ◌∷◌, ◌++◌, Option, Some, is_some, length}
use Rattle.oi_drive.specs.Acts.{IsPart}
use Rattle.oi_drive.specs.Worlds.{World, feed, feed_text, line_base, line_entries, line_text}
use Rattle.oi_drive.specs.declared.runner.Broken.{Broken}
use Rattle.oi_drive.specs.declared.runner.Broken.TheVariants.{Read, Write}
use Rattle.oi_history.specs.declared.event.Event.{Event}
use Rattle.oi_outside.specs.Streams.{IsCutShort, IsFront, behind, in_front}
use Rattle.oi_solo.specs.Sessions.{Session}

-- a session is where it was, or behind a first part of these entries
abbrev pub IsBetween : Session → Session → List Event → Session → Type 0
IsBetween old first es now = (now ≡ old) ⊎ IsPart es first now

-- the line under way ends here: with a line feed, or with the input where the line has a byte
abbrev pub IsLineFeed : List ℕ → Type 0
IsLineFeed [] = ⊥
IsLineFeed (b ∷ bytes) = b ≡ 10

abbrev pub IsLineEnd : World → List ℕ → Option (List ℕ) → Type 0
IsLineEnd w [] left = (0 < length w.part) × ((rest : List ℕ) → left ≡ Some rest → rest ≡ [])
IsLineEnd w (b ∷ bytes) left = b ≡ 10

-- the line under way was done in part; not at all, where it had not ended. Where the sink failed it had ended, and not all of its text is
-- held
pub record IsPartly (broken : Broken) (ended : Type 0) (w v : World) (held0 held : Option (List ℕ)) : Type 0 where
  pub entries : IsBetween w.session (line_base w) (line_entries w) v.session
  pub text : IsFront (line_text w) held0 held
  pub begun : ((v.session ≡ w.session) × (held ≡ held0)) ⊎ ended
  pub cut : broken ≡ Write → ended × IsCutShort (line_text w) held0 held

-- a piece was taken to some byte, where its line was done in part; no line before it stopped the input
pub record BrokeIn (broken : Broken) (piece : List ℕ) (w0 v : World) (held0 held : Option (List ℕ)) : Type 0 where
  pub fed : List ℕ
  pub more : List ℕ
  pub whole : piece ≡ fed ++ more
  pub going : is_some (feed w0 fed).stop ≡ false
  pub partly : IsPartly broken (IsLineFeed more) (feed w0 fed) v (behind held0 (feed_text w0 fed)) held

-- the bytes that were taken count to some place, where their line was done in part; no line before it stopped the input. Where the
-- source failed all count
pub record BrokeOff (broken : Broken) (left0 left : Option (List ℕ)) (w0 v : World) (held0 held : Option (List ℕ)) : Type 0 where
  pub fed : List ℕ
  pub more : List ℕ
  pub moved : left0 ≡ in_front (fed ++ more) left
  pub going : is_some w0.stop ≡ false → is_some (feed w0 fed).stop ≡ false
  pub partly : IsPartly broken (IsLineEnd (feed w0 fed) more left) (feed w0 fed) v (behind held0 (feed_text w0 fed)) held
  pub all : broken ≡ Read → (more ≡ []) × (v ≡ feed w0 fed) × (held ≡ behind held0 (feed_text w0 fed))
