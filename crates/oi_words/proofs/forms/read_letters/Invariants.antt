use Rattle.std.proofs.Common.{ℕ, Option, Result, List, length, map}
use denote.Text.{Utf8}
use denote.Shadow.{shadow}
use Rattle.std.specs.String.{string_bytes}
use Rattle.oi_words.specs.Parses.{IsWordRead}
use Rattle.oi_words.specs.Words.{Text, letters_front}
use Rattle.oi_words.specs.declared.fault.WordsFault.{WordsFault}
use Rattle.oi_words.proofs.forms.read_letters.Given as goal

-- what reads the rest reads the text
abbrev pub invariant-loop-rest : goal.invariant-loop-rest
invariant-loop-rest l =
    shadow (Utf8 l.rest)
    × ((r : Result (Option ℕ) WordsFault) (new : List Text) → IsWordRead (letters_front l.rest) r (map (λ s. string_bytes s) l.forms.items) new
    → IsWordRead (letters_front l.fn.text) r (map (λ s. string_bytes s) l.fn.forms.items) new)

abbrev pub decreases-loop-rest : goal.decreases-loop-rest
decreases-loop-rest l = length l.rest
