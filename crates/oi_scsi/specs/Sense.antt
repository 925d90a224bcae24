-- Sense data in the data segment of a SCSI Response (RFC 7143, section 11.4.7).
use Rattle.std.specs.Prelude.{ℕ, ◌+◌, ◌*◌, List, [], ◌∷◌, take}

-- behind the length of two bytes, as much of it as is there
abbrev pub sense_in : List ℕ → List ℕ
sense_in [] = []
sense_in (a ∷ []) = []
sense_in (a ∷ b ∷ rest) = take (256 * a + b) rest
