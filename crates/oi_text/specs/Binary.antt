-- Binary values (RFC 7143, section 6.1): hex digits after 0x, or base64 after 0b.
use Rattle.std.specs.Prelude.{◌≡◌, ℕ, List, [], ◌∷◌, Ok, ◌==◌, ◌||◌, MatchBool}
use Rattle.hex.specs.Hex.{decode_of}
use Rattle.base64.specs.Engines.{standard}
use Rattle.base64.specs.GeneralPurpose.{encode_of, IsBytes}

-- pairs of hex digits of either case
abbrev pub IsHex : List ℕ → List ℕ → Type 0
IsHex digits bytes = decode_of digits ≡ Ok bytes

-- padded base64 in the standard alphabet (RFC 4648, section 4): the one encoding of the bytes
abbrev pub IsBase64 : List ℕ → List ℕ → Type 0
IsBase64 text bytes = IsBytes bytes × (text ≡ encode_of standard bytes)

-- what follows the letter: `x` or `X` for hex, `b` or `B` for base64
abbrev pub IsBody : ℕ → List ℕ → List ℕ → Type 0
IsBody letter body bytes =
    MatchBool (letter == 120 || letter == 88) (IsHex body bytes) (MatchBool (letter == 98 || letter == 66) (IsBase64 body bytes) ⊥)

-- the value stands for the bytes: `0`, the letter and the body
abbrev pub IsBinary : List ℕ → List ℕ → Type 0
IsBinary [] bytes = ⊥
IsBinary (first ∷ []) bytes = ⊥
IsBinary (first ∷ letter ∷ body) bytes = (first ≡ 48) × IsBody letter body bytes
