-- What a text says, read from its front (RFC 7143, section 6.1): the same pairs, lists and binary values that the relations of
-- the text's crate describe, as functions.
use Rattle.std.specs.Prelude.{ℕ, Bool, ◌&&◌, ◌||◌, ◌==◌, nat_lt, nat_le, Option, Some, None, List, [], ◌∷◌, ◌++◌, length, if◌then◌else◌}
use Rattle.std.specs.List.{list_all, list_any, slice_split}
use Rattle.std.specs.Result.{result_ok}
use Rattle.base64.specs.Engines.{standard}
use Rattle.base64.specs.GeneralPurpose.{decode_of as base64_of}
use Rattle.hex.specs.Hex.{decode_of as hex_of}
use Rattle.oi_negotiate.specs.Keys.{is_text}
use Rattle.oi_text.specs.Pairs.{is_key_byte, is_value_byte}
use Rattle.oi_text.specs.declared.pairs.Pair.{Pair}

abbrev pub is_pair : List ℕ → List ℕ → Bool
is_pair key value =
    nat_lt 0 (length key) && nat_le (length key) 63 && list_all is_key_byte key && nat_le (length value) 8192 && list_all is_value_byte value

abbrev pub pair_if : List ℕ → List ℕ → Option Pair
pair_if key value = if is_pair key value then Some (record { key = key; value = value }) else None

-- a piece behind a part of its key: the key ends at the first `=`
abbrev pub pair_from : List ℕ → List ℕ → Option Pair
pair_from key [] = None
pair_from key (b ∷ bs) = if b == 61 then pair_if key bs else pair_from (key ++ b ∷ []) bs

abbrev pub in_front : Option Pair → Option (List Pair) → Option (List Pair)
in_front None rest = None
in_front (Some p) None = None
in_front (Some p) (Some ps) = Some (p ∷ ps)

-- a text behind a part of its first piece: each piece ends in a zero byte
abbrev pub pairs_from : List ℕ → List ℕ → Option (List Pair)
pairs_from piece [] = if length piece == 0 then Some [] else None
pairs_from piece (b ∷ bs) = if b == 0 then in_front (pair_from [] piece) (pairs_from [] bs) else pairs_from (piece ++ b ∷ []) bs

-- the pairs of a text; None where it is no list of pairs
unfoldable pub text_pairs : List ℕ → Option (List Pair)
text_pairs bytes = pairs_from [] bytes

-- one of the values of a list, which commas part
abbrev pub lists : List ℕ → List ℕ → Bool
lists word values = list_any (λ value. is_text value word) (slice_split (λ b. b == 44) values)

abbrev pub body_bytes : ℕ → List ℕ → Option (List ℕ)
body_bytes letter body =
    if letter == 120 || letter == 88 then result_ok (hex_of body)
    else (if letter == 98 || letter == 66 then result_ok (base64_of standard body) else None)

-- the bytes of a binary value; None where it is none
abbrev pub binary_bytes : List ℕ → Option (List ℕ)
binary_bytes [] = None
binary_bytes (first ∷ []) = None
binary_bytes (first ∷ letter ∷ body) = if first == 48 then body_bytes letter body else None
