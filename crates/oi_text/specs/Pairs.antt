-- Lists of key=value pairs (RFC 7143, sections 6.1 and 6.2).
use Rattle.std.specs.Prelude.{◌≡◌, ℕ, Bool, true, ◌||◌, ◌&&◌, ◌==◌, not, nat_le, ◌<◌, ◌≤◌, List, [], ◌∷◌, ◌++◌, length}
use Rattle.std.specs.List.{list_all, flat_map}
use Rattle.oi_base.specs.Counts.{told}
use Rattle.oi_text.specs.declared.pairs.Pair.{Pair}
use Rattle.oi_text.specs.declared.pairs.TextFault.{TextFault}
use Rattle.oi_text.specs.declared.pairs.TextFault.TheVariants.{Malformed, Memory}

-- the bytes of a key: letters, digits, `.`, `-`, `+`, `@`, `_`
abbrev pub is_key_byte : ℕ → Bool
is_key_byte b =
    (nat_le 97 b && nat_le b 122) || (nat_le 65 b && nat_le b 90) || (nat_le 48 b && nat_le b 57)
    || b == 46 || b == 45 || b == 43 || b == 64 || b == 95

-- the bytes of a value: every one but zero
abbrev pub is_value_byte : ℕ → Bool
is_value_byte b = not (b == 0)

-- a key has 1 to 63 bytes, a value at most 8,192
pub record IsPair (key value : List ℕ) : Type 0 where
  pub key_some : 0 < length key
  pub key_fits : length key ≤ 63
  pub key_bytes : list_all is_key_byte key ≡ true
  pub value_fits : length value ≤ 8192
  pub value_bytes : list_all is_value_byte value ≡ true

-- one pair as text: the key, `=`, the value and a zero byte
abbrev pub spelled : List ℕ → List ℕ → List ℕ
spelled key value = key ++ 61 ∷ (value ++ 0 ∷ [])

abbrev pub pair_text : Pair → List ℕ
pair_text p = spelled p.key p.value

-- the pairs one after another
abbrev pub text_of : List Pair → List ℕ
text_of pairs = flat_map pair_text pairs

-- each one is a pair
abbrev pub ArePairs : List Pair → Type 0
ArePairs [] = Unit {0}
ArePairs (p ∷ ps) = IsPair p.key p.value × ArePairs ps

-- the bytes are these pairs
pub record IsText (bytes : List ℕ) (listed : List Pair) : Type 0 where
  pub pairs : ArePairs listed
  pub whole : bytes ≡ text_of listed

-- no pair begins the bytes
abbrev pub NoPair : List ℕ → Type 0
NoPair bytes = (key value more : List ℕ) → IsPair key value → bytes ≡ spelled key value ++ more → ⊥

-- after some pairs comes, at this place, the first piece that is none
pub record IsMalformedAt (bytes : List ℕ) (place : ℕ) : Type 0 where
  pub before : List Pair
  pub rest : List ℕ
  pub whole : bytes ≡ text_of before ++ rest
  pub pairs : ArePairs before
  pub some : 0 < length rest
  pub none : NoPair rest
  pub at : place ≡ length (text_of before)

-- what a fault says of the bytes
abbrev pub IsFault : List ℕ → TextFault → Type 0
IsFault bytes (Malformed place) = (at : ℕ) × (place ≡ told at) × IsMalformedAt bytes at
IsFault bytes Memory = Unit {0}
