-- Numbers of a line as values: decimal ones in a range, and hex digits of a fixed count.
use Rattle.std.specs.Prelude.{ℕ, List, Option, Some, None, Bool, ◌&&◌, nat_eq, nat_le, slice_index, if◌then◌else◌}
use Rattle.std.specs.Cmp.Lexicographic.{pointwise}
use Rattle.std.specs.Fmt.{decimal}
use Rattle.std.specs.Int.{from_be_bytes, w64}
use Rattle.std.specs.Option.{option_map}
use Rattle.std.specs.Result.{result_ok}
use Rattle.std.specs.Str.Parse.{digits_value}
use Rattle.hex.specs.Hex.{decode_sized}

abbrev pub is_text : List ℕ → List ℕ → Bool
is_text a b = pointwise nat_eq a b

-- the number that the text is the decimal form of, where it is from low to high
abbrev pub number_in : ℕ → ℕ → List ℕ → Option ℕ
number_in low high text =
    if nat_le low (digits_value 10 text) && nat_le (digits_value 10 text) high && is_text text (decimal (digits_value 10 text))
    then Some (digits_value 10 text)
    else None

-- the byte of two hex digits
abbrev pub byte_in : List ℕ → Option ℕ
byte_in text = option_map (λ bytes. slice_index bytes 0) (result_ok (decode_sized text 1))

-- the number of sixteen hex digits, the first ones the greatest
abbrev pub key_in : List ℕ → Option ℕ
key_in text = option_map (λ bytes. from_be_bytes w64 bytes) (result_ok (decode_sized text 8))
