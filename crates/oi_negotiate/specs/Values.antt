-- What the text of a value says (RFC 7143, section 6.1).
use Rattle.std.specs.Prelude.{ℕ, Bool, true, false, ◌||◌, ◌&&◌, ◌==◌, ◌+◌, ◌-◌, ◌*◌, List, [], ◌∷◌, Option, Some, None, codes, nat_le, if◌then◌else◌}
use Rattle.oi_base.specs.Extended.{in_range}
use Rattle.oi_negotiate.specs.Keys.{is_text}
use Rattle.oi_negotiate.specs.declared.values.Base.{Base}
use Rattle.oi_negotiate.specs.declared.values.Base.TheVariants.{Decimal, Hex}

-- the other side does not settle the key
abbrev pub is_silent : List ℕ → Bool
is_silent text = is_text text (codes "Irrelevant") || is_text text (codes "NotUnderstood")

-- Yes or No
abbrev pub word_in : List ℕ → Option Bool
word_in text = if is_text text (codes "Yes") then Some true else (if is_text text (codes "No") then Some false else None)

-- the value of a digit; hex digits are of either case
abbrev pub digit_in : Base → ℕ → Option ℕ
digit_in Decimal c = if nat_le 48 c && nat_le c 57 then Some (c - 48) else None
digit_in Hex c =
    if nat_le 48 c && nat_le c 57 then Some (c - 48)
    else (if nat_le 97 c && nat_le c 102 then Some (c - 87) else (if nat_le 65 c && nat_le c 70 then Some (c - 55) else None))

-- one digit more behind the number v
abbrev pub behind : Base → ℕ → ℕ → ℕ
behind Decimal v d = 10 * v + d
behind Hex v d = 16 * v + d

-- what f makes of the number, where there is one
abbrev pub bind : Option ℕ → (ℕ → Option ℕ) → Option ℕ
bind None f = None
bind (Some n) f = f n

-- the number of these digits behind the number v
abbrev pub value_behind : Base → ℕ → List ℕ → Option ℕ
value_behind base v [] = Some v
value_behind base v (c ∷ cs) = bind (digit_in base c) (λ d. value_behind base (behind base v d) cs)

-- the number of one or more digits, by value: zeros may lead, and it may have any length
abbrev pub value_in : Base → List ℕ → Option ℕ
value_in base [] = None
value_in base (c ∷ cs) = value_behind base 0 (c ∷ cs)

-- decimal digits, or hex digits behind 0x or 0X
abbrev pub number_in : List ℕ → Option ℕ
number_in [] = None
number_in (c ∷ []) = value_in Decimal (c ∷ [])
number_in (c ∷ x ∷ cs) = if c == 48 && (x == 120 || x == 88) then value_in Hex cs else value_in Decimal (c ∷ x ∷ cs)

-- the number of a text, where it is from low to high
abbrev pub number_within : ℕ → ℕ → List ℕ → Option ℕ
number_within low high text = bind (number_in text) (in_range low high)
