-- Names of initiators and targets (RFC 7143, section 4.2.7).
use Rattle.std.specs.Prelude.{◌≡◌, ℕ, Bool, ◌&&◌, ◌||◌, ◌==◌, nat_le, List, [], ◌∷◌}
use Rattle.oi_base.specs.Counts.{told}
use Rattle.oi_base.specs.Fronts.{IsPlace}
use Rattle.oi_names.specs.Grammars.{IsEither, IsLed, IsRun}
use Rattle.oi_names.specs.declared.fault.NameFault.{NameFault}
use Rattle.oi_names.specs.declared.fault.NameFault.TheVariants.{Bad, Memory}

-- letters, digits, `.`, `-`, `:`, `_`
abbrev pub is_name_byte : ℕ → Bool
is_name_byte c =
    (nat_le 97 c && nat_le c 122) || (nat_le 65 c && nat_le c 90) || (nat_le 48 c && nat_le c 57)
    || c == 46 || c == 45 || c == 58 || c == 95

-- lower-case letters, digits, `_`
abbrev pub is_iface_byte : ℕ → Bool
is_iface_byte c = (nat_le 97 c && nat_le c 122) || (nat_le 48 c && nat_le c 57) || c == 95

-- the types of names: `iqn.`, `eui.`, `naa.`
abbrev pub iqn : List ℕ
iqn = 105 ∷ 113 ∷ 110 ∷ 46 ∷ []

abbrev pub eui : List ℕ
eui = 101 ∷ 117 ∷ 105 ∷ 46 ∷ []

abbrev pub naa : List ℕ
naa = 110 ∷ 97 ∷ 97 ∷ 46 ∷ []

-- what stands behind the type: 1 to 219 bytes
abbrev pub IsNameRest : List ℕ → Type 0
IsNameRest = IsRun is_name_byte 1 219

-- a name: 5 to 223 bytes, of which the first four say its type
abbrev pub IsName : List ℕ → Type 0
IsName = IsEither (IsLed iqn IsNameRest) (IsEither (IsLed eui IsNameRest) (IsLed naa IsNameRest))

-- the name of an interface: 1 to 32 bytes
abbrev pub IsIface : List ℕ → Type 0
IsIface = IsRun is_iface_byte 1 32

-- why a text is no word of a grammar: it leaves the grammar at the place
abbrev pub IsFault : (List ℕ → Type 0) → List ℕ → NameFault → Type 0
IsFault G text (Bad place) = (G text → ⊥) × ((at : ℕ) × (place ≡ told at) × IsPlace G text at)
IsFault G text Memory = Unit {0}
