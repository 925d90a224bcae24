-- Portals: an address, and behind it a port and a portal group tag, as the key TargetAddress has them (RFC 7143,
-- section 13.8).
use Rattle.std.specs.Prelude.{◌≡◌, ◌≤◌, ◌+◌, ◌⊎◌, ℕ, zero, suc, Bool, ◌&&◌, ◌||◌, ◌==◌, nat_le, if◌then◌else◌, Option, Some, None, List, [], ◌∷◌, ◌++◌, map}
use Rattle.std.specs.Fmt.{decimal}
use Rattle.oi_base.specs.Decimal.{IsNumber}
use Rattle.oi_names.specs.Grammars.{IsEither, IsExtended, IsJoined, IsLed, IsRun}

-- numbers from 0 to 255 with so many dots between them
abbrev pub IsDotted : ℕ → List ℕ → Type 0
IsDotted zero = IsNumber 0 255
IsDotted (suc dots) = IsJoined (IsNumber 0 255) 46 (IsDotted dots)

-- hex digits and colons
abbrev pub is_inner : ℕ → Bool
is_inner c =
    (nat_le 48 c && nat_le c 57) || (nat_le 97 c && nat_le c 102) || (nat_le 65 c && nat_le c 70) || c == 58

abbrev pub IsEmpty : List ℕ → Type 0
IsEmpty text = text ≡ []

-- `[`, 2 to 39 hex digits and colons, `]`
abbrev pub IsBracketed : List ℕ → Type 0
IsBracketed = IsLed (91 ∷ []) (IsJoined (IsRun is_inner 2 39) 93 IsEmpty)

-- an address: four numbers, or one in brackets
abbrev pub IsAddress : List ℕ → Type 0
IsAddress = IsEither (IsDotted 3) IsBracketed

-- an address, behind which a port may stand
abbrev pub IsEndpoint : List ℕ → Type 0
IsEndpoint = IsExtended IsAddress 58 (IsNumber 1 65535)

-- `ADDRESS[:PORT][,TAG]`
abbrev pub IsPortal : List ℕ → Type 0
IsPortal = IsExtended IsEndpoint 44 (IsNumber 0 65535)

-- the byte in lower case
abbrev pub lower_byte : ℕ → ℕ
lower_byte c = if nat_le 65 c && nat_le c 90 then c + 32 else c

abbrev pub lower_case : List ℕ → List ℕ
lower_case = map lower_byte

-- the address with the port behind it, which is 3260 where none stands there
abbrev pub HasPort : List ℕ → ℕ → List ℕ → Type 0
HasPort host port text =
    ((text ≡ host) × (port ≡ 3260)) ⊎ ((text ≡ host ++ 58 ∷ decimal port) × (1 ≤ port) × (port ≤ 65535))

-- the same with the tag behind it, where one stands there
abbrev pub HasTag : List ℕ → Option ℕ → List ℕ → Type 0
HasTag front None text = text ≡ front
HasTag front (Some tag) text = (text ≡ front ++ 44 ∷ decimal tag) × (tag ≤ 65535)

-- the text of a portal with the address as it stands there
abbrev pub IsSpelled : List ℕ → ℕ → Option ℕ → List ℕ → Type 0
IsSpelled host port tag text = IsAddress host × ((front : List ℕ) × HasPort host port front × HasTag front tag text)

-- the text of the portal with this address, port and tag; an address in lower case stands for its upper case too
abbrev pub IsPortalOf : List ℕ → ℕ → Option ℕ → List ℕ → Type 0
IsPortalOf address port tag text = (host : List ℕ) × (address ≡ lower_case host) × IsSpelled host port tag text

-- `ADDRESS:PORT`
abbrev pub portal_text : List ℕ → ℕ → List ℕ
portal_text address port = address ++ 58 ∷ decimal port
