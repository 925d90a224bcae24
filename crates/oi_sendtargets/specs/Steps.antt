-- What the steps of reading and writing say.
use Rattle.std.specs.Prelude.{◌≡◌, ◌⊎◌, ℕ, Bool, List, [], ◌∷◌, ◌++◌, map, nat_eq}
use Rattle.std.specs.Cmp.Lexicographic.{pointwise}
use Rattle.oi_base.specs.Counts.{told}
use Rattle.oi_names.specs.Names.{IsName}
use Rattle.oi_names.specs.Portals.{IsPortal}
use Rattle.oi_text.specs.declared.pairs.Pair.{Pair}
use Rattle.oi_sendtargets.specs.declared.found.Found.{Found}
use Rattle.oi_sendtargets.specs.declared.found.TargetsFault.{TargetsFault}
use Rattle.oi_sendtargets.specs.declared.found.TargetsFault.TheVariants.{Malformed, Memory}
use Rattle.oi_sendtargets.specs.Payloads.{target_name, target_address, target_pairs, IsStrayAt}
use Rattle.oi_sendtargets.specs.Listings.{IsAddressOf}

-- the pair has the key of an address
abbrev pub is_address : Pair → Bool
is_address p = pointwise nat_eq p.key target_address

abbrev pub values : List Pair → List (List ℕ)
values pairs = map (λ p. p.value) pairs

-- no address begins the pairs
abbrev pub NoAddress : List Pair → Type 0
NoAddress pairs = (p : Pair) (more : List Pair) → pairs ≡ p ∷ more → p.key ≡ target_address → ⊥

-- no target begins the pairs
abbrev pub NoTarget : List Pair → Type 0
NoTarget pairs = (p : Pair) (more : List Pair) → pairs ≡ p ∷ more → p.key ≡ target_name → IsName p.value → ⊥

-- a target begins the pairs, with all of its addresses
pub record BeginsWith (pairs : List Pair) (name : List ℕ) (addresses more : List Pair) : Type 0 where
  pub whole : pairs ≡ target_pairs record { name = name; addresses = values addresses } ++ more
  pub named : IsName name
  pub end : NoAddress more

-- what a fault says of the pairs
abbrev pub IsStray : List Pair → TargetsFault → Type 0
IsStray pairs (Malformed place) = (at : ℕ) × (place ≡ told at) × IsStrayAt pairs at
IsStray pairs Memory = Unit {0}

-- the list grew by what is given
abbrev pub Adds : (List Found → Type 0) → List Found → List Found → Type 0
Adds G old new = (more : List Found) × (new ≡ old ++ more) × G more

-- the list grew by the portal of this address, or stayed as it was where the address is outside the grammar of portals
abbrev pub AddressAdds : List ℕ → List ℕ → List Found → List Found → Type 0
AddressAdds name address old new =
    ((IsPortal address → ⊥) × (new ≡ old)) ⊎ ((f : Found) × (new ≡ old ++ f ∷ []) × (f.target ≡ name) × IsAddressOf f address)

-- the portal is one of this target
abbrev pub has_name : List ℕ → Found → Bool
has_name name f = pointwise nat_eq f.target name
