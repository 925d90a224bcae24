-- What a payload tells of its targets, and the one payload that tells it (RFC 7143, appendix C).
use Rattle.std.specs.Prelude.{◌≡◌, ◌≤◌, ◌⊎◌, ℕ, Option, List, [], ◌∷◌, ◌++◌, map, unwrap_or, nat_eq, if◌then◌else◌}
use Rattle.std.specs.Fmt.{decimal}
use Rattle.std.specs.Cmp.Lexicographic.{pointwise}
use Rattle.oi_names.specs.Names.{IsName}
use Rattle.oi_names.specs.Portals.{IsPortal, IsPortalOf, portal_text}
use Rattle.oi_names.specs.declared.portal.Portal.{Portal}
use Rattle.oi_text.specs.Pairs.{IsText}
use Rattle.oi_text.specs.declared.pairs.Pair.{Pair}
use Rattle.oi_sendtargets.specs.declared.found.Found.{Found}
use Rattle.oi_sendtargets.specs.Payloads.{Target, IsListing}

-- the list is what the items give, one behind the other
abbrev pub AreGiven : {A : Type 0} → (A → List Found → Type 0) → List A → List Found → Type 0
AreGiven G [] found = found ≡ []
AreGiven G (x ∷ xs) found = (here : List Found) × (more : List Found) × (found ≡ here ++ more) × G x here × AreGiven G xs more

-- the address is one of this portal with its tag, which is 1 where the address has none
abbrev pub IsAddressOf : Found → List ℕ → Type 0
IsAddressOf f address = (tag : Option ℕ) × IsPortalOf f.portal.address f.portal.port tag address × (f.tag ≡ unwrap_or tag 1)

-- an address of a target gives its portal, and nothing where it is outside the grammar of portals
abbrev pub AddressGives : List ℕ → List ℕ → List Found → Type 0
AddressGives name address found =
    ((IsPortal address → ⊥) × (found ≡ []))
    ⊎ ((f : Found) × (found ≡ f ∷ []) × (f.target ≡ name) × IsAddressOf f address)

-- a name without addresses gives the portal that was asked, with tag 1
abbrev pub NameGives : Portal → List ℕ → List (List ℕ) → List Found → Type 0
NameGives asked name [] found = found ≡ record { target = name; portal = asked; tag = 1 } ∷ []
NameGives asked name (address ∷ more) found = AreGiven (AddressGives name) (address ∷ more) found

abbrev pub TargetGives : Portal → Target → List Found → Type 0
TargetGives asked t found = NameGives asked t.name t.addresses found

-- what the pairs tell where this portal was asked
abbrev pub IsFoundIn : List Pair → Portal → List Found → Type 0
IsFoundIn pairs asked found = (targets : List Target) × IsListing pairs targets × AreGiven (TargetGives asked) targets found

-- what the payload tells where this portal was asked
abbrev pub IsFound : List ℕ → Portal → List Found → Type 0
IsFound payload asked found = (pairs : List Pair) × IsText payload pairs × IsFoundIn pairs asked found

-- `ADDRESS:PORT,TAG`
abbrev pub address_text : Found → List ℕ
address_text f = portal_text f.portal.address f.portal.port ++ 44 ∷ decimal f.tag

-- a target that is reached at these portals
abbrev pub target_at : List ℕ → List Found → Target
target_at name found = record { name = name; addresses = map address_text found }

-- a portal in front of others: an address more of the first target, where that has the same name
abbrev pub joined : Found → List Target → List Target
joined f [] = target_at f.target (f ∷ []) ∷ []
joined f (t ∷ ts) =
    if pointwise nat_eq t.name f.target then record { name = t.name; addresses = address_text f ∷ t.addresses } ∷ ts
    else target_at f.target (f ∷ []) ∷ t ∷ ts

-- neighbours with one name are one target
abbrev pub targets_of : List Found → List Target
targets_of [] = []
targets_of (f ∷ fs) = joined f (targets_of fs)

-- what can be read again: the target has a name, and some text stands for the portal
pub record IsReadable (f : Found) : Type 0 where
  pub name : IsName f.target
  pub portal : (text : List ℕ) × (tag : Option ℕ) × IsPortalOf f.portal.address f.portal.port tag text
  pub tag : f.tag ≤ 65535

abbrev pub AreReadable : List Found → Type 0
AreReadable [] = Unit {0}
AreReadable (f ∷ fs) = IsReadable f × AreReadable fs
