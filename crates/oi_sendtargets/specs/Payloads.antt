-- The answer to SendTargets (RFC 7143, appendix C): the name of each target, and behind it its addresses.
use Rattle.std.specs.Prelude.{◌≡◌, ◌≢◌, ◌⊎◌, ℕ, List, [], ◌∷◌, ◌++◌, codes, map, length}
use Rattle.std.specs.List.{flat_map}
use Rattle.oi_base.specs.Counts.{told}
use Rattle.oi_names.specs.Names.{IsName}
use Rattle.oi_text.specs.Pairs.{text_of, IsText, IsMalformedAt}
use Rattle.oi_text.specs.declared.pairs.Pair.{Pair}
use Rattle.oi_sendtargets.specs.declared.found.TargetsFault.{TargetsFault}
use Rattle.oi_sendtargets.specs.declared.found.TargetsFault.TheVariants.{Malformed, Memory}

abbrev pub target_name : List ℕ
target_name = codes "TargetName"

abbrev pub target_address : List ℕ
target_address = codes "TargetAddress"

-- what is said of one target: its name, and the texts of its addresses
pub record Target : Type 0 where
  pub name : List ℕ
  pub addresses : List (List ℕ)

abbrev pub pair_of : List ℕ → List ℕ → Pair
pair_of k v = record { key = k; value = v }

-- the pairs of a target: its name, then each address
abbrev pub target_pairs : Target → List Pair
target_pairs t = pair_of target_name t.name ∷ map (pair_of target_address) t.addresses

abbrev pub listing_pairs : List Target → List Pair
listing_pairs targets = flat_map target_pairs targets

-- the targets as bytes
abbrev pub payload_of : List Target → List ℕ
payload_of targets = text_of (listing_pairs targets)

-- each has the name of a target
abbrev pub AreNamed : List Target → Type 0
AreNamed [] = Unit {0}
AreNamed (t ∷ ts) = IsName t.name × AreNamed ts

-- the pairs are a list of these targets
pub record IsListing (pairs : List Pair) (targets : List Target) : Type 0 where
  pub whole : pairs ≡ listing_pairs targets
  pub names : AreNamed targets

-- the pair can stand behind these targets: a name, or an address of the last one
abbrev pub CanFollow : List Target → Pair → Type 0
CanFollow targets p = ((p.key ≡ target_name) × IsName p.value) ⊎ ((p.key ≡ target_address) × (targets ≢ []))

-- behind some targets comes, at this place, the first pair that cannot stand there
pub record IsStrayAt (pairs : List Pair) (place : ℕ) : Type 0 where
  pub targets : List Target
  pub stray : Pair
  pub more : List Pair
  pub whole : pairs ≡ listing_pairs targets ++ stray ∷ more
  pub names : AreNamed targets
  pub none : CanFollow targets stray → ⊥
  pub at : place ≡ length (payload_of targets)

-- the payload is no list of targets: a piece of it is no pair, or a pair cannot stand where it does
abbrev pub IsBadAt : List ℕ → ℕ → Type 0
IsBadAt payload place = IsMalformedAt payload place ⊎ ((pairs : List Pair) × IsText payload pairs × IsStrayAt pairs place)

-- what a fault says of the payload
abbrev pub IsFault : List ℕ → TargetsFault → Type 0
IsFault payload (Malformed place) = (at : ℕ) × (place ≡ told at) × IsBadAt payload at
IsFault payload Memory = Unit {0}
