-- Texts of portals that are an address alone.
use Rattle.std.proofs.Common.{◌≡◌, ℕ, ◌≤◌, inl, inr, false, true≢false, Option, None, Some, is_some, List, ◌∷◌, ◌++◌, length, refl, sym, ap, ◌∙◌, subst, arith, length-append}
use Rattle.std.specs.Fmt.{decimal}
use Rattle.std.proofs.lemmas.List.{length-map}
use Rattle.oi_names.specs.Portals.{HasPort, HasTag, IsAddress, IsPortalOf, lower_byte, lower_case}
use Rattle.oi_names.proofs.Readings.{once}
use Rattle.oi_settings.specs.Keys.{IsRead}

pub portal_of_address : (text : List ℕ) → IsAddress text → IsPortalOf (lower_case text) 3260 None text
portal_of_address text address = (text, refl, (address, (text, inl (refl, refl), refl)))

-- what is read of an address
pub read_of_address : (text address : List ℕ) (port : ℕ) (tag : Option ℕ) → IsPortalOf address port tag text → IsAddress text → (address ≡ lower_case text) × (tag ≡ None)
read_of_address text address port tag read word = let same = once text address (lower_case text) port 3260 tag None read (portal_of_address text word) in (same.0, same.2)

alone : (text host front : List ℕ) (port : ℕ) → HasPort host port front → text ≡ front → length host ≡ length text → text ≡ host
alone text host front port (inl (same, _)) whole long = whole ∙ same
alone text host front port (inr (same, _, _)) whole long = absurd (omega (arith, ap length (whole ∙ same), length-append host (58 ∷ decimal port)))

-- a text that is read as a portal and is as long as its address is that address
pub address_alone : (text address : List ℕ) (port : ℕ) (tag : Option ℕ) → tag ≡ None → IsPortalOf address port tag text → length address ≡ length text → IsAddress text × (address ≡ lower_case text)
address_alone text address port tag none (host, lower, (word, (front, ported, tagged))) long =
    let whole : text ≡ front = subst (λ (t : Option ℕ). HasTag front t text) none tagged in
    let hosts : length host ≡ length address = sym (ap length lower ∙ length-map host lower_byte) in
    let is : text ≡ host = alone text host front port ported whole (hosts ∙ long) in
    (subst IsAddress (sym is) word, lower ∙ ap lower_case (sym is))

pub none_there : (tag : Option ℕ) → is_some tag ≡ false → tag ≡ None
none_there None e = refl
none_there (Some t) e = absurd (true≢false e)

-- an address with a port behind it is read as that portal
pub portal_with_port : (host : List ℕ) (port : ℕ) → IsAddress host → 1 ≤ port → port ≤ 65535 → IsPortalOf (lower_case host) port None (host ++ 58 ∷ decimal port)
portal_with_port host port word low high = (host, refl, (word, (host ++ 58 ∷ decimal port, inr (refl, low, high), refl)))

-- the portal of an address and a port is one that a text names
pub read_from : (address host : List ℕ) (port : ℕ) → address ≡ lower_case host → IsAddress host → 1 ≤ port → port ≤ 65535 → IsRead record { address = address; port = port }
read_from address host port lower word low high =
    (host ++ 58 ∷ decimal port, None, subst (λ (a : List ℕ). IsPortalOf a port None (host ++ 58 ∷ decimal port)) (sym lower) (portal_with_port host port word low high))
