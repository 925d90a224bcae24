-- The key of a node record: whose record it is, the order of keys, and the path of a key's text.
use Rattle.std.specs.Prelude.{◌<◌, ◌^◌, ℕ, Option, List, ◌∷◌, ◌++◌, codes}
use Rattle.std.specs.Cmp.Lexicographic.{slice_cmp}
use Rattle.std.specs.Fmt.{decimal}
use Rattle.std.specs.Ordering.{nat_cmp, on, then_cmp}
use Rattle.std.specs.declared.cmp.Ordering.{Ordering}
use Rattle.oi_names.specs.declared.portal.Portal.{Portal}
use Rattle.oi_names.specs.Names.{IsIface, IsName}
use Rattle.oi_names.specs.Portals.{IsPortalOf}

-- a target at a portal with this portal group tag, through an interface
pub record Key : Type 0 where
  pub target : List ℕ
  pub portal : Portal
  pub tag : ℕ
  pub iface : List ℕ

-- some text is read as this portal
abbrev pub IsRead : Portal → Type 0
IsRead portal = (text : List ℕ) × (tag : Option ℕ) × IsPortalOf portal.address portal.port tag text

-- the parts are in their grammars, and the tag fits its field
pub record IsKey (key : Key) : Type 0 where
  pub name : IsName key.target
  pub place : IsRead key.portal
  pub group : key.tag < 2 ^ 16
  pub interface : IsIface key.iface

-- keys go by the bytes of the target, then those of the address, then port and tag, then the bytes of the interface
abbrev pub key_cmp : Key → Key → Ordering
key_cmp =
    then_cmp (on (λ k. k.target) (slice_cmp nat_cmp))
    (then_cmp (on (λ k. k.portal.address) (slice_cmp nat_cmp))
    (then_cmp (on (λ k. k.portal.port) nat_cmp)
    (then_cmp (on (λ k. k.tag) nat_cmp) (on (λ k. k.iface) (slice_cmp nat_cmp)))))

-- `nodes/TARGET/ADDRESS,PORT,TAG/IFACE`
abbrev pub path_text : Key → List ℕ
path_text key =
    codes "nodes/" ++ (key.target ++ 47 ∷ (key.portal.address ++ 44 ∷ (decimal key.portal.port ++ 44 ∷ (decimal key.tag ++ 47 ∷ key.iface))))
