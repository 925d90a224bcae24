-- What the readers of single options answer.
use Rattle.std.specs.Prelude.{◌≡◌, ℕ, List, Option, Result, Ok, Err}
use Rattle.oi_names.specs.Names.{IsIface, IsName}
use Rattle.oi_names.specs.Portals.{IsPortalOf}
use Rattle.oi_names.specs.declared.portal.Portal.{Portal}
use Rattle.oi_words.specs.declared.fault.WordsFault.{WordsFault}
use Rattle.oi_words.specs.declared.fault.WordsFault.TheVariants.{Invalid, Memory}
use Rattle.oi_admin.specs.Commands.{AsksPortal}

-- a reading has the property, and is refused exactly where none has
abbrev pub IsReadBy : {T : Type 0} → (T → Type 0) → Result T WordsFault → Type 0
IsReadBy P (Ok value) = P value
IsReadBy P (Err Invalid) = (value : _) → P value → ⊥
IsReadBy P (Err Memory) = Unit {0}

-- a name, a portal with its tag, the name of an interface
abbrev pub IsNameOf : List ℕ → List ℕ → Type 0
IsNameOf text name = (name ≡ text) × IsName text

abbrev pub IsPlaceOf : List ℕ → Portal × Option ℕ → Type 0
IsPlaceOf text place = IsPortalOf place.0.address place.0.port place.1 text

abbrev pub IsIfaceOf : List ℕ → List ℕ → Type 0
IsIfaceOf text iface = (iface ≡ text) × IsIface text

abbrev pub AsksPlace : Option (List ℕ) → Option Portal × Option ℕ → Type 0
AsksPlace given asked = AsksPortal given asked.0 asked.1
