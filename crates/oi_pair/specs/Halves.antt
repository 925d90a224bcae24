-- What the slots of a pair's table hold.
use Rattle.std.specs.Prelude.{◌≡◌, List, [], ◌∷◌, Option, Some}
use Rattle.oi_pair.specs.declared.half.Half.{Half}
use Rattle.oi_pair.specs.declared.half.Half.TheVariants.{Forward, Back}

module _ {F B : Type 0} where
  abbrev pub HasForward : Option (Half F B) → Type 0
  HasForward slot = (half : F) × (slot ≡ Some (Forward half))

  abbrev pub HasBack : Option (Half F B) → Type 0
  HasBack slot = (half : B) × (slot ≡ Some (Back half))

  -- both slots, forward half first
  abbrev pub HasBoth : List (Option (Half F B)) → Type 0
  HasBoth slots = (forward : F) × (back : B) × (slots ≡ Some (Forward forward) ∷ Some (Back back) ∷ [])
