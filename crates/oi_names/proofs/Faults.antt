-- The fault of a text that is no word.
use Rattle.std.proofs.Common.{◌≡◌, ℕ, List, sym, subst, refl}
use Rattle.oi_base.specs.Counts.{told}
use Rattle.oi_names.specs.Names.{IsFault}
use Rattle.oi_names.specs.Reaches.{IsReach}
use Rattle.oi_names.specs.declared.fault.NameFault.{NameFault}
use Rattle.oi_names.specs.declared.fault.NameFault.TheVariants.{Bad}
use Rattle.oi_names.specs.declared.reach.Reach.{Reach}

pub fault_at : (G : List ℕ → Type 0) (text : List ℕ) (r : Reach) (f : NameFault) → IsReach G text r → f ≡ Bad (told r.place) → (G text → ⊥) → IsFault G text f
fault_at G text r f is e none = subst (λ (g : NameFault). IsFault G text g) (sym e) (none, (r.place, refl, is.at))
