-- All connections learn of resets, one after another.
use Rattle.std.proofs.Common.{ℕ, Bool, true, false, ◌≡◌, ◌==◌, Some, List, [], ◌∷◌, ◌++◌, refl, if◌then◌else◌}
use Rattle.oi_target.proofs.Placed.{over}
use Rattle.oi_target.specs.Targets.{Reached, learned, link_at, link_of, reset_each}
use Rattle.oi_target.specs.declared.link.Link.{Link}
use Rattle.oi_target_session.specs.declared.reset.Reset.{Reset}
use Rattle.oi_units.specs.declared.unit.LogicalUnit.{LogicalUnit}

-- connections that learnt of it before
abbrev pub reached_after : List Link → Reached → Reached
reached_after ls r = record { units = r.units; links = ls ++ r.links }

-- what a connection is afterwards
abbrev pub relearned : Reset → List LogicalUnit → Link → Link
relearned reset units l = link_at l.number l.splitter (learned reset units l.standing).standing

-- a connection is found as what it learnt, on the units that those before it left
pub link_reached : (n : ℕ) (reset : Reset) (units : List LogicalUnit) (ls : List Link)
    → (u : List LogicalUnit) × (link_of n (reset_each reset units ls).links ≡ over (relearned reset u) (link_of n ls))
link_reached n reset units [] = (units, refl)
link_reached n reset units (l ∷ ls) = go (l.number == n) (link_reached n reset (learned reset units l.standing).units ls) where
  rest : List Link
  rest = (reset_each reset (learned reset units l.standing).units ls).links

  go : (b : Bool) → (u : List LogicalUnit) × (link_of n rest ≡ over (relearned reset u) (link_of n ls))
      → (u : List LogicalUnit) × ((if b then Some (relearned reset units l) else link_of n rest) ≡ over (relearned reset u) (if b then Some l else link_of n ls))
  go true found = (units, refl)
  go false found = found
