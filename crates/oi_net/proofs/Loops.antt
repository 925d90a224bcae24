-- Ports of portals.
use Rattle.std.proofs.Common.{ℕ, ◌≡◌, List, [], ◌∷◌, ◌||◌, map, refl, ap}
use Rattle.std.specs.List.{list_any}
use Rattle.std.specs.Str.{bytes_eq}
use Rattle.oi_net.specs.declared.loop_net.Port.{Port}
use Rattle.oi_outside.specs.MemNets.{is_listened}

-- a portal is listened to where a port is its own
pub ports_listened : (portal : List ℕ) (ports : List Port) → list_any (λ p. bytes_eq p.portal portal) ports ≡ is_listened (map (λ p. p.portal) ports) portal
ports_listened portal [] = refl
ports_listened portal (p ∷ ps) = ap (λ b. bytes_eq p.portal portal || b) (ports_listened portal ps)
