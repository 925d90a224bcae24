-- Nets over the loopback interface.
use Rattle.std.specs.Prelude.{ℕ, List, Result, Ok, Err}
use Rattle.oi_outside.specs.declared.net_error.NetError.{NetError}
use Rattle.oi_outside.specs.MemNets.{with_portal}

-- a net over the loopback interface: the portals that it has a port for, and its two counts of faults
pub record LoopPorts : Type 0 where
  pub portals : List (List ℕ)
  pub faults : ℕ
  pub accept_faults : ℕ

-- the portals after a listen: one that was listened to has a port
abbrev pub portals_after : Result (Unit {0}) NetError → List ℕ → List (List ℕ) → List (List ℕ)
portals_after (Ok x) portal portals = with_portal portals portal
portals_after (Err e) portal portals = portals
