-- A session's history: its entries, the newest first.
use Rattle.std.specs.Prelude.{◌<◌, ℕ, List, [], ◌∷◌, length}
use Rattle.oi_history.specs.declared.event.Event.{Event}
use Rattle.oi_history.specs.declared.event.Numbered.{Numbered}

-- a further entry, with the number of those before it
abbrev pub enter : Event → List Numbered → List Numbered
enter e H = record { number = length H; event = e } ∷ H

-- the number is above all before it
abbrev pub IsAbove : ℕ → List Numbered → Type 0
IsAbove number [] = Unit {0}
IsAbove number (n ∷ H) = n.number < number
