-- How far a text goes in a grammar, and whether what it has gone through is a word.
use Rattle.std.specs.Prelude.{◌≡◌, ℕ, true, List, take, nat_lt, if◌then◌else◌, ◌||◌}
use Rattle.oi_base.specs.Fronts.{IsPlace}
use Rattle.oi_names.specs.declared.reach.Reach.{Reach}

pub record IsReach (G : List ℕ → Type 0) (text : List ℕ) (reach : Reach) : Type 0 where
  pub at : IsPlace G text reach.place
  pub word : reach.whole ≡ true → G (take reach.place text)
  pub only : G (take reach.place text) → reach.whole ≡ true

-- the further one of two
abbrev pub further : Reach → Reach → Reach
further a b =
    if nat_lt a.place b.place then b
    else (if nat_lt b.place a.place then a else record { place = a.place; whole = a.whole || b.whole })
