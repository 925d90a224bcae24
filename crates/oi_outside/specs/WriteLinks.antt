-- What a writing half of a link tells, and what its calls answer.
use Rattle.std.specs.Prelude.{◌≡◌, ℕ, Bool, ◌+◌, ◌<◌, ◌≤◌, List, [], ◌++◌, length, take, Option, Some, None}
use Rattle.oi_base.specs.Counts.{Rose}
use Rattle.oi_outside.specs.declared.link_write.WriteTurn.{WriteTurn}
use Rattle.oi_outside.specs.declared.link_write.WriteTurn.TheVariants.{Took, NotYet, Failed}

-- The number of the dial that made the link, whether this end was accepted, the bytes given, how many calls it had, and
-- its last answer
pub record WriteHalf : Type 0 where
  pub dial : ℕ
  pub accepted : Bool
  pub given : List ℕ
  pub calls : ℕ
  pub last : Option WriteTurn

-- the half of a new link
abbrev pub new_write_half : ℕ → Bool → WriteHalf
new_write_half dial accepted = record { dial = dial; accepted = accepted; given = []; calls = 0; last = None }

-- the bytes given, with those of a piece that an answer says were taken
abbrev pub with_taken : WriteTurn → List ℕ → List ℕ → List ℕ
with_taken (Took n) piece given = given ++ take n piece
with_taken NotYet piece given = given
with_taken Failed piece given = given

-- the half after a call with this piece and this answer
abbrev pub after_write : WriteTurn → List ℕ → WriteHalf → WriteHalf
after_write turn piece half = record half { given = with_taken turn piece half.given; calls = half.calls + 1; last = Some turn }

-- a call that took bytes took one at least, and no more than the piece has
abbrev pub IsTookSize : WriteTurn → List ℕ → Type 0
IsTookSize (Took n) piece = (0 < n) × (n ≤ length piece)
IsTookSize NotYet piece = Unit {0}
IsTookSize Failed piece = Unit {0}

-- the count of faults rose exactly where the call failed
abbrev pub IsWriteCounted : WriteTurn → ℕ → ℕ → Type 0
IsWriteCounted (Took n) before now = now ≡ before
IsWriteCounted NotYet before now = now ≡ before
IsWriteCounted Failed before now = Rose before now
