-- What a reading half of a link tells, and what its calls answer.
use Rattle.std.specs.Prelude.{◌≡◌, ℕ, Bool, ◌+◌, ◌<◌, ◌≤◌, List, [], ◌++◌, length, take, Option, Some, None}
use Rattle.oi_base.specs.Counts.{Rose}
use Rattle.oi_outside.specs.declared.link_read.ReadTurn.{ReadTurn}
use Rattle.oi_outside.specs.declared.link_read.ReadTurn.TheVariants.{Got, NotYet, End, Failed}

-- The number of the dial that made the link, whether this end was accepted, the bytes taken, how many calls it had, and
-- its last answer
pub record ReadHalf : Type 0 where
  pub dial : ℕ
  pub accepted : Bool
  pub taken : List ℕ
  pub calls : ℕ
  pub last : Option ReadTurn

-- the half of a new link
abbrev pub new_read_half : ℕ → Bool → ReadHalf
new_read_half dial accepted = record { dial = dial; accepted = accepted; taken = []; calls = 0; last = None }

-- the bytes taken, with those that an answer leaves in the buffer
abbrev pub with_got : ReadTurn → List ℕ → List ℕ → List ℕ
with_got (Got n) buffer taken = taken ++ take n buffer
with_got NotYet buffer taken = taken
with_got End buffer taken = taken
with_got Failed buffer taken = taken

-- the half after a call with this answer, which left this buffer
abbrev pub after_read : ReadTurn → List ℕ → ReadHalf → ReadHalf
after_read turn buffer half = record half { taken = with_got turn buffer half.taken; calls = half.calls + 1; last = Some turn }

-- a call that got bytes got one at least, and no more than its buffer takes
abbrev pub IsGotSize : ReadTurn → List ℕ → Type 0
IsGotSize (Got n) buffer = (0 < n) × (n ≤ length buffer)
IsGotSize NotYet buffer = Unit {0}
IsGotSize End buffer = Unit {0}
IsGotSize Failed buffer = Unit {0}

-- the count of faults rose exactly where the call failed
abbrev pub IsReadCounted : ReadTurn → ℕ → ℕ → Type 0
IsReadCounted (Got n) before now = now ≡ before
IsReadCounted NotYet before now = now ≡ before
IsReadCounted End before now = now ≡ before
IsReadCounted Failed before now = Rose before now
