-- The two halves as contracts see them, and what their calls answer.
use Rattle.std.specs.Prelude.{◌≡◌, ℕ, Bool, true, false, ◌+◌, ◌<◌, ◌≤◌, ◌⊎◌, List, [], ◌++◌, length, take, drop}
use Rattle.atomic_table.specs.Seated.{TableId}
use Rattle.oi_pipe.specs.declared.turn.PipeTurn.{PipeTurn}
use Rattle.oi_pipe.specs.declared.turn.PipeTurn.TheVariants.{Moved, NotYet, End}

-- A reader: its pipe, the room, the bytes that it took, and whether it has seen the end.
-- `busy` counts its calls that found the other half inside a call, and `waits` those that found the pipe empty and not closed
pub record Reader : Type 0 where
  pub pipe : TableId
  pub room : ℕ
  pub taken : List ℕ
  pub ended : Bool
  pub busy : ℕ
  pub waits : ℕ

-- A writer: its pipe, the room, the bytes that it gave, and whether it is closed.
-- `busy` counts its calls that found the other half inside a call, and `waits` those that found the pipe full
pub record Writer : Type 0 where
  pub pipe : TableId
  pub room : ℕ
  pub given : List ℕ
  pub closed : Bool
  pub busy : ℕ
  pub waits : ℕ

-- where two halves have met: the bytes that the reader took, and those that the writer gave
pub record Ends : Type 0 where
  pub taken : List ℕ
  pub given : List ℕ

-- a reader that has taken nothing
abbrev pub new_reader : TableId → ℕ → Reader
new_reader pipe room = record { pipe = pipe; room = room; taken = []; ended = false; busy = 0; waits = 0 }

-- a writer that has given nothing
abbrev pub new_writer : TableId → ℕ → Writer
new_writer pipe room = record { pipe = pipe; room = room; given = []; closed = false; busy = 0; waits = 0 }

-- what a read into a buffer answers
abbrev pub IsRead : Reader → Reader → List ℕ → List ℕ → PipeTurn → Type 0
IsRead old new before after (Moved n) = (0 < n) × (n ≤ length before) × (new ≡ record old { taken = old.taken ++ take n after }) × (drop n after ≡ drop n before) × (old.ended ≡ false)
IsRead old new before after NotYet = (after ≡ before) × ((new ≡ record old { busy = old.busy + 1 }) ⊎ ((new ≡ record old { waits = old.waits + 1 }) × (old.ended ≡ false)))
IsRead old new before after End = (after ≡ before) × (new ≡ record old { ended = true })

-- what a write of a piece answers
abbrev pub IsWritten : Writer → Writer → List ℕ → PipeTurn → Type 0
IsWritten old new piece (Moved n) = (0 < n) × (n ≤ length piece) × (new ≡ record old { given = old.given ++ take n piece })
IsWritten old new piece NotYet = (new ≡ record old { busy = old.busy + 1 }) ⊎ ((new ≡ record old { waits = old.waits + 1 }) × (old.room ≤ length old.given))
IsWritten old new piece End = ⊥
