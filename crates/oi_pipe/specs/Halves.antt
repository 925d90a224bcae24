-- How contracts see the halves of a pipe, from what their seats know.
use Rattle.std.specs.Prelude.{◌≡◌, ℕ, false, List, [], ◌++◌}
use Rattle.atomic_table.specs.Seated.{TableId}
use Rattle.atomic_table.specs.Table.{Me}
use Rattle.oi_pipe.specs.declared.view.View.{View}
use Rattle.oi_pipe.specs.declared.turn.PipeTurn.{PipeTurn}
use Rattle.oi_pipe.specs.declared.turn.PipeTurn.TheVariants.{Moved, NotYet, End}
use Rattle.oi_pipe.specs.Views.{Slot, left, saw_open, saw_closed}
use Rattle.oi_pipe.specs.Turns.{Reader, Writer, Ends}

-- a reader, from its pipe and what its seat knows
abbrev pub reader_of : TableId → View → Reader
reader_of pipe v = record { pipe = pipe; room = v.room; taken = v.taken; ended = v.ended; busy = v.busy; waits = v.waits }

-- a writer, from its pipe and what its seat knows
abbrev pub writer_of : TableId → View → Writer
writer_of pipe v = record { pipe = pipe; room = v.room; given = v.given; closed = v.closed; busy = v.busy; waits = v.waits }

-- the two lists, from what the joined seat knows
abbrev pub ends_of : View → Ends
ends_of v = record { taken = v.taken; given = v.given }

-- what was taken is a front of what was given
abbrev pub IsFront : View → Type 0
IsFront v = (inside : List ℕ) × (v.given ≡ v.taken ++ inside)

-- what a reader that has found the pipe empty answers: the seat before, the seat after and the answer
abbrev pub IsEmptyTurn : View → Me Slot View → PipeTurn → Type 0
IsEmptyTurn v n (Moved count) = ⊥
IsEmptyTurn v n NotYet = (n ≡ (left (saw_open v), [])) × (v.ended ≡ false)
IsEmptyTurn v n End = n ≡ (left (saw_closed v), [])
