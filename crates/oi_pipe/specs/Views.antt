-- What a half of a pipe knows, and how each kind of step changes it.
use Rattle.std.specs.Prelude.{◌≡◌, ℕ, true, false, ◌+◌, ◌-◌, ◌<◌, ◌&&◌, ◌==◌, nat_le, List, [], ◌∷◌, ◌++◌, length, take, drop, Option, Some, None}
use Rattle.oi_base.specs.Counts.{bit}
use Rattle.atomic_table.specs.Seated.{TableId}
use Rattle.atomic_table.specs.Table.{Me}
use Rattle.circular_buffer.specs.Buffer.{Buffer}
use Rattle.oi_pipe.specs.declared.view.View.{View}

-- the one slot of a pipe's table: the bytes between the halves, or nothing while a half has them in hand
abbrev pub Slot : Type 0
Slot = Option (Buffer ℕ)

-- of a new pipe: both halves in one
abbrev pub opened : ℕ → View
opened room = record { room = room; reads = true; writes = true; holds = false; content = []; taken = []; given = []; closed = false; ended = false; busy = 0; waits = 0 }

-- the split: the reader's part
abbrev pub reading : View → View
reading v = record v { writes = false }

-- the split: the writer's part
abbrev pub writing : View → View
writing v = record v { reads = false }

-- the join: a reader that knows what the writer knew
abbrev pub met : View → View → View
met v w = record v { writes = true; given = w.given; closed = w.closed }

-- a half that was taken in
abbrev pub nobody : View
nobody = record { room = 0; reads = false; writes = false; holds = false; content = []; taken = []; given = []; closed = false; ended = false; busy = 0; waits = 0 }

-- a try that found the word free: the half has the bytes in hand
abbrev pub entered : View → List ℕ → View
entered v bytes = record v { holds = true; content = bytes }

-- a try that found the other half inside
abbrev pub kept_out : View → View
kept_out v = record v { busy = v.busy + 1 }

-- a leave with the bytes as they were found
abbrev pub left : View → View
left v = record v { holds = false; content = [] }

-- a leave of a writer with the bytes as they were found, which counts that they filled the room
abbrev pub left_full : View → View
left_full v = record v { holds = false; content = []; waits = v.waits + bit (v.writes && nat_le v.room (length v.content)) }

-- a leave after a read, with these bytes left
abbrev pub left_read : View → List ℕ → View
left_read v over = record v { holds = false; content = []; taken = v.taken ++ take (length v.content - length over) v.content }

-- a leave after a write, with these bytes in the pipe
abbrev pub left_written : View → List ℕ → View
left_written v full = record v { holds = false; content = []; given = v.given ++ drop (length v.content) full }

-- a look that found the pipe open, which counts that a reader had an empty pipe in hand
abbrev pub saw_open : View → View
saw_open v = record v { waits = v.waits + bit (v.reads && (v.holds && (length v.content == 0))) }

-- a look that found it closed
abbrev pub saw_closed : View → View
saw_closed v = record v { ended = true }

-- a close
abbrev pub shut : View → View
shut v = record v { closed = true }

-- the bytes that a seat has in hand
abbrev pub bytes_of : Slot → List ℕ
bytes_of None = []
bytes_of (Some b) = b.items

-- the bytes that are out with a seat: those in the slot that it took last
abbrev pub bytes_in : List (ℕ × Slot) → List ℕ
bytes_in [] = []
bytes_in (x ∷ xs) = bytes_of x.1

-- a seat of a table with two words and one slot, which is outside: it has nothing in hand
pub record IsOutside (table : TableId) (m : Me Slot View) : Type 0 where
  pub two_words : table.words ≡ 2
  pub one_slot : table.slots ≡ 1
  pub nothing : m.1 ≡ []
  pub outside : m.0.holds ≡ false
  pub has_room : 0 < m.0.room

-- a seat of such a table which is inside, and whose slot is empty: the bytes are with the caller
pub record IsInside (table : TableId) (m : Me Slot View) : Type 0 where
  pub two_words : table.words ≡ 2
  pub one_slot : table.slots ≡ 1
  pub slot : m.1 ≡ (0, None) ∷ []
  pub inside : m.0.holds ≡ true
  pub has_room : 0 < m.0.room

-- the seat of a reader outside its calls
pub record IsReading (table : TableId) (m : Me Slot View) : Type 0 where
  pub outside : IsOutside table m
  pub reads : m.0.reads ≡ true
  pub writes : m.0.writes ≡ false

-- the seat of a writer outside its calls
pub record IsWriting (table : TableId) (m : Me Slot View) : Type 0 where
  pub outside : IsOutside table m
  pub reads : m.0.reads ≡ false
  pub writes : m.0.writes ≡ true
