-- The rule of a pipe's table: what is true between any two steps of any thread.
use Rattle.std.specs.Prelude.{◌≡◌, ℕ, Bool, true, false, ◌<◌, ◌≤◌, ◌==◌, List, [], ◌∷◌, ◌++◌, length, Some, MatchBool}
use mathlib.Core.Option.{some, none}
use lib.ListN.{get_elem?}
use Rattle.oi_base.specs.Counts.{bit}
use Rattle.atomic_table.specs.Table.{State, Me, Step, rest}
use Rattle.circular_buffer.specs.Buffer.{buffer}
use Rattle.oi_pipe.specs.declared.view.View.{View}
use Rattle.oi_pipe.specs.Views.{Slot, entered, kept_out, left, left_full, left_read, left_written, saw_open, saw_closed, shut, bytes_in}

-- what there is of a pipe: the bytes between the halves, what was taken and given, the seats of the two halves, and the seat that was inside last
pub record Pipe : Type 0 where
  pub bytes : List ℕ
  pub taken : List ℕ
  pub given : List ℕ
  pub reader : ℕ
  pub writer : ℕ
  pub holder : ℕ

-- the slot, while no half is inside (held is false), has the bytes
abbrev pub at_home : ℕ → Bool → List ℕ → mathlib.Core.Option.Option Slot
at_home room true bytes = none
at_home room false bytes = some (Some (buffer bytes room))

-- the table: word 0 is 1 while a half is inside, word 1 once the pipe is closed
abbrev pub table_of : ℕ → Bool → Bool → List ℕ → List View → State Slot View
table_of room held closed bytes views = record { words = bit held ∷ bit closed ∷ []; homes = at_home room held bytes ∷ []; views = views }

-- what a seat's view says is so
pub record Fits (room : ℕ) (held closed : Bool) (p : Pipe) (id : ℕ) (v : View) : Type 0 where
  pub roomy : 0 < v.room → v.room ≡ room
  pub reader : v.reads ≡ true → (id ≡ p.reader) × (v.taken ≡ p.taken)
  pub writer : v.writes ≡ true → (id ≡ p.writer) × (v.given ≡ p.given) × (v.closed ≡ closed)
  pub holder : v.holds ≡ true → (id ≡ p.holder) × (held ≡ true) × (v.content ≡ p.bytes)
  pub ends : v.ended ≡ true → (closed ≡ true) × (p.bytes ≡ [])

-- the seat with this number is inside
abbrev pub IsHolder : List View → ℕ → Type 0
IsHolder views id = (v : View) × (get_elem? views id ≡ some v) × (v.holds ≡ true)

-- What was given is what was taken, followed by the bytes in the pipe, which are at most the room. Each view is right, and word 0 is 1 only while a half is inside
pub record Sound (room : ℕ) (held closed : Bool) (p : Pipe) (views : List View) : Type 0 where
  pub whole : p.given ≡ p.taken ++ p.bytes
  pub small : length p.bytes ≤ room
  pub each : (id : ℕ) (v : View) → get_elem? views id ≡ some v → Fits room held closed p id v
  pub inside : held ≡ true → IsHolder views p.holder

-- the rule: the table is that of some sound pipe
abbrev pub Kept : ℕ → State Slot View → Type 0
Kept room s = (held : Bool) × (closed : Bool) × (p : Pipe) × (s ≡ table_of room held closed p.bytes s.views) × Sound room held closed p s.views

-- What each kind of step tells, of the seat before, the number found and the seat after.
-- A try that finds word 0 free takes the bytes out. There are at most as many as the room, none once the reader has seen the end, and no more than a writer gave
abbrev pub Enters : View → Me Slot View → List ℕ → Type 0
Enters v n bytes = (n ≡ (entered v bytes, (0, Some (buffer bytes v.room)) ∷ [])) × (length bytes ≤ v.room) × (v.ended ≡ true → bytes ≡ []) × (v.writes ≡ true → length bytes ≤ length v.given)

-- a try: the bytes were at home, or the other half was inside
abbrev pub Tries : Step Slot → Me Slot View → ℕ → Me Slot View → Type 0
Tries s m found n = MatchBool (found == 0) (Enters m.0 n n.0.content) (n ≡ (kept_out m.0, []))

-- a leave with the bytes as they were found
abbrev pub Leaves : Step Slot → Me Slot View → ℕ → Me Slot View → Type 0
Leaves s m found n = n ≡ (left m.0, rest m.1)

-- the same of a writer that found the pipe full
abbrev pub LeavesFull : Step Slot → Me Slot View → ℕ → Me Slot View → Type 0
LeavesFull s m found n = n ≡ (left_full m.0, rest m.1)

-- a leave of a reader, with what it has left of the bytes
abbrev pub LeavesRead : Step Slot → Me Slot View → ℕ → Me Slot View → Type 0
LeavesRead s m found n = n ≡ (left_read m.0 (bytes_in m.1), rest m.1)

-- a leave of a writer, with the bytes that it has added
abbrev pub LeavesWritten : Step Slot → Me Slot View → ℕ → Me Slot View → Type 0
LeavesWritten s m found n = n ≡ (left_written m.0 (bytes_in m.1), rest m.1)

-- A look at word 1. Where the pipe is open, the reader had not seen its end
abbrev pub Looks : Step Slot → Me Slot View → ℕ → Me Slot View → Type 0
Looks s m found n = MatchBool (found == 0) ((n ≡ (saw_open m.0, m.1)) × (m.0.ended ≡ false)) (n ≡ (saw_closed m.0, m.1))

-- a close
abbrev pub Closes : Step Slot → Me Slot View → ℕ → Me Slot View → Type 0
Closes s m found n = n ≡ (shut m.0, m.1)

-- what was given is what was taken and then at most as many bytes as the room; after an end the pipe is closed, and all that was given was taken
pub record IsWhole (v : View) : Type 0 where
  pub inside : List ℕ
  pub joined : v.given ≡ v.taken ++ inside
  pub few : length inside ≤ v.room
  pub over : v.ended ≡ true → (v.closed ≡ true) × (v.taken ≡ v.given)

-- the look after the join
abbrev pub Meets : Step Slot → Me Slot View → ℕ → Me Slot View → Type 0
Meets s m found n = (n ≡ m) × IsWhole m.0
