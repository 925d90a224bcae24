-- The writing halves of links over memory.
use Rattle.std.specs.Prelude.{◌≡◌, ℕ, Bool, true, List, [], ◌∷◌, ◌++◌, length, None, MatchBool}
use Rattle.std.specs.List.{last_or}
use Rattle.oi_base.specs.Counts.{told_long}
use Rattle.oi_pipe.specs.Turns.{Writer, IsWritten}
use Rattle.oi_pipe.specs.declared.turn.PipeTurn.TheVariants.{Moved, NotYet as PipeNotYet}
use Rattle.oi_outside.specs.Calls.{one_more, is_to_fail}
use Rattle.oi_outside.specs.declared.schedule.Schedule.{Schedule}
use Rattle.oi_outside.specs.declared.link_write.WriteTurn.{WriteTurn}
use Rattle.oi_outside.specs.declared.link_write.WriteTurn.TheVariants.{Took, NotYet, Failed}
use Rattle.oi_outside.specs.WriteLinks.{WriteHalf}
use Rattle.oi_outside.specs.MemLinks.{pauses}

-- a writing half over memory: the number of its link's dial, whether its end was accepted, its half of a pipe, its
-- schedule, the numbers of the calls that fail, all answers, and how many calls failed
pub record WritingEnd : Type 0 where
  pub dial : ℕ
  pub accepted : Bool
  pub pipe : Writer
  pub schedule : Schedule
  pub fails : List ℕ
  pub answers : List WriteTurn
  pub faults : ℕ

-- what it tells
abbrev pub write_half : WritingEnd → WriteHalf
write_half h = record { dial = h.dial; accepted = h.accepted; given = h.pipe.given; calls = length h.answers; last = last_or None h.answers }

-- the number of its next call
abbrev pub next_write : WritingEnd → ℕ
next_write h = told_long (length h.answers)

-- the count of faults after a write with this answer
abbrev pub write_faults : WriteTurn → ℕ → ℕ
write_faults (Took n) faults = faults
write_faults NotYet faults = faults
write_faults Failed faults = one_more faults

-- the half after a write with this answer, which left its pipe so
abbrev pub after_turn : WriteTurn → Writer → WritingEnd → WritingEnd
after_turn turn pipe h = record h { pipe = pipe; answers = h.answers ++ turn ∷ []; faults = write_faults turn h.faults }

-- the half with its pipe closed: what the pipe holds can still be read, and nothing more comes
abbrev pub closed : WritingEnd → WritingEnd
closed h = record h { pipe = record h.pipe { closed = true } }

-- a write that goes to the pipe
abbrev pub WritesPipe : Writer → Writer → List ℕ → WriteTurn → Type 0
WritesPipe old new piece (Took n) = IsWritten old new piece (Moved n)
WritesPipe old new piece NotYet = IsWritten old new piece PipeNotYet
WritesPipe old new piece Failed = ⊥

-- why a write answers this: its number is listed, or the schedule makes it wait, or the pipe says so
abbrev pub IsWriteTurn : Schedule → List ℕ → ℕ → Writer → Writer → List ℕ → WriteTurn → Type 0
IsWriteTurn s fails call old new piece turn =
    MatchBool (is_to_fail fails call)
    ((turn ≡ Failed) × (new ≡ old))
    (MatchBool (pauses s call) ((turn ≡ NotYet) × (new ≡ old)) (WritesPipe old new piece turn))
