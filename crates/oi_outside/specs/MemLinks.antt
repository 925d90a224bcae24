-- Links over memory: each is two pipes, one for each direction.
use Rattle.std.specs.Prelude.{◌≡◌, ℕ, Bool, not, ◌&&◌, ◌==◌, ◌%◌, ◌≤◌, List, [], ◌∷◌, ◌++◌, length, map, filter, None, MatchBool}
use Rattle.std.specs.List.{last_or}
use Rattle.oi_base.specs.Counts.{told_long}
use Rattle.oi_pipe.specs.Turns.{Reader, IsRead}
use Rattle.oi_pipe.specs.declared.turn.PipeTurn.TheVariants.{Moved, NotYet as PipeNotYet, End as PipeEnd}
use Rattle.oi_outside.specs.Calls.{one_more, is_to_fail}
use Rattle.oi_outside.specs.declared.schedule.Schedule.{Schedule}
use Rattle.oi_outside.specs.declared.schedule.LinkFail.{LinkFail}
use Rattle.oi_outside.specs.declared.link_read.ReadTurn.{ReadTurn}
use Rattle.oi_outside.specs.declared.link_read.ReadTurn.TheVariants.{Got, NotYet, End, Failed}
use Rattle.oi_outside.specs.ReadLinks.{ReadHalf}

-- the schedule makes the call with this number wait: its number plus one is a multiple of the schedule's
abbrev pub pauses : Schedule → ℕ → Bool
pauses s call = not (s.not_yet_every == 0) && (one_more call % s.not_yet_every == 0)

-- the call is one of this half of the link that this dial made
abbrev pub is_of_half : ℕ → ℕ → LinkFail → Bool
is_of_half dial half f = (f.dial == dial) && (f.half == half)

-- the numbers of the calls that fail, of one half of the link that one dial made
abbrev pub failing_calls : List LinkFail → ℕ → ℕ → List ℕ
failing_calls fails dial half = map (λ f. f.call) (filter (is_of_half dial half) fails)

-- a reading half over memory: the number of its link's dial, whether its end was accepted, its half of a pipe, its
-- schedule, the numbers of the calls that fail, all answers, and how many calls failed
pub record ReadingEnd : Type 0 where
  pub dial : ℕ
  pub accepted : Bool
  pub pipe : Reader
  pub schedule : Schedule
  pub fails : List ℕ
  pub answers : List ReadTurn
  pub faults : ℕ

-- what it tells
abbrev pub read_half : ReadingEnd → ReadHalf
read_half h = record { dial = h.dial; accepted = h.accepted; taken = h.pipe.taken; calls = length h.answers; last = last_or None h.answers }

-- the number of its next call
abbrev pub next_read : ReadingEnd → ℕ
next_read h = told_long (length h.answers)

-- the count of faults after a read with this answer
abbrev pub read_faults : ReadTurn → ℕ → ℕ
read_faults (Got n) faults = faults
read_faults NotYet faults = faults
read_faults End faults = faults
read_faults Failed faults = one_more faults

-- the half after a read with this answer, which left its pipe so
abbrev pub after_turn : ReadTurn → Reader → ReadingEnd → ReadingEnd
after_turn turn pipe h = record h { pipe = pipe; answers = h.answers ++ turn ∷ []; faults = read_faults turn h.faults }

-- a read that goes to the pipe: it takes no more bytes than the schedule allows
abbrev pub ReadsPipe : ℕ → Reader → Reader → List ℕ → List ℕ → ReadTurn → Type 0
ReadsPipe piece old new before after (Got n) = (n ≤ piece) × IsRead old new before after (Moved n)
ReadsPipe piece old new before after NotYet = IsRead old new before after PipeNotYet
ReadsPipe piece old new before after End = IsRead old new before after PipeEnd
ReadsPipe piece old new before after Failed = ⊥

-- why a read answers this: its number is listed, or the schedule makes it wait, or the pipe says so
abbrev pub IsReadTurn : Schedule → List ℕ → ℕ → Reader → Reader → List ℕ → List ℕ → ReadTurn → Type 0
IsReadTurn s fails call old new before after turn =
    MatchBool (is_to_fail fails call)
    ((turn ≡ Failed) × (new ≡ old) × (after ≡ before))
    (MatchBool (pauses s call)
    ((turn ≡ NotYet) × (new ≡ old) × (after ≡ before))
    (ReadsPipe s.piece old new before after turn))
