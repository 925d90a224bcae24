-- What the words come to before the run is ended: all is done, or why it stopped.
use Rattle.std.specs.Prelude.{◌≡◌, ◌⊎◌, ℕ, true, List, [], Option, Some, Result, Ok, Err}
use Rattle.oi_base.specs.Counts.{Rose}
use Rattle.oi_outside.specs.Records.{Records}
use Rattle.oi_outside.specs.Streams.{IsFront, behind}
use Rattle.oi_outside.specs.declared.failed.Failed.{Failed}
use Rattle.oi_tool.specs.declared.stop.Stop.{Stop}
use Rattle.oi_tool.specs.declared.stop.Stop.TheVariants.{Words, Nothing, InUse, Store, Sink, Memory}
use Rattle.oi_tool.specs.Asking.{AreRefused}
use Rattle.oi_tool.specs.Outcomes.{Outcome, after, refused}
use Rattle.oi_tool.specs.Runs.{IsBegun, IsPart, IsRun, is_mild}
use Rattle.oi_tool.specs.Stops.{status_of, stop_text}

-- the outcome of a run that stopped so
abbrev pub stopping : Stop → Outcome
stopping stop = record { status = status_of stop; text = stop_text stop; changes = [] }

-- an outcome was come by, or a first part of its changes made
abbrev pub Gives : Outcome → Result (Unit {0}) Stop → Records → Option Records → Option (List ℕ) → Option (List ℕ) → Type 0
Gives o (Ok u) records is held0 held = (o.status ≡ 0) × (is ≡ Some (after o.changes records)) × (held ≡ behind held0 o.text)
Gives o (Err Sink) records is held0 held = (o.status ≡ 0) × (is ≡ Some (after o.changes records)) × IsFront o.text held0 held
Gives o (Err Nothing) records is held0 held = (o ≡ refused 21) × (is ≡ Some records) × (held ≡ held0)
Gives o (Err Store) records is held0 held = IsPart o records is × (held ≡ held0)
Gives o (Err Memory) records is held0 held = IsPart o records is × (held ≡ held0)
Gives o (Err other) records is held0 held = ⊥

-- the same of words
abbrev pub Comes : List (List ℕ) → Result (Unit {0}) Stop → Records → Option Records → Option (List ℕ) → Option (List ℕ) → Type 0
Comes words (Ok u) records is held0 held = (o : Outcome) × IsRun words records o × Gives o (Ok u) records is held0 held
Comes words (Err Sink) records is held0 held = (o : Outcome) × IsRun words records o × Gives o (Err Sink) records is held0 held
Comes words (Err Store) records is held0 held = IsBegun words records is × (held ≡ held0)
Comes words (Err Memory) records is held0 held = IsBegun words records is × (held ≡ held0)
Comes words (Err other) records is held0 held = IsRun words records (stopping other) × (is ≡ Some records) × (held ≡ held0)

-- the words are refused exactly where that is why it stopped; no session lives
abbrev pub AreJudged : List (List ℕ) → Result (Unit {0}) Stop → Type 0
AreJudged words (Err Words) = AreRefused words
AreJudged words (Err InUse) = ⊥
AreJudged words (Err Memory) = Unit {0}
AreJudged words other = AreRefused words → ⊥

-- nothing was printed, unless all is done or the sink failed
abbrev pub IsQuiet : Result (Unit {0}) Stop → Option (List ℕ) → Option (List ℕ) → Type 0
IsQuiet (Ok u) held0 held = Unit {0}
IsQuiet (Err Sink) held0 held = Unit {0}
IsQuiet other held0 held = held ≡ held0

-- the counts of faults rose exactly where the store, or the sink, was why
abbrev pub IsStoreCount : Result (Unit {0}) Stop → ℕ → ℕ → Type 0
IsStoreCount (Err Store) before now = Rose before now
IsStoreCount other before now = now ≡ before

abbrev pub IsSinkCount : Result (Unit {0}) Stop → ℕ → ℕ → Type 0
IsSinkCount (Err Sink) before now = Rose before now
IsSinkCount other before now = now ≡ before

-- all of this
pub record IsAnswer (words : List (List ℕ)) (result : Result (Unit {0}) Stop) (was is : Option Records) (held0 held : Option (List ℕ)) (store0 store sink0 sink : ℕ) : Type 0 where
  pub comes : (records : Records) → was ≡ Some records → Comes words result records is held0 held
  pub judged : AreJudged words result
  pub quiet : IsQuiet result held0 held
  pub store_count : IsStoreCount result store0 store
  pub sink_count : IsSinkCount result sink0 sink

-- a run that did what was asked was ended; a flush that failed shows in the status
abbrev pub IsFlushed : ℕ → ℕ → ℕ → Type 0
IsFlushed status sink0 sink = ((status ≡ 0) × (sink ≡ sink0)) ⊎ ((status ≡ 31) × Rose sink0 sink)

pub record IsDone (status : ℕ) (held0 held : Option (List ℕ)) (sink0 sink : ℕ) : Type 0 where
  pub held_is : held ≡ held0
  pub flushed : IsFlushed status sink0 sink

-- its own status, or that of a sink that failed in place of one that is not fatal
abbrev pub IsShown : ℕ → ℕ → ℕ → ℕ → Type 0
IsShown own status sink0 sink = ((status ≡ own) × (is_mild own ≡ true → sink ≡ sink0)) ⊎ ((status ≡ 31) × (is_mild own ≡ true) × Rose sink0 sink)

-- the status of a run that stopped; want of memory for its last text is one of its own
abbrev pub IsEnding : Stop → ℕ → ℕ → ℕ → Type 0
IsEnding stop status sink0 sink = ((status ≡ 3) × (stop ≡ Sink → ⊥)) ⊎ IsShown (status_of stop) status sink0 sink

-- the count rose, or is as it was
abbrev pub IsSteady : ℕ → ℕ → Type 0
IsSteady before now = (now ≡ before) ⊎ Rose before now

-- a run that stopped was ended with its last text
pub record IsStopped (stop : Stop) (status : ℕ) (held0 held : Option (List ℕ)) (sink0 sink : ℕ) : Type 0 where
  pub status_is : IsEnding stop status sink0 sink
  pub front : IsFront (stop_text stop) held0 held
  pub whole : (Rose sink0 sink → ⊥) → (status ≡ 3 → ⊥) → held ≡ behind held0 (stop_text stop)
  pub mild : is_mild status ≡ true → held ≡ behind held0 (stop_text stop)
  pub count : IsSteady sink0 sink

-- a last text was written and flushed, or the sink failed
abbrev pub IsLast : Result (Unit {0}) Failed → List ℕ → Option (List ℕ) → Option (List ℕ) → ℕ → ℕ → Type 0
IsLast (Ok u) text held0 held sink0 sink = (held ≡ behind held0 text) × (sink ≡ sink0)
IsLast (Err e) text held0 held sink0 sink = IsFront text held0 held × Rose sink0 sink
