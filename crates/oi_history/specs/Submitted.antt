-- What contracts see of the submissions that the code keeps, and what it keeps of them.
use Rattle.std.specs.Prelude.{ℕ, ◌≡◌, ◌≤◌, ◌+◌, ◌++◌, Bool, true, false, List, Some, slice_get}
use Rattle.std.specs.VecDeque.{deque_capacity, deque_len}
use Rattle.oi_base.specs.declared.tag.Tag.{Tag}
use Rattle.oi_history.specs.Meanings.{ended_step, tags_over}
use Rattle.oi_history.specs.Standing.{HaveTries, live_in, pending_in}
use Rattle.oi_history.specs.Tasks.{is_waiting}
use Rattle.oi_history.specs.declared.event.Event.{Event}
use Rattle.oi_history.specs.declared.event.Event.TheVariants.{Submit, PduIn, Login, Issue}
use Rattle.oi_history.specs.declared.tally.Tally.{Tally}
use Rattle.oi_history.specs.declared.task.Task.{Task}

pub record SubmissionsView : Type 0 where
  -- tries that each may use
  pub allowed : ℕ
  pub tasks : List Task
  pub ended : List Tag
  -- commands that can be sent without memory
  pub takes : ℕ

-- there are places for the tags that ended and for those that are live; what is not done is counted
pub record AreKept (allowed places : ℕ) (tally : Tally) (tasks : List Task) : Type 0 where
  pub some : 1 ≤ allowed
  pub tries : HaveTries allowed tasks
  pub live : live_in tasks + deque_len tally.ended ≤ places
  pub room : places ≤ deque_capacity tally.ended
  pub pending : tally.pending ≡ pending_in tasks

-- the submissions moved on, and the tags that they left ended
pub record AreMoved (old new : SubmissionsView) (after : List Task) : Type 0 where
  pub allowed : new.allowed ≡ old.allowed
  pub tasks : new.tasks ≡ after
  pub ended : new.ended ≡ old.ended ++ tags_over old.tasks after
  pub takes : new.takes ≡ old.takes

-- a command that goes out takes a tag
abbrev pub taken_by : Event → ℕ
taken_by (Issue id generation tag cmdsn) = 1
taken_by e = 0

-- an entry that brings something in needs memory for it
abbrev pub brings : Event → Bool
brings (Submit id request) = true
brings (PduIn generation pdu) = true
brings (Login generation params cmdsn max exp_stat) = true
brings e = false

-- a command goes out for a submission that waits
abbrev pub Waits : Event → List Task → Type 0
Waits (Issue id generation tag cmdsn) tasks = (t : Task) → slice_get tasks id ≡ Some t → is_waiting t.fate ≡ true
Waits e tasks = Unit {0}

-- one entry more
pub record AreStepped (old new : SubmissionsView) (e : Event) (after : List Task) : Type 0 where
  pub allowed : new.allowed ≡ old.allowed
  pub tasks : new.tasks ≡ after
  pub ended : new.ended ≡ ended_step e old.tasks after old.ended
  pub takes : old.takes ≤ new.takes + taken_by e
