-- What is counted while submissions move on: the tags that end, and the submissions that are not done.
use Rattle.std.specs.Prelude.{◌≡◌, ◌≤◌, ◌+◌, ◌++◌, not, cond, List}
use Rattle.std.specs.VecDeque.{deque_capacity, deque_len}
use Rattle.oi_history.specs.Meanings.{tag_over, tags_over}
use Rattle.oi_history.specs.Handling.{is_live}
use Rattle.oi_history.specs.Standing.{live_in, pending_in}
use Rattle.oi_history.specs.Tasks.{is_done}
use Rattle.oi_history.specs.declared.fate.Fate.{Fate}
use Rattle.oi_history.specs.declared.tally.Tally.{Tally}
use Rattle.oi_history.specs.declared.task.Task.{Task}

-- there is a place for the tag of a submission that is live, and it is counted where it is not done
pub record HasPlace (tally : Tally) (f : Fate) : Type 0 where
  pub ended : deque_len tally.ended + cond (is_live f) 1 0 ≤ deque_capacity tally.ended
  pub pending : cond (not (is_done f)) 1 0 ≤ tally.pending

pub record HavePlaces (tally : Tally) (tasks : List Task) : Type 0 where
  pub ended : deque_len tally.ended + live_in tasks ≤ deque_capacity tally.ended
  pub pending : pending_in tasks ≤ tally.pending

-- what one submission does to the counts as it moves on
pub record IsCounted (old new : Tally) (f g : Fate) : Type 0 where
  pub ended : new.ended.items ≡ old.ended.items ++ tag_over f g
  pub pending : new.pending + cond (not (is_done f)) 1 0 ≡ old.pending + cond (not (is_done g)) 1 0
  pub capacity : deque_capacity new.ended ≡ deque_capacity old.ended

-- and what all do
pub record AreCounted (old new : Tally) (ts us : List Task) : Type 0 where
  pub ended : new.ended.items ≡ old.ended.items ++ tags_over ts us
  pub pending : new.pending + pending_in ts ≡ old.pending + pending_in us
  pub capacity : deque_capacity new.ended ≡ deque_capacity old.ended
