-- Commands by number, in the order in which they came, and the number of each by its tag.
use Rattle.std.specs.Prelude.{ℕ, ◌≡◌, ◌<◌, Bool, false, Option, Some, None, List, if◌then◌else◌}
use Rattle.std.specs.BTreeMap.{is_at}
use Rattle.std.specs.List.Sorted.{IsStrictlySortedBy}
use Rattle.std.specs.Map.{keys_of, lookup}
use Rattle.std.specs.Ordering.{nat_cmp}
use Rattle.oi_target_tasks.specs.Tasks.{waits_as}
use Rattle.oi_target_tasks.specs.declared.task.Task.{Task}

-- the command with this number
abbrev pub task_at : List (ℕ × Task) → ℕ → Option Task
task_at order number = lookup (is_at (nat_cmp number)) order

-- the number that stands under this tag; it may be left over from a command that is gone
abbrev pub place_of : List (ℕ × ℕ) → ℕ → Option ℕ
place_of places tag = lookup (is_at (nat_cmp tag)) places

-- the number under a tag, where the command that has it waits for data under this tag
abbrev pub is_waiting_at : ℕ → Option Task → Bool
is_waiting_at tag None = false
is_waiting_at tag (Some t) = waits_as tag t

abbrev pub number_waiting : List (ℕ × Task) → ℕ → Option ℕ → Option ℕ
number_waiting order tag None = None
number_waiting order tag (Some number) = if is_waiting_at tag (task_at order number) then Some number else None

-- the numbers ascend, each is below the next one, and each command is found by its tag
pub record IsIndexed (order : List (ℕ × Task)) (places : List (ℕ × ℕ)) (next : ℕ) : Type 0 where
  pub ordered : IsStrictlySortedBy nat_cmp (keys_of order)
  pub below : (number : ℕ) (t : Task) → task_at order number ≡ Some t → number < next
  pub placed : (number : ℕ) (t : Task) → task_at order number ≡ Some t → place_of places t.tag.0 ≡ Some number
