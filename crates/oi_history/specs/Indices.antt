-- Where the code finds the submission to send, and those that are due.
use Rattle.std.specs.Prelude.{ℕ, suc, ◌≡◌, ◌≢◌, ◌≤◌, ◌<◌, ◌+◌, ◌==◌, ◌&&◌, ◌⊎◌, Bool, true, not, List, [], ◌∷◌, Option, None, Some, cond, max, min, slice_get, vec_len, if◌then◌else◌}
use Rattle.std.specs.List.{position}
use Rattle.oi_history.specs.Handling.{live_at}
use Rattle.oi_history.specs.Owing.{live_on_lun}
use Rattle.oi_history.specs.Tasks.{changed, is_done, is_waiting}
use Rattle.oi_history.specs.declared.index.Index.{Index}
use Rattle.oi_history.specs.declared.index.LunIndex.{LunIndex}
use Rattle.oi_history.specs.declared.task.Task.{Task}

-- it waits for this logical unit
abbrev pub waits_on : ℕ → Task → Bool
waits_on lun t = t.command.lun == lun && is_waiting t.fate

abbrev pub waiting_on : ℕ → List Task → Option ℕ
waiting_on lun tasks = position (waits_on lun) tasks

abbrev pub lun_index : ℕ → List Task → LunIndex
lun_index lun tasks = record { first = waiting_on lun tasks; live = live_on_lun lun tasks }

-- one more of this logical unit, behind all others
abbrev pub first_with : Option ℕ → Bool → ℕ → Option ℕ
first_with (Some first) waits id = Some first
first_with None waits id = if waits then Some id else None

abbrev pub with_one : LunIndex → Bool → Bool → ℕ → LunIndex
with_one u live waits id = record { first = first_with u.first waits id; live = u.live + cond live 1 0 }

-- the lesser of two places
abbrev pub earlier : Option ℕ → Option ℕ → Option ℕ
earlier (Some i) (Some k) = Some (min i k)
earlier (Some i) None = Some i
earlier None o = o

-- the second counts only where this is so
abbrev pub earlier_where : Bool → Option ℕ → Option ℕ → Option ℕ
earlier_where counts one other = if counts then earlier one other else one

-- those that are due, or that a delivery would change, lie at or above one id and below another
abbrev pub AreSettledBut : ℕ → ℕ → List Task → Type 0
AreSettledBut low high tasks = (id : ℕ) (t : Task) → slice_get tasks id ≡ Some t → (t.told ≡ is_done t.fate) ⊎ ((low ≤ id) × (id < high))

-- a delivery would change it
abbrev pub is_unsettled : Task → Bool
is_unsettled t = if t.told then not (is_done t.fate) else is_done t.fate

-- the range in which such ones lie, with this one where it is such
abbrev pub low_with : Task → ℕ → ℕ → ℕ
low_with t id low = if is_unsettled t then min id low else low

abbrev pub high_with : Task → ℕ → ℕ → ℕ
high_with t id high = if is_unsettled t then max high (suc id) else high

-- with the one that has this id, if any
abbrev pub low_noted : Option Task → ℕ → ℕ → ℕ
low_noted None id low = low
low_noted (Some t) id low = low_with t id low

abbrev pub high_noted : Option Task → ℕ → ℕ → ℕ
high_noted None id high = high
high_noted (Some t) id high = high_with t id high

-- with these, of which the first has this id
abbrev pub low_over : ℕ → List Task → ℕ → ℕ
low_over id [] low = low
low_over id (t ∷ ts) low = low_over (suc id) ts (low_with t id low)

abbrev pub high_over : ℕ → List Task → ℕ → ℕ
high_over id [] high = high
high_over id (t ∷ ts) high = high_over (suc id) ts (high_with t id high)

-- the range that has none
abbrev pub no_low : ℕ
no_low = 18446744073709551615

pub record IsNarrow (ix : Index) (low high : ℕ) : Type 0 where
  pub low_is : ix.low ≡ low
  pub high_is : ix.high ≡ high

pub record IsIndexed (ix : Index) (tasks : List Task) : Type 0 where
  pub size : vec_len ix.luns ≡ 256
  pub luns : (lun : ℕ) → lun < 256 → slice_get ix.luns.items lun ≡ Some (lun_index lun tasks)
  pub bytes : (id : ℕ) (t : Task) → slice_get tasks id ≡ Some t → t.command.lun < 256
  pub settled : AreSettledBut ix.low ix.high tasks

-- the index is that of the submissions before one of them moved on; there it was live, or not
pub record WasIndexed (ix : Index) (id : ℕ) (was_live : Bool) (tasks : List Task) : Type 0 where
  pub before : List Task
  pub move : Task → Task
  pub indexed : IsIndexed ix before
  pub moved : tasks ≡ changed id move before
  pub command : (t : Task) → (move t).command ≡ t.command
  pub live : was_live ≡ live_at id before

-- some place at or below this one
abbrev pub IsUpTo : Option ℕ → ℕ → Type 0
IsUpTo (Some first) id = first ≤ id
IsUpTo None id = ⊥

-- the first of those that pass but for one, or the place of that one
pub record IsFirstBut (passes : Task → Bool) (id : ℕ) (first : Option ℕ) (tasks : List Task) : Type 0 where
  pub found : (k : ℕ) → first ≡ Some k → k ≢ id → (t : Task) × (slice_get tasks k ≡ Some t) × (passes t ≡ true)
  pub least : (k : ℕ) (t : Task) → slice_get tasks k ≡ Some t → k ≢ id → passes t ≡ true → IsUpTo first k

-- what is kept of the logical unit of a submission that moved on
pub record WasIndexedOn (lun : ℕ) (old : LunIndex) (id : ℕ) (was_live is_live : Bool) (tasks : List Task) : Type 0 where
  pub first : IsFirstBut (waits_on lun) id old.first tasks
  pub live : old.live + cond is_live 1 0 ≡ live_on_lun lun tasks + cond was_live 1 0
  pub counted : cond was_live 1 0 ≤ old.live
