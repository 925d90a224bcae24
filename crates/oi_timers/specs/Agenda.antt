-- Times by key: a list of keys, each with its time, in ascending order of the keys.
use Rattle.std.specs.Prelude.{ℕ, Bool, Option, Some, None, List, false, ◌≡◌, ◌==◌, ◌<◌, ◌≤◌}
use Rattle.std.specs.declared.cmp.Ordering.{Ordering}
use Rattle.std.specs.Ordering.{nat_cmp, ordering_then}
use Rattle.std.specs.List.Sorted.{IsStrictlySortedBy}
use Rattle.std.specs.Map.{keys_of, lookup, remove_entry}
use Rattle.std.specs.BTreeMap.{is_at, insert_entry}
use Rattle.std.specs.BTreeSet.{BTreeSet, contains}

-- the time that the key has
abbrev pub time_of : List (ℕ × ℕ) → ℕ → Option ℕ
time_of times key = lookup (is_at (nat_cmp key)) times

-- the same, where this key has this time
abbrev pub with_time : List (ℕ × ℕ) → ℕ → ℕ → List (ℕ × ℕ)
with_time times key at = insert_entry nat_cmp times key at

-- the same, where this key has none
abbrev pub without : List (ℕ × ℕ) → ℕ → List (ℕ × ℕ)
without times key = remove_entry (is_at (nat_cmp key)) times

-- a key has one time at most: the keys ascend
abbrev pub IsOneEach : List (ℕ × ℕ) → Type 0
IsOneEach times = IsStrictlySortedBy nat_cmp (keys_of times)

-- the key is the first one: none has an earlier time, and none of those with the same time is less
pub record IsFirst (times : List (ℕ × ℕ)) (key at : ℕ) : Type 0 where
  pub held : time_of times key ≡ Some at
  pub earliest : (k t : ℕ) → time_of times k ≡ Some t → at ≤ t
  pub least : (k : ℕ) → time_of times k ≡ Some at → key ≤ k

-- no time has come
abbrev pub NoneDue : List (ℕ × ℕ) → ℕ → Type 0
NoneDue times now = (key at : ℕ) → time_of times key ≡ Some at → now < at

-- the order of pairs of time and key
abbrev pub pair_cmp : ℕ × ℕ → ℕ × ℕ → Ordering
pair_cmp x y = ordering_then (nat_cmp x.0 y.0) (nat_cmp x.1 y.1)

-- whether that is the time
abbrev pub is_time : Option ℕ → ℕ → Bool
is_time None at = false
is_time (Some t) at = t == at

-- the pairs of time and key are those of the list
abbrev pub Agree : List (ℕ × ℕ) → BTreeSet (ℕ × ℕ) → Type 0
Agree times pairs = (key at : ℕ) → contains pair_cmp pairs (at, key) ≡ is_time (time_of times key) at
