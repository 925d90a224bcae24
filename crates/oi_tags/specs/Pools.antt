-- The pool of the initiator task tags of SCSI commands. A tag is free, then live, then ended, then free again.
use Rattle.std.specs.Prelude.{◌≡◌, ℕ, ◌+◌, ◌/◌, ◌%◌, ◌^◌, ◌<◌, ◌≤◌, Bool, true, false, not, Option, Some, None, List, [], ◌∷◌, ◌++◌, length, map, drop, replicate, slice_index_or, slice_set, ◌==◌, if◌then◌else◌}
use Rattle.std.specs.List.{range_with_len, count_by}
use Rattle.oi_base.specs.Counts.{bit}
use Rattle.oi_base.specs.TagLayout.{command_tag}
use Rattle.oi_base.specs.declared.tag.Tag.{Tag}
use Rattle.oi_tags.specs.declared.state.TagState.{TagState}
use Rattle.oi_tags.specs.declared.state.TagState.TheVariants.{Free, Live, Ended, Foreign}

-- a pool: the age of its tags, the free tags from the one that has been free longest, and the state of each index
pub record Pool : Type 0 where
  pub age : ℕ
  pub free : List ℕ
  pub states : List TagState

-- the index of a tag
abbrev pub index_of : ℕ → ℕ
index_of tag = tag % 2 ^ 28

-- the state of a tag: foreign, where the age or the index is none of this pool
abbrev pub state_of : Pool → ℕ → TagState
state_of p tag = if tag / 2 ^ 28 == p.age then slice_index_or p.states (index_of tag) Foreign else Foreign

abbrev pub is_free : TagState → Bool
is_free Free = true
is_free Live = false
is_free Ended = false
is_free Foreign = false

abbrev pub is_live : TagState → Bool
is_live Free = false
is_live Live = true
is_live Ended = false
is_live Foreign = false

abbrev pub is_ended : TagState → Bool
is_ended Free = false
is_ended Live = false
is_ended Ended = true
is_ended Foreign = false

-- the free order after a reset: the tags of the age in ascending index
abbrev pub free_after_reset : ℕ → ℕ → List ℕ
free_after_reset age count = map (command_tag age) (range_with_len 0 count)

-- the free order after a take: the first tag is out
abbrev pub free_after_take : List ℕ → List ℕ
free_after_take free = drop 1 free

-- the free order after a reap: the tag is last
abbrev pub free_after_reap : List ℕ → ℕ → List ℕ
free_after_reap free tag = free ++ tag ∷ []

-- the tag that has been free longest
abbrev pub first_of : List ℕ → Option Tag
first_of [] = None
first_of (tag ∷ rest) = Some (record { 0 = tag })

-- the states with this tag's index in another state
abbrev pub states_with : List TagState → ℕ → TagState → List TagState
states_with states tag state = slice_set states (index_of tag) state

-- the states after a take: the first free tag is live
abbrev pub states_after_take : List TagState → List ℕ → List TagState
states_after_take states [] = states
states_after_take states (tag ∷ rest) = states_with states tag Live

-- all tags of the age are free
abbrev pub full_pool : ℕ → ℕ → Pool
full_pool age count = record { age = age; free = free_after_reset age count; states = replicate count Free }

abbrev pub after_reset : Pool → ℕ → Pool
after_reset p age = full_pool age (length p.states)

abbrev pub after_take : Pool → Pool
after_take p = record { age = p.age; free = free_after_take p.free; states = states_after_take p.states p.free }

abbrev pub after_end : Pool → ℕ → Pool
after_end p tag = record { age = p.age; free = p.free; states = states_with p.states tag Ended }

abbrev pub after_reap : Pool → ℕ → Pool
after_reap p tag = record { age = p.age; free = free_after_reap p.free tag; states = states_with p.states tag Free }

-- what a pool keeps: its list has each free index once and no other index, and room for every index
pub record IsKept (age : ℕ) (free : List ℕ) (states : List TagState) (room : ℕ) : Type 0 where
  pub age_fits : age < 16
  pub few : length states ≤ 2048
  pub once : (i : ℕ) → count_by (λ j. j == i) free ≡ bit (is_free (slice_index_or states i Live))
  pub counted : length free + count_by (λ s. not (is_free s)) states ≡ length states
  pub has_room : length states ≤ room
