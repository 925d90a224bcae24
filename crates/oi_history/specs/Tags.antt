-- Initiator task tags of commands (RFC 7143, section 11.2.1.8): allocated from the command until they are released, and
-- free otherwise.
use Rattle.std.specs.Prelude.{ℕ, not, ◌==◌, ◌++◌, List, [], ◌∷◌, Option, Some, None, drop, filter, map, if◌then◌else◌}
use Rattle.std.specs.List.{range_with_len}
use Rattle.oi_base.specs.TagLayout.{age_after, command_tag}
use Rattle.oi_base.specs.declared.tag.Tag.{Tag}
use Rattle.oi_history.specs.declared.allocated.Allocated.{Allocated}
use Rattle.oi_history.specs.declared.event.Event.{Event}
use Rattle.oi_history.specs.declared.event.Event.TheVariants.{Login, Issue, Reap}

-- all tags of a connection in ascending index
abbrev pub fresh_tags : ℕ → ℕ → List Tag
fresh_tags age count = map (λ i. record { 0 = command_tag age i }) (range_with_len 0 count)

-- the tags that are free, the one that has been free longest first
abbrev pub free_after : ℕ → Event → List Tag → List Tag
free_after count (Login generation params cmdsn max exp_stat) free = fresh_tags (age_after generation) count
free_after count (Issue id generation tag cmdsn) free = drop 1 free
free_after count (Reap tag) free = free ++ tag ∷ []
free_after count e free = free

-- the tags in use, in the order in which they were taken
abbrev pub allocated_after : Event → List Allocated → List Allocated
allocated_after (Login generation params cmdsn max exp_stat) busy = []
allocated_after (Issue id generation tag cmdsn) busy = busy ++ record { tag = tag; id = id; cmdsn = cmdsn } ∷ []
allocated_after (Reap tag) busy = filter (λ a. not (a.tag.0 == tag.0)) busy
allocated_after e busy = busy

-- the submission of a tag in use
abbrev pub holder : ℕ → List Allocated → Option ℕ
holder tag [] = None
holder tag (a ∷ busy) = if a.tag.0 == tag then Some a.id else holder tag busy
