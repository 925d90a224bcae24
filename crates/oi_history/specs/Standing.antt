-- How submissions stand: the tries that they used, those that are live or not done, and the tags that they leave.
use Rattle.std.specs.Prelude.{ℕ, ◌≤◌, ◌<◌, not, List, [], ◌∷◌, Option, Some, None, count_by, if◌then◌else◌}
use Rattle.oi_base.specs.declared.tag.Tag.{Tag}
use Rattle.oi_history.specs.Handling.{is_live}
use Rattle.oi_history.specs.Tasks.{is_done, is_live_on}
use Rattle.oi_history.specs.declared.fate.Fate.{Fate}
use Rattle.oi_history.specs.declared.fate.Fate.TheVariants.{Waiting, Live, Done}
use Rattle.oi_history.specs.declared.task.Task.{Task}

-- one that waits has a try left
abbrev pub HasTries : ℕ → Fate → Type 0
HasTries allowed (Waiting tries) = tries < allowed
HasTries allowed (Live generation tag tries) = tries ≤ allowed
HasTries allowed (Done outcome at) = Unit {0}

abbrev pub HaveTries : ℕ → List Task → Type 0
HaveTries allowed [] = Unit {0}
HaveTries allowed (t ∷ tasks) = HasTries allowed t.fate × HaveTries allowed tasks

abbrev pub live_in : List Task → ℕ
live_in tasks = count_by (λ t. is_live t.fate) tasks

abbrev pub pending_in : List Task → ℕ
pending_in tasks = count_by (λ t. not (is_done t.fate)) tasks

-- the tag on which a submission is live
abbrev pub live_tag : Fate → Option Tag
live_tag (Live generation tag tries) = Some tag
live_tag f = None

-- the tag on which it was live and is no more
abbrev pub tag_gone : Option Tag → Fate → List Tag
tag_gone (Some tag) f = if is_live_on tag.0 f then [] else tag ∷ []
tag_gone None f = []
