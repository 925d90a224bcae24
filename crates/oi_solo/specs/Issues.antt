-- The last command of each submission, by id.
use Rattle.std.specs.Prelude.{◌++◌, List, [], ◌∷◌, Option, Some, None, set}
use Rattle.oi_history.specs.declared.allocated.Allocated.{Allocated}
use Rattle.oi_history.specs.declared.event.Event.{Event}
use Rattle.oi_history.specs.declared.event.Event.TheVariants.{Submit, Issue}
use Rattle.oi_history.specs.declared.event.Numbered.{Numbered}

abbrev pub issues_step : Event → List (Option Allocated) → List (Option Allocated)
issues_step (Submit id request) issues = issues ++ None ∷ []
issues_step (Issue id generation tag cmdsn) issues = set issues id (Some (record { tag = tag; id = id; cmdsn = cmdsn }))
issues_step e issues = issues

abbrev pub issues_of : List Numbered → List (Option Allocated)
issues_of [] = []
issues_of (n ∷ H) = issues_step n.event (issues_of H)

-- by the table; a submission that is not there has none
abbrev pub issue_at : Option (Option Allocated) → Option Allocated
issue_at (Some o) = o
issue_at None = None
