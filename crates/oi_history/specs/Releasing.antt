-- What stands once tags are released, seen before their release.
use Rattle.std.specs.Prelude.{◌≡◌, ◌≤◌, ◌+◌, ℕ, Bool, not, ◌&&◌, ◌++◌, List, [], ◌∷◌, Option, Some, None, filter, length, slice_get}
use Rattle.oi_base.specs.declared.tag.Tag.{Tag}
use Rattle.oi_history.specs.Judging.{is_over}
use Rattle.oi_history.specs.Ledgers.{LedgerView, queued_in}
use Rattle.oi_history.specs.Meanings.{Meanings, step}
use Rattle.oi_history.specs.Owing.{drawn_next, echo_next, issue_next, logout_next, managed_next, next_management, or_else, ping_next, reaped}
use Rattle.oi_history.specs.Queues.{is_wanted}
use Rattle.oi_history.specs.declared.allocated.Allocated.{Allocated}
use Rattle.oi_history.specs.declared.event.Event.{Event}
use Rattle.oi_history.specs.declared.event.Event.TheVariants.{Draw, Manage}
use Rattle.oi_history.specs.declared.event.Subject.TheVariants.{Task as OneTask}
use Rattle.oi_history.specs.declared.config.SessionConfig.{SessionConfig}
use Rattle.oi_history.specs.declared.owed.Queued.{Queued}
use Rattle.oi_history.specs.declared.owed.Solicited.{Solicited}
use Rattle.oi_history.specs.declared.owing.Owed.{Owed}
use Rattle.oi_history.specs.declared.task.Task.{Task}
use Rattle.oi_pdu.specs.declared.codec.Pdu.{Pdu}

-- data, R2Ts and tags in use that are not of these tags
abbrev pub data_left : List Tag → List Queued → List Queued
data_left ended queue = filter (λ q. not (is_over ended q.tag.0)) queue

abbrev pub asked_left : List Tag → List Solicited → List Solicited
asked_left ended rs = filter (λ r. not (is_over ended r.tag.0)) rs

abbrev pub tags_left : List Tag → List Allocated → List Allocated
tags_left ended busy = filter (λ a. not (is_over ended a.tag.0)) busy

-- an R2T that counts behind their release
abbrev pub counts_left : List Tag → List Allocated → List Task → Solicited → Bool
counts_left ended busy tasks r = not (is_over ended r.tag.0) && is_wanted busy tasks r

-- the entries that send what is owed, and those of them before the one that sends
abbrev pub draw_of : Option ℕ → List Event
draw_of (Some count) = Draw count ∷ []
draw_of None = []

abbrev pub entries_of : Option Owed → List Event
entries_of (Some o) = draw_of o.draw ++ o.send ∷ []
entries_of None = []

-- the meanings behind further entries that hit no submission, whatever their numbers
abbrev pub behind : SessionConfig → List Event → Meanings → Meanings
behind C [] m = m
behind C (e ∷ es) m = behind C es (step C e 0 m)

-- behind the release of all ended tags, and behind the taking up of R2Ts before the entry that sends
abbrev pub released : SessionConfig → Meanings → Meanings
released C m = reaped C m.ended m

abbrev pub ready : SessionConfig → Owed → Meanings → Meanings
ready C o m = behind C (draw_of o.draw) (released C m)

-- what is owed behind the data that wait, seen before the release
abbrev pub next_left : SessionConfig → Meanings → List Event
next_left C m =
    or_else (logout_next m.generation m) (or_else (managed_next m.generation (next_management m) m.handler) (or_else (echo_next m.generation m.echoes)
    (or_else (ping_next C m.generation m) (or_else (drawn_next m.generation (released C m)) (issue_next C m.generation (released C m))))))

-- the StatSN that the half that receives told: the release of a tag tells it anew
abbrev pub told_stat : List Tag → Meanings → ℕ
told_stat [] m = m.told.stat
told_stat (tag ∷ tags) m = m.stat

-- what a PDU that is sent takes from the meanings before its entry
pub record Sends (m r : Meanings) (stat_told : ℕ) (front : Option Queued) : Type 0 where
  pub params : r.params ≡ m.params
  pub stat : r.stat ≡ m.stat
  pub window : r.window ≡ m.window
  pub tasks : r.tasks ≡ m.tasks
  pub told : r.told.stat ≡ stat_told
  pub first : slice_get r.queue 0 ≡ front

abbrev pub list_of : Option Pdu → List Pdu
list_of (Some p) = p ∷ []
list_of None = []

-- Data-Outs that entries queue
abbrev pub pieces_of : Meanings → List Event → ℕ
pieces_of m [] = 0
pieces_of m (e ∷ es) = queued_in m e + pieces_of m es

-- there is room for the release of all ended tags, and for these entries behind it
pub record HasTurn (v : LedgerView) (es : List Event) : Type 0 where
  pub releases : length v.now.ended ≤ v.releases
  pub takes : 1 ≤ v.takes
  pub pieces : pieces_of (released v.config v.now) es ≤ v.pieces

-- the last command of the task that a request names
abbrev pub Names : Event → Option Allocated → (ℕ → Option Allocated) → Type 0
Names (Manage generation tag function (OneTask id)) issue last = issue ≡ last id
Names e issue last = Unit {0}
