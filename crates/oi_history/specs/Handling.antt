-- The error handler: an ABORT TASK, then a reset of the logical unit, then one of the target (RFC 7143, section 11.5). A
-- step that failed, or was not answered in its time, leads to the next one.
use Rattle.std.specs.Prelude.{ℕ, Bool, true, false, ◌==◌, ◌&&◌, List, Option, Some, None, slice_get, if◌then◌else◌}
use Rattle.std.specs.Option.{option_map_or}
use Rattle.oi_base.specs.declared.tag.Tag.{Tag}
use Rattle.oi_history.specs.declared.config.SessionConfig.{SessionConfig}
use Rattle.oi_history.specs.declared.event.Event.{Event}
use Rattle.oi_history.specs.declared.event.Event.TheVariants.{Abort, ResetLun, ResetTarget, Manage, PduIn, Tick, Lost, Terminate}
use Rattle.oi_history.specs.declared.fate.Fate.{Fate}
use Rattle.oi_history.specs.declared.fate.Fate.TheVariants.{Live}
use Rattle.oi_history.specs.declared.phase.Handler.{Handler}
use Rattle.oi_history.specs.declared.phase.Handler.TheVariants.{Idle, Aborting, ResettingLun, ResettingTarget, Spent}
use Rattle.oi_history.specs.declared.task.Task.{Task}
use Rattle.oi_pdu.specs.declared.header.Header.{Header}
use Rattle.oi_pdu.specs.declared.header.Header.TheVariants.{TaskResponse}
use Rattle.oi_recovery.specs.declared.hit.Aim.{Aim}
use Rattle.oi_recovery.specs.declared.hit.Aim.TheVariants.{Free, Abort as ByAbort, Reset as ByReset}
use Rattle.oi_timers.specs.Timers.{past}

abbrev pub is_live : Fate → Bool
is_live (Live generation tag tries) = true
is_live f = false

-- the submission is live
abbrev pub live_at : ℕ → List Task → Bool
live_at id tasks = option_map_or (λ t. is_live t.fate) (slice_get tasks id) false

abbrev pub lun_at : ℕ → List Task → ℕ
lun_at id tasks = option_map_or (λ t. t.command.lun) (slice_get tasks id) 0

-- what follows a step that failed; an abort whose task is over has nothing left to do
abbrev pub escalated : List Task → ℕ → Handler → Handler
escalated tasks now Idle = Idle
escalated tasks now (Aborting id tag since) = if live_at id tasks then ResettingLun (lun_at id tasks) None now else Idle
escalated tasks now (ResettingLun lun tag since) = ResettingTarget None now
escalated tasks now (ResettingTarget tag since) = Spent
escalated tasks now Spent = Spent

-- its time is over
abbrev pub is_late : SessionConfig → ℕ → Handler → Bool
is_late C now (Aborting id tag since) = past since C.abort now
is_late C now (ResettingLun lun tag since) = past since C.lun_reset now
is_late C now (ResettingTarget tag since) = past since C.target_reset now
is_late C now h = false

abbrev pub is_tag : ℕ → Option Tag → Bool
is_tag tag o = option_map_or (λ t. t.0 == tag) o false

-- its request has this tag
abbrev pub sent_under : ℕ → Handler → Bool
sent_under tag (Aborting id t since) = is_tag tag t
sent_under tag (ResettingLun lun t since) = is_tag tag t
sent_under tag (ResettingTarget t since) = is_tag tag t
sent_under tag h = false

abbrev pub under_tag : Tag → Handler → Handler
under_tag tag (Aborting id t since) = Aborting id (Some tag) since
under_tag tag (ResettingLun lun t since) = ResettingLun lun (Some tag) since
under_tag tag (ResettingTarget t since) = ResettingTarget (Some tag) since
under_tag tag h = h

-- a response that counts; response 0 is "function complete" (section 11.6.1)
abbrev pub handler_told : ℕ → List Task → Header → Handler → Handler
handler_told now tasks (TaskResponse r) h = if sent_under r.tag.0 h then (if r.response == 0 then Idle else escalated tasks now h) else h
handler_told now tasks head h = h

-- by the last reading and the submissions before the entry
abbrev pub handler_step : SessionConfig → ℕ → Bool → List Task → Event → Handler → Handler
handler_step C now accepted tasks (Abort id) h = if live_at id tasks then Aborting id None now else h
handler_step C now accepted tasks (ResetLun lun) h = ResettingLun lun None now
handler_step C now accepted tasks ResetTarget h = ResettingTarget None now
handler_step C now accepted tasks (Manage generation tag function subject) h = under_tag tag h
handler_step C now accepted tasks (PduIn generation pdu) h = if accepted then handler_told now tasks pdu.head h else h
handler_step C now accepted tasks (Tick reading) h = if is_late C reading h then escalated tasks reading h else h
handler_step C now accepted tasks (Lost generation cause) h = Idle
handler_step C now accepted tasks (Terminate cause) h = Idle
handler_step C now accepted tasks e h = h

-- what the handler's step covers: the task of an abort; the live ones of a reset
abbrev pub aim_of : Handler → ℕ → Task → Aim
aim_of (Aborting id tag since) k t = if id == k && is_live t.fate then ByAbort else Free
aim_of (ResettingLun lun tag since) k t = if t.command.lun == lun && is_live t.fate then ByReset else Free
aim_of (ResettingTarget tag since) k t = if is_live t.fate then ByReset else Free
aim_of Spent k t = if is_live t.fate then ByReset else Free
aim_of Idle k t = Free

-- nothing is under way
abbrev pub is_idle : Handler → Bool
is_idle Idle = true
is_idle h = false

abbrev pub is_spent : Handler → Bool
is_spent Spent = true
is_spent h = false
