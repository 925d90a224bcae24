-- What an entry makes of the submissions, by the recovery table (RFC 7143, sections 7.14, 11.4 and 11.6).
use Rattle.std.specs.Prelude.{ℕ, Bool, ◌==◌, ◌+◌, ◌++◌, List, [], ◌∷◌, length, map, if◌then◌else◌}
use Rattle.oi_history.specs.Commands.{command_of}
use Rattle.oi_history.specs.Courses.{is_at_once, is_fail_fast, is_overdue}
use Rattle.oi_history.specs.Handling.{aim_of, sent_under}
use Rattle.std.specs.Option.{option_map_or}
use Rattle.oi_history.specs.Tags.{holder}
use Rattle.oi_history.specs.Tasks.{changed, data_reply, fresh_task, is_live_on, issued, scsi_reply, settled, told_task, tries_of, with_piece}
use Rattle.oi_history.specs.declared.allocated.Allocated.{Allocated}
use Rattle.oi_history.specs.declared.command.Command.{Command}
use Rattle.oi_history.specs.declared.config.SessionConfig.{SessionConfig}
use Rattle.oi_history.specs.declared.event.Event.{Event}
use Rattle.oi_history.specs.declared.event.Event.TheVariants.{Submit, PduIn, Deliver, Issue, Lost, Tick, Abort, Terminate}
use Rattle.oi_history.specs.declared.fate.Fate.{Fate}
use Rattle.oi_history.specs.declared.fate.Fate.TheVariants.{Waiting, Live, Done}
use Rattle.oi_history.specs.declared.fate.Outcome.TheVariants.{Host as ByHost}
use Rattle.oi_history.specs.declared.phase.Handler.{Handler}
use Rattle.oi_history.specs.declared.phase.Handler.TheVariants.{Aborting, ResettingLun, ResettingTarget}
use Rattle.oi_history.specs.declared.phase.Phase.{Phase}
use Rattle.oi_history.specs.declared.reply.ReplyData.{ReplyData}
use Rattle.oi_history.specs.declared.task.Task.{Task}
use Rattle.oi_pdu.specs.declared.header.DataIn.{DataIn as DataInHeader}
use Rattle.oi_pdu.specs.declared.header.Header.{Header}
use Rattle.oi_pdu.specs.declared.header.Header.TheVariants.{ScsiResponse, DataIn, TaskResponse}
use Rattle.oi_pdu.specs.declared.header.ScsiResponse.{ScsiResponse as ResponseHeader}
use Rattle.oi_recovery.specs.Recovery.{recovery_table}
use Rattle.oi_recovery.specs.declared.hit.Aim.{Aim}
use Rattle.oi_recovery.specs.declared.hit.Hit.{Hit}
use Rattle.oi_recovery.specs.declared.hit.Hit.TheVariants.{Reply, AbortDone, ResetDone, Lost as ByLoss, ReplacementPast, Aborted, Ended}
use Rattle.oi_recovery.specs.declared.host_code.HostCode.{HostCode}
use Rattle.oi_recovery.specs.declared.host_code.HostCode.TheVariants.{FailFast as FailsFast}
use Rattle.oi_recovery.specs.declared.stand.Next.{Next}
use Rattle.oi_recovery.specs.declared.stand.Next.TheVariants.{Stay, Wait, Answer, Host}
use Rattle.oi_recovery.specs.declared.stand.Stand.TheVariants.{Waiting as StandsWaiting, Live as StandsLive}

-- failed for good, by the entry with this number; the data of its try are dropped
abbrev pub failed : ℕ → HostCode → Task → Task
failed at code t = record t { fate = Done (ByHost code) at; got = []; pieces = 0 }

-- it waits again, and the data of its try are dropped
abbrev pub waits_again : ℕ → Task → Task
waits_again tries t = record t { fate = Waiting tries; got = []; pieces = 0 }

abbrev pub moved_by : ℕ → Task → Next → Task
moved_by at t (Wait tries) = waits_again tries t
moved_by at t (Host code) = failed at code t
moved_by at t Stay = t
moved_by at t Answer = t

-- what befalls a submission that is no reply to it
abbrev pub hit_in : ℕ → ℕ → Hit → Task → Fate → Task
hit_in allowed at hit t (Waiting tries) = moved_by at t (recovery_table (StandsWaiting tries) hit allowed)
hit_in allowed at hit t (Live generation tag tries) = moved_by at t (recovery_table (StandsLive tries) hit allowed)
hit_in allowed at hit t (Done outcome n) = t

abbrev pub hit_by : ℕ → ℕ → Hit → Task → Task
hit_by allowed at hit t = hit_in allowed at hit t t.fate

-- a reply to the present try, while the error handler aims so
abbrev pub answered_by : ℕ → ℕ → Aim → ReplyData → Task → Task
answered_by allowed at aim r t =
    settled at r t (recovery_table (StandsLive (tries_of t.fate)) (Reply r.response r.status r.residual t.command.length (length t.got) t.command.reads aim) allowed)

abbrev pub got_data : ℕ → ℕ → Aim → DataInHeader → List ℕ → Task → Task
got_data allowed at aim h payload t =
    if is_live_on h.tag.0 t.fate
    then (if h.ends then answered_by allowed at aim (data_reply h) (with_piece payload t) else with_piece payload t)
    else t

abbrev pub got_response : ℕ → ℕ → Aim → ResponseHeader → List ℕ → Task → Task
got_response allowed at aim h payload t = if is_live_on h.tag.0 t.fate then answered_by allowed at aim (scsi_reply h payload) t else t

-- a change that asks the place of each
abbrev pub map_from : ℕ → (ℕ → Task → Task) → List Task → List Task
map_from k f [] = []
map_from k f (t ∷ tasks) = f k t ∷ map_from (k + 1) f tasks

-- the reset of a logical unit
abbrev pub reset_by : ℕ → ℕ → ℕ → Task → Task
reset_by allowed at lun t = if t.command.lun == lun then hit_by allowed at ResetDone t else t

-- the request of the error handler was carried out
abbrev pub carried_out : ℕ → ℕ → Handler → List Task → List Task
carried_out allowed at (Aborting id tag since) tasks = changed id (hit_by allowed at AbortDone) tasks
carried_out allowed at (ResettingLun lun tag since) tasks = map (reset_by allowed at lun) tasks
carried_out allowed at (ResettingTarget tag since) tasks = map (hit_by allowed at ResetDone) tasks
carried_out allowed at h tasks = tasks

-- the submission in use of a tag changed, by its id
abbrev pub changed_under : ℕ → List Allocated → (ℕ → Task → Task) → List Task → List Task
changed_under tag busy f tasks = option_map_or (λ id. changed id (f id) tasks) (holder tag busy) tasks

-- an accepted PDU
abbrev pub tasks_heard : ℕ → ℕ → Handler → List Allocated → Header → List ℕ → List Task → List Task
tasks_heard allowed at handler busy (DataIn h) payload tasks = changed_under h.tag.0 busy (λ k t. got_data allowed at (aim_of handler k t) h payload t) tasks
tasks_heard allowed at handler busy (ScsiResponse h) payload tasks = changed_under h.tag.0 busy (λ k t. got_response allowed at (aim_of handler k t) h payload t) tasks
tasks_heard allowed at handler busy (TaskResponse h) payload tasks = if sent_under h.tag.0 handler then (if h.response == 0 then carried_out allowed at handler tasks else tasks) else tasks
tasks_heard allowed at handler busy head payload tasks = tasks

-- a submission that comes in
abbrev pub submitted_in : Phase → ℕ → Command → Task
submitted_in p at c = if is_fail_fast p then failed at FailsFast (fresh_task c) else fresh_task c

-- the loss of the connection, for the submission with this id
abbrev pub lost_by : ℕ → ℕ → Handler → Bool → Bool → ℕ → Task → Task
lost_by allowed at handler at_once counted k t = hit_by allowed at (ByLoss (aim_of handler k t) at_once counted) t

-- by the meanings before the entry with the number `at`
abbrev pub tasks_step : SessionConfig → ℕ → Bool → Phase → Handler → List Allocated → Event → List Task → List Task
tasks_step C at accepted p handler busy (Submit id request) tasks = tasks ++ submitted_in p at (command_of request) ∷ []
tasks_step C at accepted p handler busy (Issue id generation tag cmdsn) tasks = changed id (issued generation tag) tasks
tasks_step C at accepted p handler busy (PduIn generation pdu) tasks = if accepted then tasks_heard C.tries at handler busy pdu.head pdu.payload tasks else tasks
tasks_step C at accepted p handler busy (Lost generation cause) tasks =
    map_from 0 (lost_by C.tries at handler (is_at_once C.replacement) C.count_disrupted) tasks
tasks_step C at accepted p handler busy (Tick reading) tasks = if is_overdue C.replacement reading p then map (hit_by C.tries at ReplacementPast) tasks else tasks
tasks_step C at accepted p handler busy (Abort id) tasks = changed id (hit_by C.tries at Aborted) tasks
tasks_step C at accepted p handler busy (Deliver count) tasks = map told_task tasks
tasks_step C at accepted p handler busy (Terminate cause) tasks = map (hit_by C.tries at Ended) tasks
tasks_step C at accepted p handler busy e tasks = tasks
