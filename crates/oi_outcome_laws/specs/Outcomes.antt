-- What decides the outcome of a submission.
use Rattle.std.specs.Prelude.{◌≡◌, ◌==◌, ◌&&◌, ℕ, Bool, true, false, List, [], ◌∷◌, ◌++◌, Option, Some, length, slice_get, if◌then◌else◌}
use Rattle.oi_base.specs.declared.tag.Tag.{Tag}
use Rattle.oi_history.specs.Courses.{is_at_once, is_fail_fast, is_overdue}
use Rattle.oi_history.specs.Handling.{aim_of, is_live, sent_under}
use Rattle.oi_history.specs.Meanings.{Meanings, accepted_in, handed_so_far, meanings}
use Rattle.oi_history.specs.Permitted.{ArePermitted}
use Rattle.oi_history.specs.Tags.{holder}
use Rattle.oi_history.specs.Tasks.{data_reply, is_live_on, residual_of, scsi_reply}
use Rattle.oi_history.specs.declared.config.SessionConfig.{SessionConfig}
use Rattle.oi_history.specs.declared.event.Event.{Event}
use Rattle.oi_history.specs.declared.event.Event.TheVariants.{Submit, PduIn, Issue, Lost, Tick, Abort, Terminate}
use Rattle.oi_history.specs.declared.event.Numbered.{Numbered}
use Rattle.oi_history.specs.declared.fate.Delivered.{Delivered}
use Rattle.oi_history.specs.declared.fate.Fate.{Fate}
use Rattle.oi_history.specs.declared.fate.Fate.TheVariants.{Waiting, Live, Done}
use Rattle.oi_history.specs.declared.fate.Outcome.{Outcome}
use Rattle.oi_history.specs.declared.fate.Outcome.TheVariants.{Answered, Host as ByHost}
use Rattle.oi_history.specs.declared.phase.Handler.{Handler}
use Rattle.oi_history.specs.declared.phase.Handler.TheVariants.{Aborting, ResettingLun, ResettingTarget}
use Rattle.oi_history.specs.declared.reply.ReplyData.{ReplyData}
use Rattle.oi_history.specs.declared.task.Task.{Task}
use Rattle.oi_pdu.specs.declared.header.Header.{Header}
use Rattle.oi_pdu.specs.declared.header.Header.TheVariants.{ScsiResponse, DataIn, TaskResponse}
use Rattle.oi_recovery.specs.Recovery.{recovery_table}
use Rattle.oi_recovery.specs.declared.hit.Hit.{Hit}
use Rattle.oi_recovery.specs.declared.hit.Hit.TheVariants.{Reply, AbortDone, ResetDone, Lost as ByLoss, ReplacementPast, Aborted, Ended}
use Rattle.oi_recovery.specs.declared.host_code.HostCode.TheVariants.{FailFast}
use Rattle.oi_recovery.specs.declared.stand.Next.{Next}
use Rattle.oi_recovery.specs.declared.stand.Next.TheVariants.{Answer, Host}
use Rattle.oi_recovery.specs.declared.stand.Stand.{Stand}
use Rattle.oi_recovery.specs.declared.stand.Stand.TheVariants.{Waiting as StandsWaiting, Live as StandsLive}
use Rattle.oi_scsi.specs.Sense.{sense_in}
use Rattle.oi_session_laws.specs.Stays.{fate_at}

-- a Data-In is for the submission with this id: it has the tag, and is live on it
abbrev pub goes_to : ℕ → ℕ → Option ℕ → Option Fate → Bool
goes_to tag id (Some k) (Some f) = k == id && is_live_on tag f
goes_to tag id o p = false

-- the data of its last try: none as its command is sent, and then each payload behind those before (RFC 7143, section 11.7)
abbrev pub data_heard : Meanings → Header → List ℕ → ℕ → List ℕ → List ℕ
data_heard m (DataIn h) payload id bytes = if goes_to h.tag.0 id (holder h.tag.0 m.busy) (fate_at id m.tasks) then bytes ++ payload else bytes
data_heard m head payload id bytes = bytes

abbrev pub data_step : Meanings → Event → ℕ → List ℕ → List ℕ
data_step m (Issue k generation tag cmdsn) id bytes = if k == id then [] else bytes
data_step m (PduIn generation pdu) id bytes = if accepted_in (PduIn generation pdu) m then data_heard m pdu.head pdu.payload id bytes else bytes
data_step m e id bytes = bytes

abbrev pub data_of : SessionConfig → ℕ → List Numbered → List ℕ
data_of C id [] = []
data_of C id (n ∷ H) = data_step (meanings C H) n.event id (data_of C id H)

-- the row of the recovery table for a submission that is not done
abbrev pub Stands : Fate → Stand → Type 0
Stands (Waiting tries) stand = stand ≡ StandsWaiting tries
Stands (Live generation tag tries) stand = stand ≡ StandsLive tries
Stands (Done outcome at) stand = ⊥

-- the tag is in use for the submission with this id, which is live on it
abbrev pub IsOnTag : Meanings → Tag → ℕ → Task → Type 0
IsOnTag m tag id t = (holder tag.0 m.busy ≡ Some id) × (is_live_on tag.0 t.fate ≡ true)

-- a reply of the target behind these data, for the table
abbrev pub reply_hit : Meanings → ℕ → Task → List ℕ → ReplyData → Hit
reply_hit m id t got r = Reply r.response r.status r.residual t.command.length (length got) t.command.reads (aim_of m.handler id t)

-- a request of the error handler was carried out, which covers the submission (RFC 7143, section 11.6)
abbrev pub CarriedOut : Handler → ℕ → Task → Hit → Type 0
CarriedOut (Aborting k tag since) id t hit = (k ≡ id) × (hit ≡ AbortDone)
CarriedOut (ResettingLun lun tag since) id t hit = (t.command.lun ≡ lun) × (hit ≡ ResetDone)
CarriedOut (ResettingTarget tag since) id t hit = hit ≡ ResetDone
CarriedOut handler id t hit = ⊥

-- what an accepted PDU brings to the submission with this id: a reply, alone or with the last data (sections 11.4, 11.7), or the answer
-- to the error handler
abbrev pub Brings : Meanings → Header → List ℕ → ℕ → Task → Hit → Type 0
Brings m (ScsiResponse h) payload id t hit = IsOnTag m h.tag id t × (hit ≡ reply_hit m id t t.got (scsi_reply h payload))
Brings m (DataIn h) payload id t hit = IsOnTag m h.tag id t × (h.ends ≡ true) × (hit ≡ reply_hit m id t (t.got ++ payload) (data_reply h))
Brings m (TaskResponse h) payload id t hit = (sent_under h.tag.0 m.handler ≡ true) × (h.response ≡ 0) × CarriedOut m.handler id t hit
Brings m head payload id t hit = ⊥

-- what an entry means for the submission with this id
abbrev pub Befalls : SessionConfig → Meanings → Event → ℕ → Task → Hit → Type 0
Befalls C m (PduIn generation pdu) id t hit = (accepted_in (PduIn generation pdu) m ≡ true) × Brings m pdu.head pdu.payload id t hit
Befalls C m (Lost generation cause) id t hit = hit ≡ ByLoss (aim_of m.handler id t) (is_at_once C.replacement) C.count_disrupted
Befalls C m (Tick reading) id t hit = (is_overdue C.replacement reading m.phase ≡ true) × (hit ≡ ReplacementPast)
Befalls C m (Abort k) id t hit = (k ≡ id) × (hit ≡ Aborted)
Befalls C m (Terminate cause) id t hit = hit ≡ Ended
Befalls C m e id t hit = ⊥

-- the target's answer: status, residual, sense data, and all data of the try
abbrev pub IsAnswerOf : Header → List ℕ → Task → Outcome → Type 0
IsAnswerOf (ScsiResponse h) payload t outcome = outcome ≡ Answered h.status (residual_of h.over h.under h.residual) (sense_in payload) t.got
IsAnswerOf (DataIn h) payload t outcome = outcome ≡ Answered h.status (residual_of h.over h.under h.residual) [] (t.got ++ payload)
IsAnswerOf head payload t outcome = ⊥

abbrev pub IsAnswer : Event → Task → Outcome → Type 0
IsAnswer (PduIn generation pdu) t outcome = IsAnswerOf pdu.head pdu.payload t outcome
IsAnswer e t outcome = ⊥

-- the table lets the answer stand, or gives an error
abbrev pub Gives : Event → Task → Next → Outcome → Type 0
Gives e t Answer outcome = IsAnswer e t outcome
Gives e t (Host code) outcome = outcome ≡ ByHost code
Gives e t next outcome = ⊥

-- an entry decides the submission with this id by the table; while it is live, it has the data of its last try
pub record IsByTable (C : SessionConfig) (H : List Numbered) (e : Event) (id : ℕ) (outcome : Outcome) : Type 0 where
  pub task : Task
  pub there : slice_get (meanings C H).tasks id ≡ Some task
  pub got : is_live task.fate ≡ true → task.got ≡ data_of C id H
  pub stand : Stand
  pub stands : Stands task.fate stand
  pub hit : Hit
  pub befalls : Befalls C (meanings C H) e id task hit
  pub gives : Gives e task (recovery_table stand hit C.tries) outcome

-- or it is one that comes in while the session fails fast
abbrev pub Decides : SessionConfig → List Numbered → Event → ℕ → Outcome → Type 0
Decides C H (Submit k request) id outcome = (id ≡ length (meanings C H).tasks) × (is_fail_fast (meanings C H).phase ≡ true) × (outcome ≡ ByHost FailFast)
Decides C H e id outcome = IsByTable C H e id outcome

-- the command of the submission is sent
abbrev pub is_command_of : ℕ → Event → Bool
is_command_of id (Issue k generation tag cmdsn) = k == id
is_command_of id e = false

abbrev pub SendNone : ℕ → List Numbered → Type 0
SendNone id [] = Unit {0}
SendNone id (n ∷ H) = (is_command_of id n.event ≡ false) × SendNone id H

-- an entry of the history decided it, behind which no command of the submission was sent
pub record IsDecided (C : SessionConfig) (H : List Numbered) (id : ℕ) (outcome : Outcome) : Type 0 where
  pub later : List Numbered
  pub entry : Numbered
  pub before : List Numbered
  pub split : H ≡ later ++ entry ∷ before
  pub decides : Decides C before entry.event id outcome
  pub last : SendNone id later

abbrev pub AreDecided : SessionConfig → List Numbered → List Delivered → Type 0
AreDecided C H [] = Unit {0}
AreDecided C H (d ∷ ds) = IsDecided C H d.id d.outcome × AreDecided C H ds

-- each outcome that was handed out was decided so
abbrev pub OutcomesAreDecided : Type 0
OutcomesAreDecided = (C : SessionConfig) (H : List Numbered) → ArePermitted C H → AreDecided C H (handed_so_far C H)
