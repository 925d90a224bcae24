-- One submission: what an event makes of it, by the recovery table (RFC 7143, sections 11.3, 11.4 and 11.7).
use Rattle.std.specs.Prelude.{ℕ, Bool, true, false, not, ◌==◌, ◌&&◌, ◌+◌, ◌++◌, List, [], ◌∷◌, Option, slice_get, if◌then◌else◌, suc, zero}
use Rattle.std.specs.Option.{option_and_then}
use Rattle.oi_base.specs.Serials.{successor}
use Rattle.oi_base.specs.declared.tag.Tag.{Tag}
use Rattle.oi_history.specs.Tags.{holder}
use Rattle.oi_history.specs.declared.allocated.Allocated.{Allocated}
use Rattle.oi_history.specs.declared.command.Command.{Command}
use Rattle.oi_history.specs.declared.fate.Delivered.{Delivered}
use Rattle.oi_history.specs.declared.fate.Fate.{Fate}
use Rattle.oi_history.specs.declared.fate.Fate.TheVariants.{Waiting, Live, Done}
use Rattle.oi_history.specs.declared.fate.Outcome.TheVariants.{Answered, Host}
use Rattle.oi_history.specs.declared.reply.ReplyData.{ReplyData}
use Rattle.oi_history.specs.declared.task.Task.{Task}
use Rattle.oi_pdu.specs.declared.header.DataIn.{DataIn}
use Rattle.oi_pdu.specs.declared.header.ScsiResponse.{ScsiResponse}
use Rattle.oi_recovery.specs.declared.hit.Residual.{Residual}
use Rattle.oi_recovery.specs.declared.hit.Residual.TheVariants.{Exact, Under, Over}
use Rattle.oi_recovery.specs.declared.stand.Next.{Next}
use Rattle.oi_recovery.specs.declared.stand.Next.TheVariants.{Stay, Wait, Answer, Host as Fails}
use Rattle.oi_scsi.specs.Sense.{sense_in}

abbrev pub is_waiting : Fate → Bool
is_waiting (Waiting tries) = true
is_waiting f = false

abbrev pub is_done : Fate → Bool
is_done (Done outcome at) = true
is_done f = false

-- live under this tag
abbrev pub is_live_on : ℕ → Fate → Bool
is_live_on tag (Live generation t tries) = t.0 == tag
is_live_on tag f = false

-- the tries used, with the present one
abbrev pub tries_of : Fate → ℕ
tries_of (Waiting tries) = tries
tries_of (Live generation tag tries) = tries
tries_of (Done outcome at) = 0

-- a submission that came in just now
abbrev pub fresh_task : Command → Task
fresh_task c = record { command = c; fate = Waiting 0; got = []; pieces = 0; told = false }

-- its command goes out under a tag: one more try
abbrev pub issued : ℕ → Tag → Task → Task
issued generation tag t = record t { fate = Live generation tag (tries_of t.fate + 1) }

-- a Data-In in its order
abbrev pub with_piece : List ℕ → Task → Task
with_piece payload t = record t { got = t.got ++ payload; pieces = successor t.pieces }

-- the U bit goes before the O bit
abbrev pub residual_of : Bool → Bool → ℕ → Residual
residual_of over under count = if under then Under count else (if over then Over count else Exact)

-- a Data-In with status is a reply without sense data: its segment is data
abbrev pub data_reply : DataIn → ReplyData
data_reply h = record { response = 0; status = h.status; residual = residual_of h.over h.under h.residual; sense = [] }

abbrev pub scsi_reply : ScsiResponse → List ℕ → ReplyData
scsi_reply h payload = record { response = h.response; status = h.status; residual = residual_of h.over h.under h.residual; sense = sense_in payload }

-- the data of a try that is over are dropped, or go into the answer
abbrev pub settled : ℕ → ReplyData → Task → Next → Task
settled at r t Stay = t
settled at r t (Wait tries) = record t { fate = Waiting tries; got = []; pieces = 0 }
settled at r t Answer = record t { fate = Done (Answered r.status r.residual r.sense t.got) at; got = []; pieces = 0 }
settled at r t (Fails code) = record t { fate = Done (Host code) at; got = []; pieces = 0 }

-- its outcome is handed out
abbrev pub told_task : Task → Task
told_task t = record t { told = is_done t.fate }

-- the submission in use of a tag
abbrev pub held : ℕ → List Allocated → List Task → Option Task
held tag busy tasks = option_and_then (λ id. slice_get tasks id) (holder tag busy)

-- one place of a list changed
abbrev pub changed : ℕ → (Task → Task) → List Task → List Task
changed id f [] = []
changed zero f (t ∷ ts) = f t ∷ ts
changed (suc id) f (t ∷ ts) = t ∷ changed id f ts

-- done and not handed out
abbrev pub is_due : Task → Bool
is_due t = is_done t.fate && not t.told

abbrev pub due_of : ℕ → Task → Fate → List Delivered
due_of id t (Done outcome at) = if t.told then [] else record { id = id; outcome = outcome } ∷ []
due_of id t f = []

-- what is due, in ascending id
abbrev pub due_from : ℕ → List Task → List Delivered
due_from id [] = []
due_from id (t ∷ ts) = due_of id t t.fate ++ due_from (id + 1) ts

abbrev pub due_in : List Task → List Delivered
due_in tasks = due_from 0 tasks
