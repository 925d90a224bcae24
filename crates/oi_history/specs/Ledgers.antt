-- What the plain program asks of an entry.
use Rattle.std.specs.Prelude.{◌≡◌, ◌≤◌, ◌<◌, ◌+◌, ◌^◌, ℕ, Bool, true, false, All, List, Option, Some, length, slice_get}
use Rattle.oi_base.specs.declared.login.Params.{Params}
use Rattle.oi_history.specs.Meanings.{Meanings}
use Rattle.oi_history.specs.declared.config.SessionConfig.{SessionConfig}
use Rattle.oi_history.specs.declared.owed.Solicited.{Solicited}
use Rattle.oi_history.specs.Queues.{drawn, unasked}
use Rattle.oi_history.specs.Submitted.{Waits, brings, taken_by}
use Rattle.oi_history.specs.declared.allocated.Allocated.{Allocated}
use Rattle.oi_history.specs.declared.event.Event.{Event}
use Rattle.oi_history.specs.declared.event.Event.TheVariants.{PduIn, Login, Issue, Draw, Reap}
use Rattle.oi_history.specs.declared.task.Task.{Task}
use Rattle.oi_pdu.specs.declared.header.Header.{Header}
use Rattle.oi_pdu.specs.declared.header.Header.TheVariants.{R2t}
use Rattle.oi_window.specs.Numbering.{is_open}
use Rattle.oi_window.specs.declared.window.Window.{Window}

-- a command goes out where the window is open
abbrev pub CanAdvance : Event → Window → Type 0
CanAdvance (Issue id generation tag cmdsn) w = is_open w ≡ true
CanAdvance e w = Unit {0}

pub record LedgerView : Type 0 where
  pub config : SessionConfig
  pub now : Meanings
  -- without memory: tags that can be released, commands that can be sent, Data-Outs that can be queued, and R2Ts, NOP-Ins
  -- and Async Messages that can be kept
  pub releases : ℕ
  pub takes : ℕ
  pub pieces : ℕ
  pub hears : ℕ

-- the target takes data
abbrev pub HasSegment : Option Params → Type 0
HasSegment params = (p : Params) → params ≡ Some p → 1 ≤ p.max_send

-- R2Ts end below 2^32
abbrev pub AreWithin : List Solicited → Type 0
AreWithin rs = All (λ r. r.offset + r.length < 2 ^ 32) rs

-- a login has a generation, and a target that takes data
abbrev pub IsLogin : Event → Type 0
IsLogin (Login generation params cmdsn max exp_stat) = (1 ≤ generation) × (1 ≤ params.max_send)
IsLogin e = Unit {0}

-- what a step asks of its event
pub record CanStep (m : Meanings) (e : Event) : Type 0 where
  pub login : IsLogin e
  pub window : CanAdvance e m.window
  pub waits : Waits e m.tasks

-- an R2T ends below 2^32
abbrev pub EndsWithin : Header → Type 0
EndsWithin (R2t h) = h.offset + h.length < 2 ^ 32
EndsWithin head = Unit {0}

abbrev pub IsWithin : Event → Type 0
IsWithin (PduIn generation pdu) = EndsWithin pdu.head
IsWithin e = Unit {0}

-- what an entry needs of the room

abbrev pub released_by : Event → ℕ
released_by (Reap tag) = 1
released_by e = 0

-- a login frees all tags
abbrev pub freed_by : ℕ → Event → ℕ
freed_by count (Login generation params cmdsn max exp_stat) = count
freed_by count e = released_by e

abbrev pub is_login : Event → Bool
is_login (Login generation params cmdsn max exp_stat) = true
is_login e = false

abbrev pub heard_by : Event → ℕ
heard_by (PduIn generation pdu) = 1
heard_by e = 0

abbrev pub queued_by : Option Params → List Allocated → List Task → List Solicited → Event → ℕ
queued_by params busy tasks rs (Issue id generation tag cmdsn) = length (unasked params id tag (slice_get tasks id))
queued_by params busy tasks rs (Draw count) = length (drawn params busy tasks rs)
queued_by params busy tasks rs e = 0

abbrev pub queued_in : Meanings → Event → ℕ
queued_in m e = queued_by m.params m.busy m.tasks m.solicited e

-- there is room for it
pub record HasRoom (v : LedgerView) (e : Event) : Type 0 where
  pub releases : freed_by v.config.cmds_max e ≤ v.releases
  pub takes : taken_by e ≤ v.takes
  pub pieces : queued_in v.now e ≤ v.pieces
  pub hears : heard_by e ≤ v.hears

-- the entry brings nothing in, and there is room for what it moves
pub record NeedsNoMemory (v : LedgerView) (e : Event) : Type 0 where
  pub quiet : brings e ≡ false
  pub releases : released_by e ≤ v.releases
  pub takes : taken_by e ≤ v.takes
  pub pieces : queued_in v.now e ≤ v.pieces

-- only room was made
pub record IsRoomier (old new : LedgerView) : Type 0 where
  pub config : new.config ≡ old.config
  pub now : new.now ≡ old.now
  pub releases : old.releases ≤ new.releases
  pub takes : old.takes ≤ new.takes
  pub pieces : old.pieces ≤ new.pieces

-- what an entry leaves of the room
pub record LeavesRoom (old new : LedgerView) (e : Event) : Type 0 where
  pub releases : is_login e ≡ false → old.releases ≤ new.releases + released_by e
  pub takes : old.takes ≤ new.takes + taken_by e
  pub pieces : old.pieces ≤ new.pieces + queued_in old.now e
