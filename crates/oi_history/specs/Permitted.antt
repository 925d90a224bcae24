-- The fifteen rules of a legal history, each read with the entries before (RFC 7143: command numbers, section 4.2.2.1; data, 4.2.5.2 and
-- 11.7; tags, 11.2.1.8; requests beside commands, 11.5, 11.14 and 11.18; lost connections, 7.14).
use Rattle.std.specs.Prelude.{◌≡◌, ◌⊎◌, ◌≤◌, ◌<◌, ◌+◌, ◌++◌, ◌^◌, ℕ, true, false, List, [], ◌∷◌, Some, None, length, slice_get}
use Rattle.oi_base.specs.Limits.{most_management_tags}
use Rattle.oi_base.specs.TagLayout.{reserved_tag}
use Rattle.oi_history.specs.Handling.{is_live}
use Rattle.oi_history.specs.Histories.{IsAbove}
use Rattle.oi_history.specs.Losses.{is_cause}
use Rattle.oi_history.specs.Meanings.{Meanings, meanings}
use Rattle.oi_history.specs.Owing.{owed_in, push_of, sendable}
use Rattle.oi_history.specs.Phases.{has_connection, is_ended, is_logged_in}
use Rattle.oi_history.specs.Queues.{drawable}
use Rattle.oi_history.specs.Tags.{holder}
use Rattle.oi_history.specs.Tasks.{due_in, is_done}
use Rattle.oi_history.specs.declared.config.SessionConfig.{SessionConfig}
use Rattle.oi_history.specs.declared.event.Event.{Event}
use Rattle.oi_history.specs.declared.event.Event.TheVariants.{Submit, Push, PduIn, Deliver, Login, Issue, Draw, Reap, Manage, Nop, Logout, Leave, Lost, Tick, Abort, ResetLun, ResetTarget}
use Rattle.oi_history.specs.declared.event.Numbered.{Numbered}
use Rattle.oi_history.specs.declared.owed.Queued.{Queued}
use Rattle.oi_history.specs.declared.phase.Handler.TheVariants.{Idle}
use Rattle.oi_history.specs.declared.task.Task.{Task}
use Rattle.oi_scsi.specs.Requests.{IsValid}
use Rattle.oi_window.specs.Numbering.{is_open, next_of}

-- 2: a submission has the next id and a request that can be made, and the session goes on
abbrev pub Comes : Meanings → Event → Type 0
Comes m (Submit id request) = (id ≡ length m.tasks) × IsValid request.kind × (is_ended m.phase ≡ false)
Comes m e = Unit {0}

-- 3: a command is that of the least submission that waits and has room, on the live and unbroken connection, while the error
-- handler rests and nobody leaves
abbrev pub IsNextCommand : SessionConfig → Meanings → Event → Type 0
IsNextCommand C m (Issue id generation tag cmdsn) =
    (sendable C.queue_depth m.tasks ≡ Some id) × (is_logged_in m.phase generation ≡ true) × (m.handler ≡ Idle) × (m.leaving ≡ false) × (m.broken ≡ None)
IsNextCommand C m e = Unit {0}

-- 4: it has the next CmdSN, and the window is open
abbrev pub IsNumbered : Meanings → Event → Type 0
IsNumbered m (Issue id generation tag cmdsn) = (cmdsn ≡ next_of m.window) × (is_open m.window ≡ true)
IsNumbered m e = Unit {0}

-- 5: it has the tag that has been free longest, and none waits for its release
abbrev pub IsTagged : Meanings → Event → Type 0
IsTagged m (Issue id generation tag cmdsn) = (slice_get m.free 0 ≡ Some tag) × (m.ended ≡ [])
IsTagged m e = Unit {0}

-- 6: data that are sent are those that wait first, and their tag is in use for their submission
abbrev pub IsNextData : Meanings → Event → Type 0
IsNextData m (Push id generation ttt number offset size last) =
    (q : Queued) × (slice_get m.queue 0 ≡ Some q) × (push_of m.generation q ≡ Push id generation ttt number offset size last) × (holder q.tag.0 m.busy ≡ Some id)
IsNextData m e = Unit {0}

-- 7: the tag that is released ended first
abbrev pub IsFirstEnded : Meanings → Event → Type 0
IsFirstEnded m (Reap tag) = slice_get m.ended 0 ≡ Some tag
IsFirstEnded m e = Unit {0}

-- 8: all R2Ts for live submissions are taken up, and there is one
abbrev pub DrawsAll : Meanings → Event → Type 0
DrawsAll m (Draw count) = (count ≡ length (drawable m.busy m.tasks m.solicited)) × (1 ≤ count)
DrawsAll m e = Unit {0}

-- 9: another request is owed, with the next management tag; an answer to the target's own NOP-In has none
abbrev pub IsOwed : SessionConfig → Meanings → ℕ → Event → Type 0
IsOwed C m tag e = (owed_in C m ≡ e ∷ []) × (tag ≡ reserved_tag ⊎ m.managed < most_management_tags)

abbrev pub IsAsked : SessionConfig → Meanings → Event → Type 0
IsAsked C m (Manage generation tag function subject) = IsOwed C m tag.0 (Manage generation tag function subject)
IsAsked C m (Nop generation tag ttt lun) = IsOwed C m tag (Nop generation tag ttt lun)
IsAsked C m (Logout generation tag) = IsOwed C m tag.0 (Logout generation tag)
IsAsked C m e = Unit {0}

-- 10: the clock does not go back
abbrev pub GoesOn : Meanings → Event → Type 0
GoesOn m (Tick now) = (m.clock ≤ now) × (now < 2 ^ 53)
GoesOn m e = Unit {0}

-- 11: the live connection is lost, for a cause that holds
abbrev pub HasCause : SessionConfig → Meanings → Event → Type 0
HasCause C m (Lost generation cause) = (is_logged_in m.phase generation ≡ true) × (is_cause C m cause ≡ true)
HasCause C m e = Unit {0}

-- 12: a login is the next one, where there is no connection and the session goes on
abbrev pub IsNextLogin : Meanings → Event → Type 0
IsNextLogin m (Login generation params cmdsn max exp_stat) =
    (generation ≡ m.generation + 1) × (1 ≤ params.max_send) × (has_connection m.phase ≡ false) × (is_ended m.phase ≡ false)
IsNextLogin m e = Unit {0}

-- 13: all that is due is handed out, and something is
abbrev pub HandsOut : Meanings → Event → Type 0
HandsOut m (Deliver count) = (count ≡ length (due_in m.tasks)) × (1 ≤ count)
HandsOut m e = Unit {0}

-- 14: what is asked of the session would not be refused: an abort of what is not done, with the error handler at rest where
-- it is live; a reset with the handler at rest, and a wish to leave, on a connection
abbrev pub IsHeeded : Meanings → Event → Type 0
IsHeeded m (Abort id) = (t : Task) × (slice_get m.tasks id ≡ Some t) × (is_done t.fate ≡ false) × (is_live t.fate ≡ true → m.handler ≡ Idle)
IsHeeded m (ResetLun lun) = (has_connection m.phase ≡ true) × (m.handler ≡ Idle)
IsHeeded m ResetTarget = (has_connection m.phase ≡ true) × (m.handler ≡ Idle)
IsHeeded m Leave = has_connection m.phase ≡ true
IsHeeded m e = Unit {0}

-- 15: after the end only PDUs come in and outcomes are handed out
abbrev pub StandsBehind : Meanings → Event → Type 0
StandsBehind m (PduIn generation pdu) = Unit {0}
StandsBehind m (Deliver count) = Unit {0}
StandsBehind m e = is_ended m.phase ≡ false

-- all of them
pub record IsPermitted (C : SessionConfig) (H : List Numbered) (n : Numbered) : Type 0 where
  pub ascends : IsAbove n.number H
  pub comes : Comes (meanings C H) n.event
  pub command : IsNextCommand C (meanings C H) n.event
  pub numbered : IsNumbered (meanings C H) n.event
  pub tagged : IsTagged (meanings C H) n.event
  pub pushed : IsNextData (meanings C H) n.event
  pub released : IsFirstEnded (meanings C H) n.event
  pub drawn : DrawsAll (meanings C H) n.event
  pub owed : IsAsked C (meanings C H) n.event
  pub ticks : GoesOn (meanings C H) n.event
  pub lost : HasCause C (meanings C H) n.event
  pub login : IsNextLogin (meanings C H) n.event
  pub handed : HandsOut (meanings C H) n.event
  pub heeded : IsHeeded (meanings C H) n.event
  pub behind : StandsBehind (meanings C H) n.event

-- the entry breaks a rule and keeps those before it
abbrev pub Fails : Type 0 → ℕ → ℕ → Type 0 → Type 0
Fails Rule rule k otherwise = ((rule ≡ k) × (Rule → ⊥)) ⊎ (Rule × otherwise)

-- the least rule that it breaks, by its number
abbrev pub Breaks : ℕ → SessionConfig → List Numbered → Numbered → Type 0
Breaks rule C H n =
    Fails (IsAbove n.number H) rule 1 (
    Fails (Comes (meanings C H) n.event) rule 2 (
    Fails (IsNextCommand C (meanings C H) n.event) rule 3 (
    Fails (IsNumbered (meanings C H) n.event) rule 4 (
    Fails (IsTagged (meanings C H) n.event) rule 5 (
    Fails (IsNextData (meanings C H) n.event) rule 6 (
    Fails (IsFirstEnded (meanings C H) n.event) rule 7 (
    Fails (DrawsAll (meanings C H) n.event) rule 8 (
    Fails (IsAsked C (meanings C H) n.event) rule 9 (
    Fails (GoesOn (meanings C H) n.event) rule 10 (
    Fails (HasCause C (meanings C H) n.event) rule 11 (
    Fails (IsNextLogin (meanings C H) n.event) rule 12 (
    Fails (HandsOut (meanings C H) n.event) rule 13 (
    Fails (IsHeeded (meanings C H) n.event) rule 14 (
    Fails (StandsBehind (meanings C H) n.event) rule 15 ⊥))))))))))))))

-- each entry is permitted by those before it
abbrev pub ArePermitted : SessionConfig → List Numbered → Type 0
ArePermitted C [] = Unit {0}
ArePermitted C (n ∷ H) = IsPermitted C H n × ArePermitted C H

-- the first entry that is not permitted, and the least rule that it breaks
pub record IsFirstIllegal (C : SessionConfig) (H : List Numbered) (number rule : ℕ) : Type 0 where
  pub after : List Numbered
  pub entry : Numbered
  pub before : List Numbered
  pub whole : H ≡ after ++ entry ∷ before
  pub legal : ArePermitted C before
  pub breaks : Breaks rule C before entry
  pub number_is : number ≡ entry.number
