-- Which lock an entry needs: that of the half that sends, that of the half that receives, or both.
use Rattle.std.specs.Prelude.{ℕ, Bool, true, false, ◌||◌, nat_le, if◌then◌else◌}
use Rattle.oi_base.specs.Limits.{most_pending}
use Rattle.oi_history.specs.declared.event.Event.{Event}
use Rattle.oi_history.specs.declared.event.Event.TheVariants.{Submit, Push, PduIn, Deliver}
use Rattle.oi_pdu.specs.declared.header.Header.{Header}
use Rattle.oi_pdu.specs.declared.header.Header.TheVariants.{TaskResponse}

abbrev pub is_task_response : Header → Bool
is_task_response (TaskResponse h) = true
is_task_response head = false

-- under the lock of the half that sends, by whether the session fails fast and how many are not done as far as that half was told
abbrev pub is_sending : Event → Bool
is_sending (PduIn generation pdu) = is_task_response pdu.head
is_sending (Deliver count) = false
is_sending e = true

-- under the lock of the half that receives
abbrev pub is_receiving : Bool → ℕ → Event → Bool
is_receiving fails_fast pending (Submit id request) = fails_fast || nat_le most_pending pending
is_receiving fails_fast pending (Push id generation ttt number offset size last) = false
is_receiving fails_fast pending e = true

-- under both
abbrev pub is_joint : Bool → ℕ → Event → Bool
is_joint fails_fast pending e = if is_sending e then is_receiving fails_fast pending e else false
