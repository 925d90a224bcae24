-- The entries that send a PDU.
use Rattle.std.specs.Prelude.{Bool, true, false}
use Rattle.oi_history.specs.declared.event.Event.{Event}
use Rattle.oi_history.specs.declared.event.Event.TheVariants.{Push, Issue, Manage, Nop, Logout}

-- a command, or a piece of its data
abbrev pub sends_data : Event → Bool
sends_data (Push id generation ttt number offset size last) = true
sends_data (Issue id generation tag cmdsn) = true
sends_data e = false

-- another request
abbrev pub sends_request : Event → Bool
sends_request (Manage generation tag function subject) = true
sends_request (Nop generation tag ttt lun) = true
sends_request (Logout generation tag) = true
sends_request e = false
