-- What a connection knows beside its commands: the tags of its other requests, which PDUs count, pings, answers that are
-- owed, and the wish to leave (RFC 7143, sections 11.9, 11.14, 11.15, 11.18 and 11.19).
use Rattle.std.specs.Prelude.{ℕ, Bool, true, false, not, ◌+◌, ◌-◌, ◌^◌, min, ◌==◌, ◌&&◌, ◌++◌, List, [], ◌∷◌, Option, Some, None, drop, nat_le, nat_lt, if◌then◌else◌}
use Rattle.std.specs.Option.{option_map_or}
use Rattle.oi_base.specs.TagLayout.{age_after, management_tag, reserved_tag}
use Rattle.oi_history.specs.Acceptance.{rule_of}
use Rattle.oi_history.specs.declared.allocated.Allocated.{Allocated}
use Rattle.oi_history.specs.declared.event.Event.{Event}
use Rattle.oi_history.specs.declared.event.Event.TheVariants.{PduIn, Login, Manage, Nop, Logout, Leave, Lost}
use Rattle.oi_history.specs.declared.owed.Echo.{Echo}
use Rattle.oi_history.specs.declared.owed.Ping.{Ping}
use Rattle.oi_history.specs.declared.rule.Rule.{Rule}
use Rattle.oi_history.specs.declared.rule.Rule.TheVariants.{UnknownTag}
use Rattle.oi_history.specs.declared.task.Task.{Task}
use Rattle.oi_pdu.specs.declared.header.Header.{Header}
use Rattle.oi_pdu.specs.declared.header.Header.TheVariants.{NopIn, TaskResponse, LogoutResponse, Async}

-- one tag more; far above what a connection may give the count stands still
abbrev pub one_given : ℕ → ℕ
one_given n = min (n + 1) (2 ^ 32 - 1)

-- how many management tags the connection gave; they are numbered from 0
abbrev pub managed_step : Event → ℕ → ℕ
managed_step (Login generation params cmdsn max exp_stat) n = 0
managed_step (Manage generation tag function subject) n = one_given n
managed_step (Logout generation tag) n = one_given n
managed_step (Nop generation tag ttt lun) n = if tag == reserved_tag then n else one_given n
managed_step e n = n

-- the tag was given to a management PDU of this connection
abbrev pub is_given : ℕ → ℕ → ℕ → Bool
is_given generation managed tag = nat_le (management_tag (age_after generation) 0) tag && nat_lt tag (management_tag (age_after generation) managed)

abbrev pub given_rule : ℕ → ℕ → ℕ → Option Rule
given_rule generation managed tag = if is_given generation managed tag then None else Some UnknownTag

-- the first rule that a PDU of the connection breaks
abbrev pub rule_on : ℕ → ℕ → List Allocated → List Task → Header → List ℕ → Option Rule
rule_on generation managed busy tasks (NopIn h) payload = if h.tag.0 == reserved_tag then None else given_rule generation managed h.tag.0
rule_on generation managed busy tasks (TaskResponse h) payload = given_rule generation managed h.tag.0
rule_on generation managed busy tasks (LogoutResponse h) payload = given_rule generation managed h.tag.0
rule_on generation managed busy tasks head payload = rule_of busy tasks head payload

-- the reading at the login or at the last PDU that counted
abbrev pub heard_step : ℕ → Bool → Event → ℕ → ℕ
heard_step now accepted (Login generation params cmdsn max exp_stat) heard = now
heard_step now accepted (PduIn generation pdu) heard = if accepted then now else heard
heard_step now accepted e heard = heard

-- the ping that is not answered yet; its NOP-In ends it
abbrev pub is_its_tag : ℕ → Option Ping → Bool
is_its_tag tag o = option_map_or (λ p. p.tag.0 == tag) o false

abbrev pub ping_told : Header → Option Ping → Option Ping
ping_told (NopIn h) ping = if is_its_tag h.tag.0 ping then None else ping
ping_told head ping = ping

abbrev pub ping_step : ℕ → Bool → Event → Option Ping → Option Ping
ping_step now accepted (Login generation params cmdsn max exp_stat) ping = None
ping_step now accepted (Lost generation cause) ping = None
ping_step now accepted (Nop generation tag ttt lun) ping = if tag == reserved_tag then ping else Some (record { tag = record { 0 = tag }; sent = now })
ping_step now accepted (PduIn generation pdu) ping = if accepted then ping_told pdu.head ping else ping
ping_step now accepted e ping = ping

-- NOP-Ins that wait for their answer, the oldest first
abbrev pub echoes_told : Header → List Echo → List Echo
echoes_told (NopIn h) echoes = if h.tag.0 == reserved_tag && not (h.ttt == reserved_tag) then echoes ++ record { ttt = h.ttt; lun = h.lun } ∷ [] else echoes
echoes_told head echoes = echoes

abbrev pub echoes_step : Bool → Event → List Echo → List Echo
echoes_step accepted (Login generation params cmdsn max exp_stat) echoes = []
echoes_step accepted (Lost generation cause) echoes = []
echoes_step accepted (Nop generation tag ttt lun) echoes = if tag == reserved_tag then drop 1 echoes else echoes
echoes_step accepted (PduIn generation pdu) echoes = if accepted then echoes_told pdu.head echoes else echoes
echoes_step accepted e echoes = echoes

-- events of Async Messages that counted on the connection
abbrev pub asked_told : Header → List ℕ → List ℕ
asked_told (Async h) asked = asked ++ h.event ∷ []
asked_told head asked = asked

abbrev pub asked_step : Bool → Event → List ℕ → List ℕ
asked_step accepted (Login generation params cmdsn max exp_stat) asked = []
asked_step accepted (PduIn generation pdu) asked = if accepted then asked_told pdu.head asked else asked
asked_step accepted e asked = asked

-- a logout was asked for, on this connection
abbrev pub leaving_step : Event → Bool → Bool
leaving_step Leave leaving = true
leaving_step (Lost generation cause) leaving = false
leaving_step e leaving = leaving

-- its request was sent
abbrev pub logout_step : Event → Bool → Bool
logout_step (Logout generation tag) sent = true
logout_step (Lost generation cause) sent = false
logout_step (Login generation params cmdsn max exp_stat) sent = false
logout_step e sent = sent

-- a response to it counted
abbrev pub is_logout_response : Header → Bool
is_logout_response (LogoutResponse h) = true
is_logout_response head = false

abbrev pub logged_out_step : Bool → Bool → Event → Bool → Bool
logged_out_step accepted leaving (PduIn generation pdu) done = if accepted && leaving && is_logout_response pdu.head then true else done
logged_out_step accepted leaving (Lost generation cause) done = false
logged_out_step accepted leaving e done = done
