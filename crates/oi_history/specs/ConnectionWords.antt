-- The numbers and parameters of a connection, and the rule that a PDU on it broke (RFC 7143, sections 4.2.2.1, 4.2.2.2 and 7.13).
use Rattle.std.specs.Prelude.{ℕ, Bool, Option, Some, None, if◌then◌else◌}
use Rattle.std.specs.Option.{option_map_or}
use Rattle.oi_base.specs.Serials.{successor}
use Rattle.oi_base.specs.declared.login.Params.{Params}
use Rattle.oi_history.specs.Acceptance.{numbers_of}
use Rattle.oi_history.specs.declared.event.Event.{Event}
use Rattle.oi_history.specs.declared.event.Event.TheVariants.{PduIn, Login, Issue}
use Rattle.oi_history.specs.declared.numbers.Numbers.{Numbers}
use Rattle.oi_history.specs.declared.rule.Rule.{Rule}
use Rattle.oi_window.specs.Numbering.{window_advanced, window_after, window_at}
use Rattle.oi_window.specs.declared.window.Window.{Window}

-- the numbers of commands; an accepted PDU tells the target's
abbrev pub window_told : Option Numbers → Window → Window
window_told None w = w
window_told (Some n) w = window_after n.exp.0 n.max.0 w

abbrev pub numbering_after : Bool → Event → Window → Window
numbering_after accepted (Login generation params cmdsn max exp_stat) w = window_at cmdsn max
numbering_after accepted (Issue id generation tag cmdsn) w = window_advanced w
numbering_after accepted (PduIn generation pdu) w = if accepted then window_told (numbers_of pdu.head) w else w
numbering_after accepted e w = w

-- ExpStatSN: one more than the last StatSN of the target
abbrev pub stat_told : Option Numbers → ℕ → ℕ
stat_told None stat = stat
stat_told (Some n) stat = option_map_or (λ s. successor s.0) n.stat stat

abbrev pub stat_after : Bool → Event → ℕ → ℕ
stat_after accepted (Login generation params cmdsn max exp_stat) stat = exp_stat
stat_after accepted (PduIn generation pdu) stat = if accepted then stat_told (numbers_of pdu.head) stat else stat
stat_after accepted e stat = stat

abbrev pub params_after : Event → Option Params → Option Params
params_after (Login generation params cmdsn max exp_stat) p = Some params
params_after e p = p

-- the protocol error of the connection: the first rule that a PDU on it broke
abbrev pub broken_after : Bool → Option Rule → Event → Option Rule → Option Rule
broken_after current rule (Login generation params cmdsn max exp_stat) broken = None
broken_after current rule (PduIn generation pdu) broken = if current then rule else broken
broken_after current rule e broken = broken
