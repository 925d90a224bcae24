-- Why a connection may be lost, as far as the session itself can tell (RFC 7143, sections 7.13, 7.14 and 11.9).
use Rattle.std.specs.Prelude.{Bool, true, false, ◌==◌, Option, Some, None, is_some}
use Rattle.std.specs.List.{position}
use Rattle.std.specs.Option.{option_map_or}
use Rattle.oi_history.specs.Handling.{is_spent}
use Rattle.oi_history.specs.Meanings.{Meanings}
use Rattle.oi_history.specs.RuleWords.{is_rule}
use Rattle.oi_history.specs.declared.config.SessionConfig.{SessionConfig}
use Rattle.oi_history.specs.declared.phase.LostCause.{LostCause}
use Rattle.oi_history.specs.declared.phase.LostCause.TheVariants.{Broken, Ping, Handler, Asked}
use Rattle.oi_history.specs.declared.rule.Rule.{Rule}
use Rattle.oi_history.specs.declared.rule.Rule.TheVariants.{Header, TooLong}
use Rattle.oi_timers.specs.Ping.{ping_due}
use Rattle.oi_timers.specs.declared.pings.PingDue.{PingDue}
use Rattle.oi_timers.specs.declared.pings.PingDue.TheVariants.{TimedOut}

abbrev pub is_timed_out : PingDue → Bool
is_timed_out TimedOut = true
is_timed_out d = false

-- the outstanding ping is past its time at the last reading
abbrev pub is_ping_late : SessionConfig → Meanings → Bool
is_ping_late C m = is_timed_out (ping_due m.heard (option_map_or (λ p. Some p.sent) m.ping None) C.noop_interval C.noop_timeout m.clock)

-- a rule of the stream is met outside the session, another one by a PDU in the history
abbrev pub is_broken_by : Rule → Option Rule → Bool
is_broken_by Header broken = true
is_broken_by TooLong broken = true
is_broken_by rule broken = option_map_or (λ r. is_rule r rule) broken false

-- the cause holds; what the link or a line tells is no matter of the history
abbrev pub is_cause : SessionConfig → Meanings → LostCause → Bool
is_cause C m (Broken rule) = is_broken_by rule m.broken
is_cause C m Ping = is_ping_late C m
is_cause C m Handler = is_spent m.handler
is_cause C m (Asked event) = is_some (position (λ e. e == event) m.asked)
is_cause C m cause = true
