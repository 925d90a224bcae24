use Rattle.std.proofs.Common.{reverse, take}
use Rattle.oi_history.specs.Traces.{Follows}
use Rattle.oi_history.proofs.trace.check_trace.Given as goal

abbrev pub invariant-loop-entry : goal.invariant-loop-entry
invariant-loop-entry l = Follows l.ledger l.last l.fn.config (reverse (take l.entry-index l.fn.events))
