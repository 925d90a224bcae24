-- The command at the number that is found is the one that waits.
use Rattle.std.proofs.Common.{sym, ap, ◌∙◌}
use Rattle.std.specs.Map.{values_of}
use Rattle.oi_target_tasks.proofs.Indexes.{is_found, none_awaited, none_dropped, one_awaited, one_dropped}
use Rattle.oi_target_tasks.proofs.tasks.Tasks.drop_waiting.Goals as goal

pub returns-in_default-clause-dropped : goal.returns-in_default-clause-dropped
returns-in_default-clause-dropped c = none_awaited c.self.invariant c.args.self.now c.self.view_is c.args.tag (sym c.waiting_at.ensures ∙ c.in_default.is)

pub returns-in_default-clause-tasks : goal.returns-in_default-clause-tasks
returns-in_default-clause-tasks c = none_dropped c.self.invariant c.args.self.now c.self.view_is c.args.tag (sym c.waiting_at.ensures ∙ c.in_default.is)

pub returns-clause-dropped : goal.returns-clause-dropped
returns-clause-dropped c =
    one_awaited c.self.invariant c.args.self.now c.self.view_is c.args.tag c.in-Some.number (is_found _ _ _ _ (sym c.waiting_at.ensures ∙ c.in-Some.is))

pub returns-clause-tasks : goal.returns-clause-tasks
returns-clause-tasks c =
    ap values_of c.remove.ensures.entries
    ∙ one_dropped c.self.invariant c.args.self.now c.self.view_is c.args.tag c.in-Some.number (is_found _ _ _ _ (sym c.waiting_at.ensures ∙ c.in-Some.is))
