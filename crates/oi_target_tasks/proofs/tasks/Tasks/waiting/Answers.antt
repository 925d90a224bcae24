-- The command at the number that is found is the one that waits.
use Rattle.std.proofs.Common.{sym, ap, ◌∙◌, option_copied}
use Rattle.oi_target_tasks.proofs.Indexes.{is_found, none_waits, one_waits}
use Rattle.oi_target_tasks.proofs.tasks.Tasks.waiting.Goals as goal

pub returns-in_err-number : goal.returns-in_err-number
returns-in_err-number c =
    ap option_copied c.from_residual.ensures ∙ sym (none_waits c.self.invariant c.args.self.now c.self.view_is c.args.tag (sym c.waiting_at.ensures ∙ c.in_err-number.was))

pub returns : goal.returns
returns c =
    let f = is_found c.self.inside.order.entries c.self.inside.places.entries c.args.tag c.in_ok-number.number (sym c.waiting_at.ensures ∙ c.in_ok-number.was) in
    c.get.ensures.value ∙ f.held ∙ sym (one_waits c.self.invariant c.args.self.now c.self.view_is c.args.tag c.in_ok-number.number f)
