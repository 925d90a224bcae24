use Rattle.std.proofs.Common.{◌≡◌, ◌∙◌, ℕ, ap, reverse, sym}
use Rattle.std.specs.Option.{option_copied}
use Rattle.oi_history.specs.Meanings.{Meanings, handed_so_far}
use Rattle.oi_session_laws.proofs.Outcomes.{outcome_at, outcome_found, outcome_handed, outcome_lost}
use Rattle.oi_session_laws.specs.Answers.{outcome_among}
use Rattle.oi_solo.specs.Sessions.{RunView}
use Rattle.oi_solo.specs.declared.kept.Kept.{Kept}
use Rattle.oi_solo.specs.Cores.{IsKept}
use Rattle.oi_solo.proofs.run.Run.outcome.Goals as goal

handed : (k : Kept) (r : RunView) (id : ℕ) → IsKept k → handed_so_far k.ledger.config (reverse k.events.items) ≡ r.delivered → outcome_at id k.ledger.now.tasks ≡ outcome_among id r.delivered
handed k r id is view =
    ap (λ (m : Meanings). outcome_at id m.tasks) is.now
    ∙ sym (outcome_handed k.ledger.config (reverse k.events.items) is.legal id)
    ∙ ap (outcome_among id) view

pub returns-in-Some : goal.returns-in-Some
returns-in-Some c =
    c.told_outcome.ensures
    ∙ outcome_found c.args.id c.self.inside.kept.ledger.now.tasks c.in-Some.task.now (sym c.task.ensures ∙ ap option_copied c.in-Some.is)
    ∙ handed c.self.inside.kept c.args.self.now c.args.id c.self.invariant (ap (λ (r : RunView). r.delivered) c.self.view_is)

pub returns-in-None : goal.returns-in-None
returns-in-None c =
    sym (outcome_lost c.args.id c.self.inside.kept.ledger.now.tasks (sym c.task.ensures ∙ ap option_copied c.in-None.is))
    ∙ handed c.self.inside.kept c.args.self.now c.args.id c.self.invariant (ap (λ (r : RunView). r.delivered) c.self.view_is)
