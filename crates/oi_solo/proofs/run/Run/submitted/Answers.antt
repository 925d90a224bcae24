use Rattle.std.proofs.Common.{◌∙◌, List, ap, length, reverse, sym}
use Rattle.std.proofs.lemmas.List.{reverse-reverse}
use Rattle.oi_history.specs.Meanings.{Meanings}
use Rattle.oi_history.specs.declared.event.Numbered.{Numbered}
use Rattle.oi_session_laws.proofs.Counted.{requests_counted}
use Rattle.oi_session_laws.specs.Answers.{requests_in}
use Rattle.oi_solo.specs.Sessions.{RunView}
use Rattle.oi_solo.proofs.run.Run.submitted.Goals as goal

pub returns : goal.returns
returns c =
    let history : List Numbered = reverse c.self.inside.kept.events.items in
    c.submitted.ensures
    ∙ ap (λ (m : Meanings). length m.tasks) c.self.invariant.now
    ∙ requests_counted c.self.inside.kept.ledger.config history
    ∙ ap requests_in (sym (reverse-reverse history))
    ∙ ap (λ (r : RunView). requests_in (reverse r.events)) c.self.view_is
