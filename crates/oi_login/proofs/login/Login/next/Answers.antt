use Rattle.std.proofs.Common.{sym, refl, ap, ◌∙◌}
use Rattle.oi_login.specs.States.{state_at}
use Rattle.oi_login.proofs.Encoded.{sends_well}
use Rattle.oi_login.proofs.Steps.{failing}
use Rattle.oi_login.proofs.login.Login.next.Goals as goal

pub returns-in-Ok-Asks-clause-answer : goal.returns-in-Ok-Asks-clause-answer
returns-in-Ok-Asks-clause-answer c =
    let t = rw c.in-Ok-Asks.field-0-is at c.in-Ok-Asks.ensures in
    rw (← c.self.view_is) (c.in-Some.progress, c.in-Ok-Asks.progress, sym c.take.ensures.value ∙ c.in-Some.is, t, refl)

pub returns-in-Ok-Asks-clause-encodable : goal.returns-in-Ok-Asks-clause-encodable
returns-in-Ok-Asks-clause-encodable c =
    let t = rw c.in-Ok-Asks.field-0-is at c.in-Ok-Asks.ensures in
    sends_well c.self.inside.config c.in-Some.progress c.in-Ok-Asks.progress c.args.response.now c.in-Ok-Asks.request c.self.invariant t

pub returns-in-Ok-Fails-clause-answer : goal.returns-in-Ok-Fails-clause-answer
returns-in-Ok-Fails-clause-answer c =
    let t = rw c.in-Ok-Fails.field-0-is at c.in-Ok-Fails.ensures in
    failing c.args.self.now _ c.self.inside.config c.self.inside.progress c.in-Some.progress c.args.response.now c.in-Ok-Fails.fault c.self.view_is (sym c.take.ensures.value ∙ c.in-Some.is) t
    (ap (λ o. state_at c.self.inside.config o) c.take.ensures.after)
