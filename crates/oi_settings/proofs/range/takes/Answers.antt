use Rattle.std.proofs.Common.{Option, ◌↔◌, IsTrue, IfOk, IfSome, subst}
use Rattle.oi_settings.specs.Schema.{IsIn, Row}
use Rattle.oi_settings.proofs.range.takes.Goals as goal

pub returns-in-Some : goal.returns-in-Some
returns-in-Some c =
    subst (λ (o : Option Row). IfOk c.is_in.result (λ b. IsTrue b ↔ IfSome o (λ r. IsIn r.range c.args.value.now))) c.in-Some.ensures c.is_in.ensures
