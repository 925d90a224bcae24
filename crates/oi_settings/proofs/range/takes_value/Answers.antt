use Rattle.std.proofs.Common.{List, ◌↔◌, IsTrue, IfOk, subst}
use Rattle.oi_settings.specs.Schema.{Row, Takes}
use Rattle.oi_settings.proofs.range.takes_value.Goals as goal

pub returns : goal.returns
returns c = subst (λ (rows : List Row). IfOk c.takes.result (λ b. IsTrue b ↔ Takes rows c.args.name.now c.args.value.now)) c.settings_of.ensures c.takes.ensures
