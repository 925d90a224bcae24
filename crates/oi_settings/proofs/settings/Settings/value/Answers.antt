use Rattle.std.proofs.Common.{ap, ◌∙◌}
use Rattle.oi_settings.specs.Pairs.{value_of}
use Rattle.oi_settings.proofs.Entries.{value_of-seen}
use Rattle.oi_settings.proofs.settings.Settings.value.Goals as goal

pub returns : goal.returns
returns c = c.get.ensures.value ∙ value_of-seen c.args.name.now c.self.inside.values.entries ∙ ap (value_of c.args.name.now) c.self.view_is
