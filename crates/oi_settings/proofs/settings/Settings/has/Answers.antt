use Rattle.std.proofs.Common.{ap, is_some, ◌∙◌}
use Rattle.oi_settings.specs.Pairs.{has_name}
use Rattle.oi_settings.proofs.Entries.{value_of-seen}
use Rattle.oi_settings.proofs.settings.Settings.has.Goals as goal

pub returns : goal.returns
returns c =
    c.contains_key.ensures ∙ ap is_some (value_of-seen c.args.name.now c.self.inside.values.entries) ∙ ap (has_name c.args.name.now) c.self.view_is
