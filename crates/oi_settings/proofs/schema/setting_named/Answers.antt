use Rattle.std.proofs.Common.{sym, ap, ◌∙◌, option_map}
use Rattle.oi_settings.specs.Schema.{row_of}
use Rattle.oi_settings.proofs.Rows.{row_named-map}
use Rattle.oi_settings.proofs.schema.setting_named.Goals as goal

pub returns : goal.returns
returns c = ap (option_map row_of) c.first_named.ensures ∙ sym (row_named-map c.args.name.now c.args.settings.now)
