use Rattle.std.proofs.Common.{◌≡◌, ap, sym, ◌∙◌}
use Rattle.std.specs.List.{list_all}
use Rattle.std.proofs.lemmas.List.Folds.{list_all-map}
use Rattle.oi_settings.specs.Pairs.{has_name}
use Rattle.oi_settings.specs.Schema.{Row, row_of}
use Rattle.oi_settings.specs.Texts.{rows_of}
use Rattle.oi_settings.proofs.text.is_complete.Goals as goal

pub returns : goal.returns
returns c =
    let test : Row → _ = λ r. has_name r.name c.args.read.now in
    let same : c.has_all.result ≡ list_all test (rows_of c.args.schema) =
    c.has_all.ensures ∙ sym (list_all-map test row_of c.settings_of.result.now) ∙ ap (list_all test) c.settings_of.ensures in
    (λ is. sym same ∙ is, λ all. same ∙ all)
