use Rattle.std.proofs.Common.{◌≡◌, length, take, sym, ap, ◌∙◌, arith, length-take}
use Rattle.std.proofs.lemmas.List.{length-map, take-map}
use Rattle.oi_settings.specs.Schema.{row_of, table}
use Rattle.oi_settings.proofs.schema.settings_of.Goals as goal

pub slice_bounds-result-end : goal.slice_bounds-result-end
slice_bounds-result-end c =
    let long : length c.every_setting-all.result.now ≡ length table = sym (length-map c.every_setting-all.result.now row_of) ∙ ap length c.every_setting-all.ensures in
    omega (arith, long, length-take 29 c.every_setting-all.result.now)

pub returns-in-First : goal.returns-in-First
returns-in-First c = rw c.in-First.is (sym (take-map row_of 29 c.every_setting-all.result.now) ∙ ap (take 29) c.every_setting-all.ensures)
