use Rattle.std.proofs.Common.{ap, ◌∙◌}
use Rattle.oi_settings.specs.Keys.{Key, path_text}
use Rattle.oi_nodedb.proofs.Loading.{bad_path, other_path, same_path}
use Rattle.oi_nodedb.proofs.load.record_of.Goals as goal

-- the text is that of another path's record
pub returns-then-not-is_same : goal.returns-then-not-is_same
returns-then-not-is_same c =
    let own = c.as_slice.ensures ∙ c.in-Ok-path_of.ensures ∙ ap (λ (k : Key). path_text k) c.key.ensures.key in
    bad_path c.args.path.now c.args.text.now c.in-Ok.record c.bad_record-then-not-is_same.result c.in-Ok.ensures.ok
    (other_path c.is_same.result c.as_slice.result.now c.args.path.now (path_text c.in-Ok.record.key) c.as_slice-2.result.now c.is_same.ensures c.as_slice-2.ensures c.if-not-is_same.true own)
    c.bad_record-then-not-is_same.ensures

pub returns : goal.returns
returns c =
    let own = c.as_slice.ensures ∙ c.in-Ok-path_of.ensures ∙ ap (λ (k : Key). path_text k) c.key.ensures.key in
    (same_path c.is_same.result c.as_slice.result.now c.args.path.now (path_text c.in-Ok.record.key) c.as_slice-2.result.now c.is_same.ensures c.as_slice-2.ensures c.if-not-is_same.false own, c.in-Ok.ensures.ok)
