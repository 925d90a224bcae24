use Rattle.std.proofs.Common.{subst, sym, ap, ◌∙◌, ℕ, List}
use Rattle.std.specs.Str.{IsUtf8}
use Rattle.oi_settings.specs.Keys.{Key, path_text}
use Rattle.oi_settings.proofs.AsciiPaths.{path_is_text}
use Rattle.oi_nodedb.proofs.stored.remove_text.Goals as goal

-- a path is a text
pub as_text-requires : goal.as_text-requires
as_text-requires g c =
    let is = c.in-Ok.ensures ∙ ap (λ (k : Key). path_text k) c.key.ensures.key in
    subst (λ (p : List ℕ). IsUtf8 p) (sym is) (path_is_text c.args.node.now.key c.key.ensures.well_formed.valid)
