use Rattle.std.proofs.Common.{◌∙◌, ℕ, List, Some, ap, sym}
use Rattle.oi_admin.proofs.Shapes.{update_is}
use Rattle.oi_admin.proofs.words.update_of.Goals as goal

pub returns : goal.returns
returns c =
    update_is c.args.options.now c.args.filter c.in-Ok-Ok.name c.in-Ok-Ok.value c.requires.mode c.requires.operation (c.in-Some-Some.is-0 ∙ ap (λ (x : List ℕ). Some x) (sym c.in-Ok-Ok.ensures))
    (c.in-Some-Some.is-1 ∙ ap (λ (x : List ℕ). Some x) (sym c.in-Ok-Ok.ensures')) c.requires.filter
