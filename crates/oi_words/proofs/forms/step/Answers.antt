use Rattle.std.proofs.Common.{ℕ, List, Option, Ok, None, map, subst, sym}
use Rattle.std.specs.String.{string_bytes}
use Rattle.oi_words.specs.Parses.{IsStep, MayWait}
use Rattle.oi_words.proofs.Fronts.{value_step}
use Rattle.oi_words.proofs.forms.step.Goals as goal

pub returns-in-Ok : goal.returns-in-Ok
returns-in-Ok c =
    let old : List (List ℕ) = map (λ s. string_bytes s) c.args.forms.now.items in
    let new : List (List ℕ) = map (λ s. string_bytes s) c.push_form.new.forms.items in
    subst (λ (w : Option ℕ). IsStep w c.args.word.now (Ok None) old new) (sym c.in-Some.is)
    (value_step c.in-Some.letter c.args.word.now old new (subst MayWait c.in-Some.is c.requires) c.in-Ok.ensures)
