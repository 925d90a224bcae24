use Rattle.std.proofs.Common.{◌≡◌, List, ℕ, Option, Some, None, Bor, IsSome, true, true≢false, refl, ap, is_some, option_copied, sym, ◌∙◌}
use Rattle.oi_settings.specs.Pairs.{has_name, value_of}
use Rattle.oi_settings.specs.Schema.{table}
use Rattle.oi_settings.specs.Texts.{part_name}
use Rattle.oi_settings.proofs.PairLists.{line_of_value}
use Rattle.oi_settings.proofs.Tables.{has_part, part_of_value}
use Rattle.oi_settings.proofs.naming.text_of.Goals as goal

some_there : {X : Type 0} (o : Option (Bor X)) → is_some (option_copied o) ≡ true → IsSome o
some_there None e = absurd (true≢false (sym e))
some_there (Some x) e = refl

pub unwrap-requires : goal.unwrap-requires
unwrap-requires c =
    some_there c.value.result
    (ap is_some c.value.ensures ∙ ap (λ (n : List ℕ). has_name n c.args.settings.now) c.name_of.ensures ∙ has_part c.args.part c.args.settings.now c.requires.complete)

pub returns-clause-part : goal.returns-clause-part
returns-clause-part c =
    let found : value_of (part_name c.args.part) c.args.settings.now ≡ Some c.as_slice.result.now =
    sym (ap (λ (n : List ℕ). value_of n c.args.settings.now) c.name_of.ensures) ∙ sym c.value.ensures ∙ ap option_copied c.unwrap.ensures ∙ ap Some (sym c.as_slice.ensures) in
    part_of_value c.args.part c.as_slice.result.now (line_of_value table (part_name c.args.part) c.as_slice.result.now c.args.settings.now c.requires.lines found).1
