use Rattle.std.proofs.Common.{◌≡◌, List, ℕ, ◌++◌, ap, append_assoc, ◌∙◌}
use Rattle.oi_settings.specs.declared.schema.Schema.TheVariants.{Second}
use Rattle.oi_settings.specs.Texts.{begin_line, end_line, lines_of}
use Rattle.oi_settings.proofs.record.append_text.Goals as goal

joined : (old a b d x y z : List ℕ) → x ≡ old ++ a → y ≡ x ++ b → z ≡ y ++ d → z ≡ old ++ (a ++ (b ++ d))
joined old a b d x y z first second third =
    third ∙ ap (λ (t : List ℕ). t ++ d) (second ∙ ap (λ (t : List ℕ). t ++ b) first) ∙ append_assoc (old ++ a) b d ∙ append_assoc old a (b ++ d)

pub returns-clause-ok : goal.returns-clause-ok
returns-clause-ok c =
    joined c.args.out.now.items (begin_line Second) (lines_of c.args.settings.now) end_line c.extend_from_slice.new.self.items c.append_lines.new.out.items c.extend_from_slice-2.new.self.items
    c.in_ok-extend_from_slice.ensures.items c.in_ok-append_lines.ensures.ok c.in_ok-extend_from_slice-2.ensures.items
