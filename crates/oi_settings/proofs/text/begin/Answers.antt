use Rattle.std.proofs.Common.{◌≡◌, List, ℕ, ◌++◌}
use Rattle.oi_settings.specs.declared.schema.Schema.{Schema}
use Rattle.oi_settings.specs.declared.schema.Schema.TheVariants.{First, Second}
use Rattle.oi_settings.specs.Texts.{begin_line}
use Rattle.oi_settings.proofs.text.begin.Goals as goal

neither : (bytes : List ℕ) → ((rest : List ℕ) → bytes ≡ begin_line First ++ rest → ⊥) → ((rest : List ℕ) → bytes ≡ begin_line Second ++ rest → ⊥)
    → (schema : Schema) (rest : List ℕ) → bytes ≡ begin_line schema ++ rest → ⊥
neither bytes first second First rest whole = first rest whole
neither bytes first second Second rest whole = second rest whole

pub returns-clause-none : goal.returns-clause-none
returns-clause-none c = neither c.args.bytes.now c.in_default.ensures c.in_default-strip.ensures
