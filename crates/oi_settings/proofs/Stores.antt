-- Where the reader of a text stands: the faults that it tells.
use Rattle.std.proofs.Common.{◌≡◌, ℕ, ◌+◌, ◌<◌, List, [], ◌++◌, length, refl, sym, ap, ◌∙◌, arith}
use Rattle.std.proofs.lemmas.List.{append-nil}
use Rattle.oi_base.specs.Counts.{told}
use Rattle.oi_settings.specs.Pairs.{AreOnce, Pair}
use Rattle.oi_settings.specs.declared.schema.Schema.{Schema}
use Rattle.oi_settings.specs.declared.text.RecordFault.TheVariants.{Bad}
use Rattle.oi_settings.specs.Texts.{AreLines, ArePairs, IsComplete, IsFaultBehind, NoEnd, NoLine, bad_line, bad_rest, begin_line, end_line, lines_of, rows_of}
use Rattle.oi_settings.proofs.LineLists.{no_line_end, no_line_here}

module _ (schema : Schema) (text rest : List ℕ) (before : List Pair) (line : ℕ) (whole : text ≡ lines_of before ++ rest) (lines : AreLines (rows_of schema) before)
    (once : AreOnce before) (number : line ≡ told (length before + 2)) where
  -- neither a good line nor a last one stands there
  pub fault_here : NoLine (rows_of schema) before rest → NoEnd (rows_of schema) before rest → IsFaultBehind schema text (Bad line)
  fault_here none unended bytes all =
      (length before + 2, number, bad_line schema before rest refl (all ∙ ap (λ (t : List ℕ). begin_line schema ++ t) whole) lines once none unended)

  -- the last line stands there, and a setting is missing
  pub fault_missing : (more : List ℕ) → rest ≡ end_line ++ more → (IsComplete (rows_of schema) before → ⊥) → IsFaultBehind schema text (Bad line)
  fault_missing more found missing =
      fault_here (no_line_here (rows_of schema) before rest (λ n v m l e. no_line_end more n v m l (sym found ∙ e))) (λ complete m e. missing complete)

  -- something stands behind the last line
  pub fault_behind : (more : List ℕ) (next : ℕ) → rest ≡ end_line ++ more → IsComplete (rows_of schema) before → 0 < length more → next ≡ told (line + 1) → IsFaultBehind schema text (Bad next)
  fault_behind more next found complete some next_is bytes all = (
    length before + 3,
    omega (arith, number, next_is),
    bad_rest schema before more refl (all ∙ ap (λ (t : List ℕ). begin_line schema ++ t) (whole ∙ ap (λ (t : List ℕ). lines_of before ++ t) found))
        (record { lines = lines; once = once; complete = complete }) some,
  )

  -- the text ends with the last line
  pub all_read : (more : List ℕ) → rest ≡ end_line ++ more → more ≡ [] → IsComplete (rows_of schema) before → (text ≡ lines_of before ++ end_line) × ArePairs (rows_of schema) before
  all_read more found none complete = (
    whole ∙ ap (λ (t : List ℕ). lines_of before ++ t) (found ∙ ap (λ (t : List ℕ). end_line ++ t) none ∙ append-nil end_line),
    record { lines = lines; once = once; complete = complete },
  )
