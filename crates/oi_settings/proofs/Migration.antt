-- The newest setting in the pairs of a text of the first schema.
use Rattle.std.proofs.Common.{◌≡◌, ℕ, Bool, true, false, true≢false, cond, ◌&&◌, Option, Some, None, is_some, unwrap_or, List, [], ◌∷◌, ◌++◌, refl, sym, ap, ◌∙◌, subst, arith, codes, bytes_eq}
use Rattle.std.specs.Prelude.{IfSome, if◌then◌else◌}
use Rattle.std.specs.Option.{option_or}
use Rattle.std.specs.List.{list_all}
use Rattle.std.proofs.lemmas.Bool.{and_from}
use Rattle.std.proofs.lemmas.List.Folds.{find-append, list_all-append}
use Rattle.oi_settings.specs.declared.schema.Range.TheVariants.{YesNo}
use Rattle.oi_settings.specs.declared.schema.Schema.{Schema}
use Rattle.oi_settings.specs.declared.schema.Schema.TheVariants.{First, Second}
use Rattle.oi_settings.specs.Pairs.{AreOnce, Pair, has_name, put, value_of}
use Rattle.oi_settings.specs.Schema.{IsIn, Row, Takes, newest, row_named, table}
use Rattle.oi_settings.specs.Texts.{AreLines, ArePairs, IsComplete, IsLine, is_choice, rows_of, stored_by}
use Rattle.oi_settings.proofs.PairLists.{AreLines-put, AreOnce-put, IsComplete-put, has_put, same_name}
use Rattle.oi_settings.proofs.Tables.{word_from}

whole_table : table ≡ rows_of First ++ newest ∷ []
whole_table = refl

chosen : (value : List ℕ) → is_choice (Some value) ≡ true → IsIn YesNo value
chosen value is = word_from (codes "Yes") (codes "No") value is

by_old : (name value : List ℕ) (o : Option Row) (b : Bool) → row_named name (rows_of First) ≡ o → bytes_eq newest.name name ≡ b → IfSome o (λ r. IsIn r.range value) → (b ≡ true → IsIn YesNo value)
    → IfSome (option_or o (cond b (Some newest) None)) (λ r. IsIn r.range value)
by_old name value (Some r) b e f old choice = old
by_old name value None true e f old choice = choice refl
by_old name value None false e f old choice = tt

-- what the first schema takes the second one does, but for the newest setting
pub takes_more : (name value : List ℕ) → Takes (rows_of First) name value → (bytes_eq newest.name name ≡ true → IsIn YesNo value) → Takes table name value
takes_more name value old choice =
    subst (λ (o : Option Row). IfSome o (λ r. IsIn r.range value))
    (sym (ap (row_named name) whole_table ∙ find-append (λ (r : Row). bytes_eq r.name name) (rows_of First) (newest ∷ [])))
    (by_old name value (row_named name (rows_of First)) (bytes_eq newest.name name) refl refl old choice)

same_value : (v w : List ℕ) → ◌≡◌ {A = Option (List ℕ)} (Some v) (Some w) → v ≡ w
same_value v w e = ap (λ (o : Option (List ℕ)). unwrap_or o []) e

pub lines_more : (ps : List Pair) → AreLines (rows_of First) ps → AreOnce ps → ((v : List ℕ) → value_of newest.name ps ≡ Some v → IsIn YesNo v) → AreLines table ps
lines_more [] lines once choice = tt
lines_more (p ∷ ps) (line, taken, lines) (alone, once) choice = go (bytes_eq newest.name p.0) refl choice (lines_more ps lines once)
  where
    go : (b : Bool) → bytes_eq newest.name p.0 ≡ b → ((v : List ℕ) → cond b (Some p.1) (value_of newest.name ps) ≡ Some v → IsIn YesNo v)
        → (((v : List ℕ) → value_of newest.name ps ≡ Some v → IsIn YesNo v) → AreLines table ps) → IsLine p.0 p.1 × Takes table p.0 p.1 × AreLines table ps
    go true e choose rest = (
      line,
      takes_more p.0 p.1 taken (λ here. choose p.1 refl),
      rest (λ v found. absurd (true≢false (sym (ap is_some found) ∙ ap (λ (n : List ℕ). has_name n ps) (same_name newest.name p.0 e) ∙ alone))),
    )
    go false e choose rest = (line, takes_more p.0 p.1 taken (λ here. absurd (true≢false (sym here ∙ e))), rest choose)

complete_more : (ps : List Pair) → IsComplete (rows_of First) ps → has_name newest.name ps ≡ true → IsComplete table ps
complete_more ps old there =
    ap (list_all (λ (r : Row). has_name r.name ps)) whole_table ∙ list_all-append (λ (r : Row). has_name r.name ps) (rows_of First) (newest ∷ [])
    ∙ and_from (list_all (λ (r : Row). has_name r.name ps) (rows_of First)) (has_name newest.name ps && true) old (and_from (has_name newest.name ps) true there refl)

-- the newest setting has a value in its range
module _ (ps : List Pair) (are : ArePairs (rows_of First) ps) where
  kept : (o : Option (List ℕ)) → value_of newest.name ps ≡ o → is_choice o ≡ true → ArePairs table ps
  kept None found is = absurd (true≢false (sym is))
  kept (Some v) found is = record {
    lines = lines_more ps are.lines are.once (λ w other. chosen w (ap is_choice (sym other ∙ found) ∙ is));
    once = are.once;
    complete = complete_more ps are.complete (ap is_some found);
  }

  newest_line : IsLine newest.name newest.initial
  newest_line = record { name_some = omega arith; name_fits = omega arith; name_bytes = refl; value_bytes = refl }

  -- it has none, and gets one
  given : ArePairs table (put newest.name newest.initial ps)
  given =
      let there : value_of newest.name (put newest.name newest.initial ps) ≡ Some newest.initial = has_put newest.name newest.initial ps in
      record {
        lines =
            lines_more (put newest.name newest.initial ps) (AreLines-put (rows_of First) newest.name newest.initial ps are.lines newest_line tt) (AreOnce-put newest.name newest.initial ps are.once)
            (λ w other. chosen w (ap is_choice (sym other ∙ there)));
        once = AreOnce-put newest.name newest.initial ps are.once;
        complete = complete_more (put newest.name newest.initial ps) (IsComplete-put (rows_of First) newest.name newest.initial ps are.complete) (ap is_some there);
      }

  either : (b : Bool) → is_choice (value_of newest.name ps) ≡ b → ArePairs table (if b then ps else put newest.name newest.initial ps)
  either true e = kept (value_of newest.name ps) refl e
  either false e = given

-- the pairs of the record are those of the second schema
pub stored_pairs : (schema : Schema) (ps : List Pair) → ArePairs (rows_of schema) ps → ArePairs table (stored_by schema ps)
stored_pairs First ps are = either ps are (is_choice (value_of newest.name ps)) refl
stored_pairs Second ps are = are
