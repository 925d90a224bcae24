-- The lines of pairs with passwords masked.
use Rattle.std.proofs.Common.{◌≡◌, ℕ, ◌+◌, List, ◌++◌, Option, Some, take, slice_get, sym, ap, ◌∙◌}
use Rattle.std.specs.Option.{option_map}
use Rattle.std.proofs.lemmas.List.{take-map}
use Rattle.std.proofs.lemmas.Option.{slice_get-map}
use Rattle.oi_settings.specs.Pairs.{Pair}
use Rattle.oi_settings.specs.Texts.{line_text, lines_of}
use Rattle.oi_settings.proofs.LineLists.{written_on}
use Rattle.oi_admin.specs.Listings.{shown_pairs, shown_value}

abbrev shown : Pair → Pair
shown p = (p.0, shown_value p.0 p.1)

-- one line more
pub shown_on : (old before after : List ℕ) (ps : List Pair) (i : ℕ) (n v w : List ℕ) → before ≡ old ++ lines_of (shown_pairs (take i ps)) → after ≡ before ++ line_text n w → w ≡ shown_value n v
    → slice_get ps i ≡ Some (n, v) → after ≡ old ++ lines_of (shown_pairs (take (i + 1) ps))
shown_on old before after ps i n v w was put is at =
    written_on old before after (shown_pairs ps) i n w (was ∙ ap (λ (qs : List Pair). old ++ lines_of qs) (sym (take-map shown i ps))) put
    (slice_get-map shown ps i ∙ ap (λ (o : Option Pair). option_map shown o) at ∙ ap (λ (x : List ℕ). Some (n, x)) (sym is))
    ∙ ap (λ (qs : List Pair). old ++ lines_of qs) (take-map shown (i + 1) ps)
