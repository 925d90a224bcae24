-- Lists of lines: a text is one list of lines at most, and what tells its first bad line.
use Rattle.std.proofs.Common.{◌≡◌, ℕ, ◌+◌, false, List, [], ◌∷◌, ◌++◌, length, get_or, take, drop, Some, slice_get, refl, sym, ap, ◌∙◌, subst, arith, append_assoc}
use Rattle.std.specs.List.{prefix_len}
use Rattle.std.proofs.lemmas.List.{append-nil, take_more}
use Rattle.std.proofs.lemmas.Option.{get_or_from_slice_get, slice_get_within}
use Rattle.std.proofs.lemmas.List.Concat.{flat_map-append}
use Rattle.oi_names.proofs.Lists.{split_same}
use Rattle.oi_settings.specs.Pairs.{Pair, has_name, put}
use Rattle.oi_settings.specs.Schema.{Row}
use Rattle.oi_settings.specs.Texts.{AreLines, IsLine, IsNext, NoLine, NoLineText, end_line, is_value_byte, line_text, lines_of}
use Rattle.oi_settings.proofs.LineTexts.{behind_name, line_is, reads}
use Rattle.oi_settings.proofs.PairLists.{put-new}

-- one line begins a text at most
pub same_line : (name value more n v m : List ℕ) → IsLine name value → IsLine n v → line_text name value ++ more ≡ line_text n v ++ m → (name ≡ n) × (value ≡ v) × (more ≡ m)
same_line name value more n v m line other same =
    let a = reads (line_text name value ++ more) name value more line refl in
    let b = reads (line_text name value ++ more) n v m other same in
    let plain : name ++ behind_name value more ≡ n ++ behind_name v m = sym (line_is name value more) ∙ same ∙ line_is n v m in
    let names = split_same name n (behind_name value more) (behind_name v m) (sym a.name_length ∙ b.name_length) plain in
    let rests : value ++ 10 ∷ more ≡ v ++ 10 ∷ m = ap (drop 3) names.1 in
    let wide : length value ≡ length v = sym a.value_length ∙ ap (λ (t : List ℕ). prefix_len is_value_byte t) rests ∙ b.value_length in
    let values = split_same value v (10 ∷ more) (10 ∷ m) wide rests in
    (names.0, values.0, ap (drop 1) values.1)

-- the last line is no line of a pair
pub no_line_end : (rest : List ℕ) → NoLineText (end_line ++ rest)
no_line_end rest name value more line whole =
    let r = reads (end_line ++ rest) name value more line whole in
    let one : length name ≡ 1 = sym r.name_length in
    let there : drop 1 (end_line ++ rest) ≡ behind_name value more = ap (λ (n : ℕ). drop n (end_line ++ rest)) (sym one) ∙ r.rest in
    let letters : ◌≡◌ {A = ℕ} 69 61 = ap (λ (t : List ℕ). get_or t 1 0) there in
    absurd (omega (arith, letters))

pub no_line_nothing : NoLineText []
no_line_nothing name value more line whole = let r = reads [] name value more line whole in omega (arith, line.name_some, r.name_length)

-- each pair is a line
abbrev pub ArePlain : List Pair → Type 0
ArePlain [] = Unit {0}
ArePlain (p ∷ ps) = IsLine p.0 p.1 × ArePlain ps

pub plain : (rows : List Row) (ps : List Pair) → AreLines rows ps → ArePlain ps
plain rows [] lines = tt
plain rows (p ∷ ps) (first, fits, lines) = (first, plain rows ps lines)

-- of two lists of lines before rests the longer one begins with the other
pub data Over (ps qs : List Pair) (r s : List ℕ) : Type 0 where
  longer : (more : List Pair) → qs ≡ ps ++ more → r ≡ lines_of more ++ s → Over ps qs r s
  shorter : (more : List Pair) → ps ≡ qs ++ more → s ≡ lines_of more ++ r → Over ps qs r s

pair_is : (p q : Pair) → p.0 ≡ q.0 → p.1 ≡ q.1 → p ≡ q
pair_is p q names values = let made : List ℕ → List ℕ → Pair = λ n v. (n, v) in ap (λ (n : List ℕ). made n p.1) names ∙ ap (λ (v : List ℕ). made q.0 v) values

over_more : (p q : Pair) (ps qs : List Pair) (r s : List ℕ) → p ≡ q → Over ps qs r s → Over (p ∷ ps) (q ∷ qs) r s
over_more p q ps qs r s same (longer more is rest) = longer more (ap (λ (t : List Pair). q ∷ t) is ∙ ap (λ (x : Pair). x ∷ (ps ++ more)) (sym same)) rest
over_more p q ps qs r s same (shorter more is rest) = shorter more (ap (λ (t : List Pair). p ∷ t) is ∙ ap (λ (x : Pair). x ∷ (qs ++ more)) same) rest

pub over : (ps qs : List Pair) (r s : List ℕ) → ArePlain ps → ArePlain qs → lines_of ps ++ r ≡ lines_of qs ++ s → Over ps qs r s
over [] qs r s a b same = longer qs refl same
over (p ∷ ps) [] r s a b same = shorter (p ∷ ps) refl (sym same)
over (p ∷ ps) (q ∷ qs) r s (first, a) (other, b) same =
    let here : line_text p.0 p.1 ++ (lines_of ps ++ r) ≡ line_text q.0 q.1 ++ (lines_of qs ++ s) =
    sym (append_assoc (line_text p.0 p.1) (lines_of ps) r) ∙ same ∙ append_assoc (line_text q.0 q.1) (lines_of qs) s in
    let heads = same_line p.0 p.1 (lines_of ps ++ r) q.0 q.1 (lines_of qs ++ s) first other here in
    over_more p q ps qs r s (pair_is p q heads.0 heads.1) (over ps qs r s a b heads.2)

pub lines_of-push : (ps : List Pair) (n v : List ℕ) → lines_of (ps ++ (n, v) ∷ []) ≡ lines_of ps ++ line_text n v
lines_of-push ps n v = flat_map-append (λ (p : Pair). line_text p.0 p.1) ps ((n, v) ∷ []) ∙ ap (λ (t : List ℕ). lines_of ps ++ t) (append-nil (line_text n v))

-- one line more is read
pub read_on : (text rest more n v : List ℕ) (ps : List Pair) → text ≡ lines_of ps ++ rest → rest ≡ line_text n v ++ more → has_name n ps ≡ false → text ≡ lines_of (put n v ps) ++ more
read_on text rest more n v ps whole found new =
    whole ∙ ap (λ (t : List ℕ). lines_of ps ++ t) found ∙ sym (append_assoc (lines_of ps) (line_text n v) more)
    ∙ ap (λ (t : List ℕ). t ++ more) (sym (lines_of-push ps n v) ∙ ap lines_of (sym (put-new n v ps new)))

-- no line of the text stands behind the pairs
pub no_line_here : (rows : List Row) (before : List Pair) (rest : List ℕ) → NoLineText rest → NoLine rows before rest
no_line_here rows before rest none name value more next whole = none name value more next.line whole

-- the line that stands there is not a next one
pub no_other_line : (rows : List Row) (before : List Pair) (rest n v m : List ℕ) → IsLine n v → rest ≡ line_text n v ++ m → (IsNext rows before n v → ⊥) → NoLine rows before rest
no_other_line rows before rest n v m line found none name value more next whole =
    let same = same_line name value more n v m next.line line (sym whole ∙ found) in
    none (subst (λ (x : List ℕ). IsNext rows before x v) same.0 (subst (λ (x : List ℕ). IsNext rows before name x) same.1 next))

-- one line more is written
pub written_on : (old before after : List ℕ) (ps : List Pair) (i : ℕ) (n v : List ℕ) → before ≡ old ++ lines_of (take i ps) → after ≡ before ++ line_text n v → slice_get ps i ≡ Some (n, v)
    → after ≡ old ++ lines_of (take (i + 1) ps)
written_on old before after ps i n v so_far line found =
    let longer : take (i + 1) ps ≡ take i ps ++ (n, v) ∷ [] =
    take_more ps i (n, v) (slice_get_within ps i (n, v) found) ∙ ap (λ (p : Pair). take i ps ++ p ∷ []) (get_or_from_slice_get ps i (n, v) (n, v) found) in
    line ∙ ap (λ (t : List ℕ). t ++ line_text n v) so_far ∙ append_assoc old (lines_of (take i ps)) (line_text n v)
    ∙ ap (λ (t : List ℕ). old ++ t) (sym (ap lines_of longer ∙ lines_of-push (take i ps) n v))
