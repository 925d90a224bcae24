-- Where a text has a name and its value: what the lengths of its fronts say.
use Rattle.std.proofs.Common.{◌≡◌, ℕ, ◌+◌, ◌<◌, ◌≤◌, true, false, List, [], ◌∷◌, ◌++◌, length, take, drop, get_or, refl, sym, ap, ◌∙◌, subst, arith, append_assoc, length-append, codes}
use Rattle.std.specs.List.{list_all, prefix_len}
use Rattle.std.proofs.lemmas.Bool.Decides.{nat_tests}
use Rattle.std.proofs.lemmas.List.{drop_at, take-append-drop, drop_more, length-take}
use Rattle.std.proofs.lemmas.List.Sums.{prefix_len_stops}
use Rattle.oi_text.proofs.Pieces.{list_all-front, prefix_len-stop}
use Rattle.oi_settings.specs.Texts.{IsLine, NoLineText, is_name_byte, is_value_byte, line_text}

-- what follows a name
abbrev pub behind_name : List ℕ → List ℕ → List ℕ
behind_name value more = codes " = " ++ (value ++ 10 ∷ more)

pub line_is : (name value more : List ℕ) → line_text name value ++ more ≡ name ++ behind_name value more
line_is name value more =
    append_assoc name (codes " = " ++ (value ++ 10 ∷ [])) more
    ∙ ap (λ (t : List ℕ). name ++ (codes " = " ++ t)) (append_assoc value (10 ∷ []) more)

-- what the bytes are where a line begins them
pub record Reads (bytes name value more : List ℕ) : Type 0 where
  pub name_length : prefix_len is_name_byte bytes ≡ length name
  pub rest : drop (length name) bytes ≡ behind_name value more
  pub value_length : prefix_len is_value_byte (value ++ 10 ∷ more) ≡ length value
  pub value_within : length value < length (value ++ 10 ∷ more)

pub reads : (bytes name value more : List ℕ) → IsLine name value → bytes ≡ line_text name value ++ more → Reads bytes name value more
reads bytes name value more line whole =
    let plain : bytes ≡ name ++ behind_name value more = whole ∙ line_is name value more in
    record {
      name_length = ap (λ (t : List ℕ). prefix_len is_name_byte t) plain ∙ prefix_len-stop is_name_byte name 32 (61 ∷ 32 ∷ (value ++ 10 ∷ more)) line.name_bytes refl;
      rest = ap (λ (t : List ℕ). drop (length name) t) plain ∙ drop_at name (behind_name value more) (length name) refl;
      value_length = prefix_len-stop is_value_byte value 10 more line.value_bytes refl;
      value_within = omega (arith, length-append value (10 ∷ more));
    }

-- the rest behind the name is not what a line has there
pub no_line_there : (bytes rest : List ℕ) (k : ℕ) → k ≡ prefix_len is_name_byte bytes → rest ≡ drop k bytes → ((more : List ℕ) → rest ≡ codes " = " ++ more → ⊥) → NoLineText bytes
no_line_there bytes rest k k_is rest_is none name value more line whole =
    let r = reads bytes name value more line whole in
    none (value ++ 10 ∷ more) (rest_is ∙ ap (λ (n : ℕ). drop n bytes) (k_is ∙ r.name_length) ∙ r.rest)

-- and no line feed ends the value
pub no_line_feed : (bytes rest tail : List ℕ) (k v : ℕ) → k ≡ prefix_len is_name_byte bytes → rest ≡ drop k bytes → rest ≡ codes " = " ++ tail
    → v ≡ prefix_len is_value_byte tail → length tail ≤ v → NoLineText bytes
no_line_feed bytes rest tail k v k_is rest_is tail_is v_is short name value more line whole =
    let r = reads bytes name value more line whole in
    let spelled : codes " = " ++ tail ≡ behind_name value more = sym tail_is ∙ rest_is ∙ ap (λ (n : ℕ). drop n bytes) (k_is ∙ r.name_length) ∙ r.rest in
    let same : tail ≡ value ++ 10 ∷ more = ap (drop 3) spelled in
    let long : v ≡ length value = v_is ∙ ap (λ (t : List ℕ). prefix_len is_value_byte t) same ∙ r.value_length in
    omega (arith, ap length same, r.value_within, long)

line_feed_from_stop : (b : ℕ) → is_value_byte b ≡ false → b ≡ 10
line_feed_from_stop b stops = grind (arith, nat_tests)

-- a line begins the bytes, by the lengths of its fronts
pub found_line : (bytes rest tail : List ℕ) (k v : ℕ) → k ≡ prefix_len is_name_byte bytes → 0 < k → k ≤ 63 → k ≤ length bytes
    → rest ≡ drop k bytes → rest ≡ codes " = " ++ tail → v ≡ prefix_len is_value_byte tail → v < length tail
    → IsLine (take k bytes) (take v tail) × (bytes ≡ line_text (take k bytes) (take v tail) ++ drop (v + 1) tail)
found_line bytes rest tail k v k_is some k_fits k_within rest_is tail_is v_is v_within =
    let stops : is_value_byte (get_or tail v 0) ≡ false =
    subst (λ (n : ℕ). is_value_byte (get_or tail n 0) ≡ false) (sym v_is) (prefix_len_stops is_value_byte tail 0 (omega arith)) in
    let ended : tail ≡ take v tail ++ 10 ∷ drop (v + 1) tail =
    sym (take-append-drop v tail) ∙ ap (λ (t : List ℕ). take v tail ++ t) (drop_more tail v 0 v_within)
    ∙ ap (λ (y : ℕ). take v tail ++ y ∷ drop (v + 1) tail) (line_feed_from_stop (get_or tail v 0) stops) in
    let head : bytes ≡ take k bytes ++ (codes " = " ++ tail) =
    sym (take-append-drop k bytes) ∙ ap (λ (t : List ℕ). take k bytes ++ t) (sym rest_is ∙ tail_is) in (
      record {
        name_some = omega (arith, length-take k bytes);
        name_fits = omega (arith, length-take k bytes);
        name_bytes = subst (λ (n : ℕ). list_all is_name_byte (take n bytes) ≡ true) (sym k_is) (list_all-front is_name_byte bytes);
        value_bytes = subst (λ (n : ℕ). list_all is_value_byte (take n tail) ≡ true) (sym v_is) (list_all-front is_value_byte tail);
      },
      head ∙ ap (λ (t : List ℕ). take k bytes ++ (codes " = " ++ t)) ended ∙ sym (line_is (take k bytes) (take v tail) (drop (v + 1) tail)),
    )
