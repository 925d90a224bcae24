-- The texts of portals, taken apart at the first comma.
use Rattle.std.proofs.Common.{◌≡◌, ◌<◌, ◌≤◌, ◌+◌, ◌∙◌, ◌⊎◌, inl, inr, ℕ, suc, Option, List, [], ◌∷◌, ◌++◌, length, take, drop, subst, sym, ap, refl, arith, length-append, append_assoc, Bool, true, false, not, ◌==◌, ◌&&◌, cond, get_or}
use Rattle.std.specs.List.{list_all, prefix_len}
use Rattle.std.proofs.lemmas.Bool.Decides.{nat_tests}
use Rattle.std.proofs.lemmas.List.{drop_at, drop_more, length-take-le, take-append-drop, take-take, take_all, take_at}
use Rattle.std.proofs.lemmas.List.Sums.{prefix_len_stops}
use Rattle.oi_base.specs.Decimal.{IsNumber}
use Rattle.oi_names.specs.Portals.{HasPort, HasTag, IsAddress, IsEndpoint, IsPortal, IsSpelled}
use Rattle.oi_names.proofs.Alphabets.{Lacks, lacks_endpoint}

-- how many bytes stand before the first comma
abbrev pub before_comma : List ℕ → ℕ
before_comma text = prefix_len (λ b. not (b == 44)) text

prefix_step : (t : Bool) (c : Bool) (n m : ℕ) → (t && c) ≡ true → (c ≡ true → m ≡ n) → cond t (1 + m) 0 ≡ suc n
prefix_step true c n m e h = let same : m ≡ n = h e in omega arith
prefix_step false c n m e h = absurd cc

prefix_all : (text : List ℕ) → Lacks 44 text → before_comma text ≡ length text
prefix_all [] e = refl
prefix_all (x ∷ xs) e = prefix_step (not (x == 44)) (list_all (λ b. not (b == 44)) xs) (length xs) (before_comma xs) e (prefix_all xs)

prefix_stop : (front back : List ℕ) → Lacks 44 front → before_comma (front ++ 44 ∷ back) ≡ length front
prefix_stop [] back e = refl
prefix_stop (x ∷ xs) back e = prefix_step (not (x == 44)) (list_all (λ b. not (b == 44)) xs) (length xs) (before_comma (xs ++ 44 ∷ back)) e (prefix_stop xs back)

comma : (b : ℕ) → not (b == 44) ≡ false → b ≡ 44
comma b e = go (b == 44) refl where
  go : (t : Bool) → (b == 44) ≡ t → b ≡ 44
  go true p = grind (arith, nat_tests)
  go false p = absurd (let q : not (b == 44) ≡ true = ap not p in cc)

pub comma_split : (text : List ℕ) (front : ℕ) → front ≡ before_comma text → front < length text → text ≡ take front text ++ 44 ∷ drop (front + 1) text
comma_split text front is inside =
    let stops : not (get_or text front 0 == 44) ≡ false = subst (λ (n : ℕ). not (get_or text n 0 == 44) ≡ false) (sym is) (prefix_len_stops (λ b. not (b == 44)) text 0 (omega arith)) in
    let more : drop front text ≡ 44 ∷ drop (front + 1) text = drop_more text front 0 inside ∙ ap (λ (b : ℕ). b ∷ drop (front + 1) text) (comma _ stops) in
    sym (take-append-drop front text) ∙ ap (λ (z : List ℕ). take front text ++ z) more

-- the part of a portal's text before the comma, and what stands behind it
pub record Halves (text : List ℕ) (front : ℕ) : Type 0 where
  pub endpoint : IsEndpoint (take front text)
  pub rest : (front ≡ length text) ⊎ IsNumber 0 65535 (drop (front + 1) text)

pub portal_halves : (text : List ℕ) (front : ℕ) → front ≡ before_comma text → IsPortal text → Halves text front
portal_halves text front is (inl endpoint) =
    let all : front ≡ length text = is ∙ prefix_all text (lacks_endpoint text endpoint) in
    record { endpoint = subst IsEndpoint (sym (take_all front text (omega arith))) endpoint; rest = inl all }
portal_halves text front is (inr (before, back, e, endpoint, tag)) =
    let at : length before ≡ front = sym (is ∙ (ap before_comma e ∙ prefix_stop before back (lacks_endpoint before endpoint))) in
    let first : take front text ≡ before = ap (λ (z : List ℕ). take front z) e ∙ take_at before (44 ∷ back) front at in
    let ends : length (before ++ 44 ∷ []) ≡ front + 1 = omega (arith, length-append before (44 ∷ [])) in
    let last : drop (front + 1) text ≡ back = ap (λ (z : List ℕ). drop (front + 1) z) (e ∙ sym (append_assoc before (44 ∷ []) back)) ∙ drop_at (before ++ 44 ∷ []) back (front + 1) ends in
    record { endpoint = subst IsEndpoint (sym first) endpoint; rest = inr (subst (λ (z : List ℕ). IsNumber 0 65535 z) (sym last) tag) }

pub no_tag : (text digits : List ℕ) (front : ℕ) → front ≡ before_comma text → (front ≡ length text → ⊥) → digits ≡ drop (front + 1) text → (IsNumber 0 65535 digits → ⊥) → IsPortal text → ⊥
no_tag text digits front is inside e none w = go (portal_halves text front is w).rest where
  go : (front ≡ length text) ⊎ IsNumber 0 65535 (drop (front + 1) text) → ⊥
  go (inl all) = inside all
  go (inr tag) = none (subst (λ (z : List ℕ). IsNumber 0 65535 z) (sym e) tag)

pub parts_spelled : (text half : List ℕ) (host front port : ℕ) (tag : Option ℕ) → front ≤ length text → half ≡ take front text → host ≤ length half → IsAddress (take host half) → HasPort (take host half) port half → HasTag (take front text) tag text
    → (host ≤ length text) × IsSpelled (take host text) port tag text
parts_spelled text half host front port tag within is inside address has tagged =
    let long : length half ≡ front = ap length is ∙ length-take-le front text within in
    let same : take host half ≡ take host text = ap (λ (z : List ℕ). take host z) is ∙ take-take host front text (omega (arith, long)) in
    let spelled : HasPort (take host text) port (take front text) = subst (λ (z : List ℕ). HasPort (take host text) port z) is (subst (λ (z : List ℕ). HasPort z port half) same has) in
    (omega (arith, long), (subst IsAddress same address, (take front text, spelled, tagged)))
