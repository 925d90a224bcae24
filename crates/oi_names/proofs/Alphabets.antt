-- Bytes that no word of a grammar has.
use Rattle.std.proofs.Common.{◌≡◌, ◌<◌, ◌+◌, ◌%◌, ◌^◌, ◌∙◌, inl, inr, ℕ, suc, zero, List, [], ◌∷◌, ◌++◌, length, subst, sym, ap, refl, arith, length-append, append_assoc, Bool, true, false, ◌==◌, not}
use Rattle.std.specs.List.{list_all}
use Rattle.std.specs.Fmt.{decimal}
use Rattle.std.proofs.lemmas.Bool.Decides.{nat_tests}
use Rattle.std.proofs.lemmas.Fmt.{decimal_by_steps, decimal_nonempty}
use Rattle.std.proofs.lemmas.List.Folds.{list_all-append}
use Rattle.oi_base.specs.Decimal.{IsNumber}
use Rattle.oi_names.specs.Grammars.{IsRun}
use Rattle.oi_names.specs.Portals.{IsAddress, IsBracketed, IsDotted, IsEndpoint, is_inner}
use Rattle.oi_names.proofs.Places.{Apart, cut}
use Rattle.oi_names.proofs.Runs.{and_both, and_first, and_second}

-- the byte is not in the text
abbrev pub Lacks : ℕ → List ℕ → Type 0
Lacks c text = list_all (λ b. not (b == c)) text ≡ true

other_byte : (p : ℕ → Bool) (c x : ℕ) → p c ≡ false → p x ≡ true → (x == c) ≡ false
other_byte p c x out inside = go (x == c) refl where
  go : (b : Bool) → (x == c) ≡ b → b ≡ false
  go true e = let same : x ≡ c = grind (arith, nat_tests) in let both : p x ≡ p c = ap p same in absurd cc
  go false e = refl

pub lacks_all : (p : ℕ → Bool) (c : ℕ) → p c ≡ false → (xs : List ℕ) → list_all p xs ≡ true → Lacks c xs
lacks_all p c out [] e = refl
lacks_all p c out (x ∷ xs) e =
    and_both (not (x == c)) (list_all (λ b. not (b == c)) xs) (ap not (other_byte p c x out (and_first (p x) (list_all p xs) e))) (lacks_all p c out xs (and_second (p x) (list_all p xs) e))

pub lacks_append : (c : ℕ) (xs ys : List ℕ) → Lacks c xs → Lacks c ys → Lacks c (xs ++ ys)
lacks_append c xs ys x y = list_all-append (λ b. not (b == c)) xs ys ∙ and_both _ _ x y

self_test : (c : ℕ) → (not (c == c)) ≡ false
self_test c = ap not (let e : (c == c) ≡ true = grind (arith, nat_tests) in e)

pub lacks_not : (c : ℕ) (x d : List ℕ) → Lacks c (x ++ c ∷ d) → ⊥
lacks_not c [] d e = let out = self_test c in let inside : not (c == c) ≡ true = and_first (not (c == c)) (list_all (λ b. not (b == c)) d) e in cc
lacks_not c (z ∷ x) d e = lacks_not c x d (and_second (not (z == c)) (list_all (λ b. not (b == c)) (x ++ c ∷ d)) e)

pub apart_lacks : (A : List ℕ → Type 0) (c : ℕ) → ((w : List ℕ) → A w → Lacks c w) → Apart A c
apart_lacks A c lacks x y d ax ay e = lacks_not c x d (subst (λ (z : List ℕ). Lacks c z) e (lacks y ay))

-- the byte is no digit
abbrev pub NoDigit : ℕ → Type 0
NoDigit c = (n : ℕ) → n < 10 → ((48 + n) == c) ≡ false

lacks_digit : (c n : ℕ) → NoDigit c → n < 10 → Lacks c ((48 + n) ∷ [])
lacks_digit c n out small = and_both _ _ (ap not (out n small)) refl

pub lacks_decimal : (c n : ℕ) → NoDigit c → n < 2 ^ 64 → Lacks c (decimal n)
lacks_decimal c n out small =
    decimal_by_steps (λ (m : ℕ) (ds : List ℕ). Lacks c ds) (λ m few. lacks_digit c m out few) (λ m ds big more. lacks_append c ds ((48 + m % 10) ∷ []) more (lacks_digit c (m % 10) out (omega arith))) n small

pub lacks_number : (c : ℕ) → NoDigit c → (low high : ℕ) → high < 2 ^ 64 → (w : List ℕ) → IsNumber low high w → Lacks c w
lacks_number c out low high small w (n, from, to, is) = subst (λ (z : List ℕ). Lacks c z) (sym is) (lacks_decimal c n out (omega arith))

pub lacks_dotted : (c : ℕ) → NoDigit c → (46 == c) ≡ false → (dots : ℕ) (w : List ℕ) → IsDotted dots w → Lacks c w
lacks_dotted c out dot zero w is = lacks_number c out 0 255 (omega arith) w is
lacks_dotted c out dot (suc dots) w (front, back, e, octet, more) =
    subst (λ (z : List ℕ). Lacks c z) (sym e) (lacks_append c front (46 ∷ back) (lacks_number c out 0 255 (omega arith) front octet) (and_both (not (46 == c)) _ (ap not dot) (lacks_dotted c out dot dots back more)))

pub no_digit_dot : NoDigit 46
no_digit_dot n small = grind (arith, nat_tests)

pub no_digit_colon : NoDigit 58
no_digit_colon n small = grind (arith, nat_tests)

pub no_digit_comma : NoDigit 44
no_digit_comma n small = grind (arith, nat_tests)

no_digit_bracket : NoDigit 91
no_digit_bracket n small = grind (arith, nat_tests)

pub apart_octet : Apart (IsNumber 0 255) 46
apart_octet = apart_lacks (IsNumber 0 255) 46 (lacks_number 46 no_digit_dot 0 255 (omega arith))

pub apart_inner : Apart (IsRun is_inner 2 39) 93
apart_inner = apart_lacks (IsRun is_inner 2 39) 93 (λ w r. lacks_all is_inner 93 refl w r.2)

-- an address in brackets is no front of another, and one of numbers no front of one in brackets

dotted_not_empty : (dots : ℕ) (w : List ℕ) → IsDotted dots w → 0 < length w
dotted_not_empty zero w (n, from, to, is) = omega (arith, ap length is, decimal_nonempty n (omega arith))
dotted_not_empty (suc dots) w (front, back, e, octet, more) = omega (arith, ap length e, length-append front (46 ∷ back))

dotted_before_bracketed : (x y d : List ℕ) (c : ℕ) → IsDotted 3 x → IsBracketed y → y ≡ x ++ c ∷ d → ⊥
dotted_before_bracketed [] y d c dotted bracketed e = omega (arith, dotted_not_empty 3 [] dotted)
dotted_before_bracketed (z ∷ x) y d c dotted (rest, is, more) e =
    let first : z ≡ 91 = cc in
    lacks_not 91 [] x (subst (λ (a : ℕ). Lacks 91 (a ∷ x)) first (lacks_dotted 91 no_digit_bracket refl 3 (z ∷ x) dotted))

bracketed_before_bracketed : (x y d : List ℕ) (c : ℕ) → IsBracketed x → IsBracketed y → y ≡ x ++ c ∷ d → ⊥
bracketed_before_bracketed x y d c (a, ax, (i, j, ai, run, none)) (b, by, (k, l, bk, more, nothing)) e =
    let whole : 91 ∷ b ≡ 91 ∷ (a ++ c ∷ d) = sym by ∙ (e ∙ ap (λ (z : List ℕ). z ++ c ∷ d) ax) in
    let tails : b ≡ a ++ c ∷ d = cc in
    let joined : i ++ 93 ∷ (j ++ c ∷ d) ≡ k ++ 93 ∷ l = sym (append_assoc i (93 ∷ j) (c ∷ d)) ∙ (ap (λ (z : List ℕ). z ++ c ∷ d) (sym ai) ∙ (sym tails ∙ bk)) in
    let ends = (cut (IsRun is_inner 2 39) 93 apart_inner i k (j ++ c ∷ d) l run more joined).1 in
    omega (arith, ap length (ends ∙ nothing), length-append j (c ∷ d))

pub apart_address : Apart IsAddress 58
apart_address x y d ax (inl dotted) e = lacks_not 58 x d (subst (λ (z : List ℕ). Lacks 58 z) e (lacks_dotted 58 no_digit_colon refl 3 y dotted))
apart_address x y d (inl ax) (inr bracketed) e = dotted_before_bracketed x y d 58 ax bracketed e
apart_address x y d (inr ax) (inr bracketed) e = bracketed_before_bracketed x y d 58 ax bracketed e

lacks_bracketed : (w : List ℕ) → IsBracketed w → Lacks 44 w
lacks_bracketed w (rest, is, (i, j, e, run, none)) =
    let whole : w ≡ 91 ∷ (i ++ 93 ∷ []) = is ∙ ap (λ (z : List ℕ). 91 ∷ z) (e ∙ ap (λ (z : List ℕ). i ++ 93 ∷ z) none) in
    subst (λ (z : List ℕ). Lacks 44 z) (sym whole) (lacks_append 44 i (93 ∷ []) (lacks_all is_inner 44 refl i run.2) refl)

lacks_address : (w : List ℕ) → IsAddress w → Lacks 44 w
lacks_address w (inl dotted) = lacks_dotted 44 no_digit_comma refl 3 w dotted
lacks_address w (inr bracketed) = lacks_bracketed w bracketed

pub lacks_endpoint : (w : List ℕ) → IsEndpoint w → Lacks 44 w
lacks_endpoint w (inl address) = lacks_address w address
lacks_endpoint w (inr (front, back, e, address, port)) =
    subst (λ (z : List ℕ). Lacks 44 z) (sym e) (lacks_append 44 front (58 ∷ back) (lacks_address front address) (lacks_number 44 no_digit_comma 1 65535 (omega arith) back port))

pub apart_endpoint : Apart IsEndpoint 44
apart_endpoint = apart_lacks IsEndpoint 44 lacks_endpoint
