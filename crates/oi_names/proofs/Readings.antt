-- Each text of a portal has one reading, and what is written reads as it was given.
use Rattle.std.proofs.Common.{◌≡◌, ◌<◌, ◌≤◌, ◌+◌, ◌%◌, ◌∙◌, inl, inr, ℕ, suc, zero, Option, Some, None, List, [], ◌∷◌, ◌++◌, subst, sym, ap, refl, arith, true, leb}
use Rattle.std.specs.List.{list_all}
use Rattle.std.specs.Fmt.{decimal}
use Rattle.std.proofs.lemmas.Bool.Decides.{nat_tests}
use Rattle.std.proofs.lemmas.Fmt.{decimal_by_steps, decimal_injective}
use Rattle.std.proofs.lemmas.List.{length-map, map-append}
use Rattle.std.proofs.lemmas.List.Folds.{list_all-append}
use Rattle.oi_base.specs.Decimal.{IsNumber}
use Rattle.oi_names.specs.Portals.{HasPort, HasTag, IsAddress, IsBracketed, IsDotted, IsEndpoint, IsPortal, IsPortalOf, is_inner, lower_byte, lower_case, portal_text}
use Rattle.oi_names.proofs.Alphabets.{apart_address, apart_endpoint}
use Rattle.oi_names.proofs.Places.{cut}
use Rattle.oi_names.proofs.Runs.{and_both, and_first, and_second}

endpoint_word : (host front : List ℕ) (port : ℕ) → IsAddress host → HasPort host port front → IsEndpoint front
endpoint_word host front port address (inl has) = inl (subst IsAddress (sym has.0) address)
endpoint_word host front port address (inr has) = inr (host, decimal port, has.0, address, (port, has.1, has.2, refl))

portal_word : (front text : List ℕ) (tag : Option ℕ) → IsEndpoint front → HasTag front tag text → IsPortal text
portal_word front text None endpoint has = inl (subst IsEndpoint (sym has) endpoint)
portal_word front text (Some tag) endpoint has = inr (front, decimal tag, has.0, endpoint, (tag, omega arith, has.1, refl))

pub word : (text address : List ℕ) (port : ℕ) (tag : Option ℕ) → IsPortalOf address port tag text → IsPortal text
word text address port tag (host, lower, (is, (front, has, tagged))) = portal_word front text tag (endpoint_word host front port is has) tagged

endpoint_reading : (front : List ℕ) → IsEndpoint front → (host : List ℕ) × (port : ℕ) × IsAddress host × HasPort host port front
endpoint_reading front (inl address) = (front, 3260, address, inl (refl, refl))
endpoint_reading front (inr (host, back, e, address, (n, from, to, is))) = (host, n, address, inr (e ∙ ap (λ (z : List ℕ). host ++ 58 ∷ z) is, from, to))

pub reading : (text : List ℕ) → IsPortal text → (address : List ℕ) × (port : ℕ) × (tag : Option ℕ) × IsPortalOf address port tag text
reading text (inl endpoint) =
    let r = endpoint_reading text endpoint in
    (lower_case r.0, r.1, None, (r.0, refl, (r.2, (text, r.3, refl))))
reading text (inr (front, back, e, endpoint, (n, from, to, is))) =
    let r = endpoint_reading front endpoint in
    (lower_case r.0, r.1, Some n, (r.0, refl, (r.2, (front, r.3, (e ∙ ap (λ (z : List ℕ). front ++ 44 ∷ z) is, to)))))

-- one reading

one_number : (m n : ℕ) → m ≤ 65535 → n ≤ 65535 → decimal m ≡ decimal n → m ≡ n
one_number m n small few e = decimal_injective m n (omega arith) (omega arith) e

one_port : (a b front : List ℕ) (p q : ℕ) → IsAddress a → IsAddress b → HasPort a p front → HasPort b q front → (a ≡ b) × (p ≡ q)
one_port a b front p q x y (inl h) (inl k) = (sym h.0 ∙ k.0, h.1 ∙ sym k.1)
one_port a b front p q x y (inl h) (inr k) = absurd (apart_address b a (decimal q) y x (sym h.0 ∙ k.0))
one_port a b front p q x y (inr h) (inl k) = absurd (apart_address a b (decimal p) x y (sym k.0 ∙ h.0))
one_port a b front p q x y (inr h) (inr k) =
    let both = cut IsAddress 58 apart_address a b (decimal p) (decimal q) x y (sym h.0 ∙ k.0) in
    (both.0, one_number p q h.2 k.2 both.1)

one_tag : (f g text : List ℕ) (t u : Option ℕ) → IsEndpoint f → IsEndpoint g → HasTag f t text → HasTag g u text → (f ≡ g) × (t ≡ u)
one_tag f g text None None x y h k = (sym h ∙ k, refl)
one_tag f g text None (Some n) x y h k = absurd (apart_endpoint g f (decimal n) y x (sym h ∙ k.0))
one_tag f g text (Some m) None x y h k = absurd (apart_endpoint f g (decimal m) x y (sym k ∙ h.0))
one_tag f g text (Some m) (Some n) x y h k =
    let both = cut IsEndpoint 44 apart_endpoint f g (decimal m) (decimal n) x y (sym h.0 ∙ k.0) in
    (both.0, ap (λ (z : ℕ). Some z) (one_number m n h.1 k.1 both.1))

pub once : (text a b : List ℕ) (p q : ℕ) (t u : Option ℕ) → IsPortalOf a p t text → IsPortalOf b q u text → (a ≡ b) × (p ≡ q) × (t ≡ u)
once text a b p q t u (x, ax, (is, (f, has, tagged))) (y, by, (also, (g, got, marked))) =
    let fronts = one_tag f g text t u (endpoint_word x f p is has) (endpoint_word y g q also got) tagged marked in
    let ports = one_port x y f p q is also has (subst (λ (z : List ℕ). HasPort y q z) (sym fronts.0) got) in
    (ax ∙ (ap lower_case ports.0 ∙ sym by), ports.1, fronts.1)

-- what is written

pub written : (address : List ℕ) (port : ℕ) → IsAddress address → lower_case address ≡ address → 1 ≤ port → port ≤ 65535 → IsPortalOf address port None (portal_text address port)
written address port is lower from to = (address, sym lower, (is, (portal_text address port, inr (refl, from, to), refl)))

-- no letter
abbrev Plain : List ℕ → Type 0
Plain w = list_all (λ c. leb c 57) w ≡ true

plain_byte : (c : ℕ) → leb c 57 ≡ true → lower_byte c ≡ c
plain_byte c e = grind (arith, nat_tests)

plain_same : (w : List ℕ) → Plain w → lower_case w ≡ w
plain_same [] e = refl
plain_same (x ∷ xs) e =
    let heads : lower_byte x ≡ x = plain_byte x (and_first (leb x 57) (list_all (λ c. leb c 57) xs) e) in
    let tails : lower_case xs ≡ xs = plain_same xs (and_second (leb x 57) (list_all (λ c. leb c 57) xs) e) in
    cc

plain_append : (xs ys : List ℕ) → Plain xs → Plain ys → Plain (xs ++ ys)
plain_append xs ys x y = list_all-append (λ c. leb c 57) xs ys ∙ and_both _ _ x y

plain_digit : (n : ℕ) → n < 10 → Plain ((48 + n) ∷ [])
plain_digit n small = let e : leb (48 + n) 57 ≡ true = grind (arith, nat_tests) in and_both _ _ e refl

plain_number : (w : List ℕ) → IsNumber 0 255 w → Plain w
plain_number w (n, from, to, is) =
    subst Plain (sym is)
    (decimal_by_steps (λ (m : ℕ) (ds : List ℕ). Plain ds) plain_digit (λ m ds big more. plain_append ds ((48 + m % 10) ∷ []) more (plain_digit (m % 10) (omega arith))) n (omega arith))

plain_dotted : (dots : ℕ) (w : List ℕ) → IsDotted dots w → Plain w
plain_dotted zero w is = plain_number w is
plain_dotted (suc dots) w (front, back, e, octet, more) = subst Plain (sym e) (plain_append front (46 ∷ back) (plain_number front octet) (plain_dotted dots back more))

lower_twice_byte : (c : ℕ) → lower_byte (lower_byte c) ≡ lower_byte c
lower_twice_byte c = grind (arith, nat_tests)

lower_twice : (w : List ℕ) → lower_case (lower_case w) ≡ lower_case w
lower_twice [] = refl
lower_twice (x ∷ xs) = let heads = lower_twice_byte x in let tails = lower_twice xs in cc

lower_inner_byte : (c : ℕ) → is_inner c ≡ true → is_inner (lower_byte c) ≡ true
lower_inner_byte c e = grind (arith, nat_tests)

lower_inner : (w : List ℕ) → list_all is_inner w ≡ true → list_all is_inner (lower_case w) ≡ true
lower_inner [] e = refl
lower_inner (x ∷ xs) e = and_both _ _ (lower_inner_byte x (and_first _ _ e)) (lower_inner xs (and_second _ _ e))

lower_bracketed : (w : List ℕ) → IsBracketed w → IsBracketed (lower_case w)
lower_bracketed w (rest, is, (i, j, e, run, none)) =
    let long = length-map i lower_byte in (
      lower_case rest,
      ap lower_case is,
      (lower_case i, lower_case j, ap lower_case e ∙ map-append lower_byte i (93 ∷ j), (omega (arith, run.0, long), omega (arith, run.1, long), lower_inner i run.2), ap lower_case none),
    )

lower_address : (w : List ℕ) → IsAddress w → IsAddress (lower_case w)
lower_address w (inl dotted) = inl (subst (IsDotted 3) (sym (plain_same w (plain_dotted 3 w dotted))) dotted)
lower_address w (inr bracketed) = inr (lower_bracketed w bracketed)

port_range : (host front : List ℕ) (port : ℕ) → HasPort host port front → (1 ≤ port) × (port ≤ 65535)
port_range host front port (inl h) = (omega (arith, h.1), omega (arith, h.1))
port_range host front port (inr h) = (h.1, h.2)

pub again : (text address : List ℕ) (port : ℕ) (tag : Option ℕ) → IsPortalOf address port tag text → IsPortalOf address port None (portal_text address port)
again text address port tag (host, lower, (is, (front, has, tagged))) =
    let range = port_range host front port has in
    written address port (subst IsAddress (sym lower) (lower_address host is)) (ap lower_case lower ∙ (lower_twice host ∙ sym lower)) range.0 range.1
