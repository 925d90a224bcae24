-- Paths are texts: each of their bytes is ASCII.
use Rattle.std.proofs.Common.{◌≡◌, ℕ, zero, suc, ◌+◌, ◌%◌, ◌<◌, ◌^◌, inl, inr, Bool, true, List, [], ◌∷◌, ◌++◌, refl, sym, ap, ◌∙◌, subst, arith, codes}
use Rattle.std.specs.Prelude.{nat_lt}
use Rattle.std.specs.Fmt.{decimal}
use Rattle.std.specs.List.{list_all}
use Rattle.std.specs.Str.{IsAscii, IsUtf8}
use Rattle.std.proofs.lemmas.Bool.{and_from, and_parts, ltb-true}
use Rattle.std.proofs.lemmas.Bool.Decides.{nat_tests}
use Rattle.std.proofs.lemmas.Fmt.{decimal_by_steps}
use Rattle.std.proofs.lemmas.List.Folds.{list_all-append}
use Rattle.std.proofs.lemmas.Str.{IsUtf8-from_ascii}
use Rattle.oi_base.specs.Decimal.{IsNumber}
use Rattle.oi_names.specs.Names.{IsName, eui, iqn, is_iface_byte, is_name_byte, naa}
use Rattle.oi_names.specs.Portals.{IsAddress, IsDotted, is_inner}
use Rattle.oi_settings.specs.Keys.{IsKey, Key, path_text}
use Rattle.oi_settings.proofs.FreshPairs.{whole}
use Rattle.oi_settings.proofs.PairLists.{all_more}

is_low : ℕ → Bool
is_low c = nat_lt c 128

abbrev AreLow : List ℕ → Type 0
AreLow text = list_all is_low text ≡ true

low_append : (xs ys : List ℕ) → AreLow xs → AreLow ys → AreLow (xs ++ ys)
low_append xs ys a b = list_all-append is_low xs ys ∙ and_from (list_all is_low xs) (list_all is_low ys) a b

low_byte : (c : ℕ) (text : List ℕ) → is_low c ≡ true → AreLow text → AreLow (c ∷ text)
low_byte c text a b = and_from (is_low c) (list_all is_low text) a b

name_is_low : (c : ℕ) → is_name_byte c ≡ true → is_low c ≡ true
unfolding is_low
name_is_low c is = grind (arith, nat_tests)

inner_is_low : (c : ℕ) → is_inner c ≡ true → is_low c ≡ true
unfolding is_low
inner_is_low c is = grind (arith, nat_tests)

iface_is_low : (c : ℕ) → is_iface_byte c ≡ true → is_low c ≡ true
unfolding is_low
iface_is_low c is = grind (arith, nat_tests)

digit_is_low : (n : ℕ) → n < 10 → AreLow ((48 + n) ∷ [])
unfolding is_low
digit_is_low n small = let e : nat_lt (48 + n) 128 ≡ true = grind (arith, nat_tests) in and_from (nat_lt (48 + n) 128) true e refl

low_number : (n : ℕ) → n < 2 ^ 64 → AreLow (decimal n)
low_number n small =
    decimal_by_steps (λ (m : ℕ) (ds : List ℕ). AreLow ds) digit_is_low (λ m ds big more. low_append ds ((48 + m % 10) ∷ []) more (digit_is_low (m % 10) (omega arith))) n small

low_octet : (text : List ℕ) → IsNumber 0 255 text → AreLow text
low_octet text (n, low, high, is) = subst (λ (t : List ℕ). AreLow t) (sym is) (low_number n (omega arith))

low_dotted : (dots : ℕ) (text : List ℕ) → IsDotted dots text → AreLow text
unfolding is_low
low_dotted zero text is = low_octet text is
low_dotted (suc dots) text (front, back, is, octet, more) =
    subst (λ (t : List ℕ). AreLow t) (sym is) (low_append front (46 ∷ back) (low_octet front octet) (low_byte 46 back refl (low_dotted dots back more)))

low_address : (text : List ℕ) → IsAddress text → AreLow text
unfolding is_low
low_address text (inl dotted) = low_dotted 3 text dotted
low_address text (inr (rest, is, (i, j, e, run, none))) =
    let whole : text ≡ 91 ∷ (i ++ 93 ∷ []) = is ∙ ap (λ (z : List ℕ). 91 ∷ z) (e ∙ ap (λ (z : List ℕ). i ++ 93 ∷ z) none) in
    subst (λ (t : List ℕ). AreLow t) (sym whole) (low_byte 91 (i ++ 93 ∷ []) refl (low_append i (93 ∷ []) (all_more is_inner is_low i inner_is_low run.2) refl))

low_led : (head text rest : List ℕ) → AreLow head → text ≡ head ++ rest → list_all is_name_byte rest ≡ true → AreLow text
low_led head text rest low is run = subst (λ (t : List ℕ). AreLow t) (sym is) (low_append head rest low (all_more is_name_byte is_low rest name_is_low run))

low_name : (text : List ℕ) → IsName text → AreLow text
unfolding is_low
low_name text (inl (rest, is, run)) = low_led iqn text rest refl is run.2
low_name text (inr (inl (rest, is, run))) = low_led eui text rest refl is run.2
low_name text (inr (inr (rest, is, run))) = low_led naa text rest refl is run.2

low_path : (key : Key) → IsKey key → AreLow (path_text key)
unfolding is_low
low_path key is =
    let p = whole key.portal is.place in
    let ends : List ℕ = decimal key.tag ++ 47 ∷ key.iface in
    let numbers : List ℕ = decimal key.portal.port ++ 44 ∷ ends in
    let place : List ℕ = key.portal.address ++ 44 ∷ numbers in
    let low_end : AreLow ends =
    low_append (decimal key.tag) (47 ∷ key.iface) (low_number key.tag (omega (arith, is.group))) (low_byte 47 key.iface refl (all_more is_iface_byte is_low key.iface iface_is_low is.interface.2)) in
    let low_numbers : AreLow numbers = low_append (decimal key.portal.port) (44 ∷ ends) (low_number key.portal.port (omega (arith, p.high))) (low_byte 44 ends refl low_end) in
    let low_place : AreLow place = low_append key.portal.address (44 ∷ numbers) (low_address key.portal.address p.word) (low_byte 44 numbers refl low_numbers) in
    low_append (codes "nodes/") (key.target ++ 47 ∷ place) refl (low_append key.target (47 ∷ place) (low_name key.target is.name) (low_byte 47 place refl low_place))

ascii : (text : List ℕ) → AreLow text → IsAscii text
unfolding is_low
ascii [] low i = omega arith
ascii (c ∷ text) low zero = ltb-true c 128 (and_parts (is_low c) (list_all is_low text) low).0
ascii (c ∷ text) low (suc i) = ascii text (and_parts (is_low c) (list_all is_low text) low).1 i

pub path_is_text : (key : Key) → IsKey key → IsUtf8 (path_text key)
path_is_text key is = IsUtf8-from_ascii (path_text key) (ascii (path_text key) (low_path key is))
