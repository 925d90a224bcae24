-- Keys are told apart by their order and by their paths.
use Rattle.std.proofs.Common.{◌≡◌, ℕ, true, ◌==◌, List, ◌∷◌, ◌++◌, drop, refl, sym, ap, ◌∙◌, arith, is_eq}
use Rattle.std.specs.declared.cmp.Ordering.{Ordering}
use Rattle.std.specs.declared.cmp.Ordering.TheVariants.{Less, Equal, Greater}
use Rattle.std.specs.Fmt.{decimal}
use Rattle.std.specs.Ordering.{nat_cmp, ordering_then}
use Rattle.std.specs.Cmp.{unsigned_tied}
use Rattle.std.specs.Cmp.Lexicographic.{slice_cmp}
use Rattle.std.proofs.lemmas.Bool.{true≢false}
use Rattle.std.proofs.lemmas.Bool.Decides.{nat_tests}
use Rattle.std.proofs.lemmas.Fmt.{decimal_injective}
use Rattle.std.proofs.lemmas.Map.Text.{is_eq-slice_cmp}
use Rattle.oi_names.proofs.Alphabets.{Lacks, NoDigit, apart_lacks, lacks_decimal}
use Rattle.oi_names.proofs.Places.{cut}
use Rattle.oi_settings.specs.Keys.{IsKey, Key, key_cmp, path_text}
use Rattle.oi_settings.proofs.FreshPairs.{whole}
use Rattle.oi_settings.proofs.PairLists.{same_name}
use Rattle.oi_settings.proofs.Stops.{key_is}
use Rattle.oi_settings.proofs.Values.{Foreign, lacks_address, lacks_name}

both_equal : (r s : Ordering) → ordering_then r s ≡ Equal → (r ≡ Equal) × (s ≡ Equal)
both_equal Less s e = absurd (true≢false (sym (ap is_eq e)))
both_equal Equal s e = (refl, e)
both_equal Greater s e = absurd (true≢false (sym (ap is_eq e)))

same_bytes : (xs ys : List ℕ) → slice_cmp nat_cmp xs ys ≡ Equal → xs ≡ ys
same_bytes xs ys e = same_name xs ys (sym (is_eq-slice_cmp xs ys) ∙ ap is_eq e)

same_number : (x y : ℕ) → nat_cmp x y ≡ Equal → x ≡ y
same_number x y e = let tied : (x == y) ≡ true = sym (unsigned_tied x y) ∙ ap is_eq e in grind (arith, nat_tests)

pub order_apart : (a b : Key) → key_cmp a b ≡ Equal → a ≡ b
order_apart a b e =
    let f = both_equal _ _ e in
    let g = both_equal _ _ f.1 in
    let h = both_equal _ _ g.1 in
    let i = both_equal _ _ h.1 in
    key_is a b (same_bytes a.target b.target f.0) (same_bytes a.portal.address b.portal.address g.0) (same_number a.portal.port b.portal.port h.0) (same_number a.tag b.tag i.0)
    (same_bytes a.iface b.iface i.1)

no_digit_slash : NoDigit 47
no_digit_slash n small = grind (arith, nat_tests)

slash : Foreign 47
slash = record { digit = no_digit_slash; letter = refl; inner = refl; iface = refl; dot = refl; heads = refl }

no_digit_comma : NoDigit 44
no_digit_comma n small = grind (arith, nat_tests)

comma : Foreign 44
comma = record { digit = no_digit_comma; letter = refl; inner = refl; iface = refl; dot = refl; heads = refl }

-- one byte parts a text in one way, where what stands before it lacks it
parted : (c : ℕ) (x y s t : List ℕ) → Lacks c x → Lacks c y → x ++ c ∷ s ≡ y ++ c ∷ t → (x ≡ y) × (s ≡ t)
parted c x y s t a b same = cut (Lacks c) c (apart_lacks (Lacks c) c (λ w lacks. lacks)) x y s t a b same

pub one_path : (a b : Key) → IsKey a → IsKey b → path_text a ≡ path_text b → a ≡ b
one_path a b valid other same =
    let p = whole a.portal valid.place in
    let q = whole b.portal other.place in
    let targets = parted 47 a.target b.target _ _ (lacks_name 47 slash a.target valid.name) (lacks_name 47 slash b.target other.name) (ap (drop 6) same) in
    let addresses = parted 44 a.portal.address b.portal.address _ _ (lacks_address 44 comma a.portal.address p.word) (lacks_address 44 comma b.portal.address q.word) targets.1 in
    let ports =
    parted 44 (decimal a.portal.port) (decimal b.portal.port) _ _ (lacks_decimal 44 a.portal.port no_digit_comma (omega (arith, p.high)))
    (lacks_decimal 44 b.portal.port no_digit_comma (omega (arith, q.high))) addresses.1 in
    let tags =
    parted 47 (decimal a.tag) (decimal b.tag) _ _ (lacks_decimal 47 a.tag no_digit_slash (omega (arith, valid.group))) (lacks_decimal 47 b.tag no_digit_slash (omega (arith, other.group))) ports.1 in
    key_is a b targets.0 addresses.0 (decimal_injective a.portal.port b.portal.port (omega (arith, p.high)) (omega (arith, q.high)) ports.0)
    (decimal_injective a.tag b.tag (omega (arith, valid.group)) (omega (arith, other.group)) tags.0) tags.1
