-- Values of a range have no line feed.
use Rattle.std.proofs.Common.{◌≡◌, ℕ, ◌^◌, inl, inr, Bool, true, false, ◌==◌, not, List, [], ◌∷◌, ◌++◌, refl, sym, ap, ◌∙◌, subst, arith, codes}
use Rattle.std.specs.List.{list_all}
use Rattle.std.proofs.lemmas.Bool.{and_from, and_parts, ltb-true}
use Rattle.std.proofs.lemmas.Bool.Decides.{nat_tests}
use Rattle.std.specs.Prelude.{nat_lt}
use Rattle.oi_names.specs.Names.{IsName, eui, iqn, is_iface_byte, is_name_byte, naa}
use Rattle.oi_names.specs.Portals.{IsAddress, is_inner}
use Rattle.oi_names.proofs.Alphabets.{Lacks, NoDigit, lacks_all, lacks_append, lacks_dotted, lacks_number}
use Rattle.oi_settings.specs.declared.schema.Part.{Part}
use Rattle.oi_settings.specs.declared.schema.Part.TheVariants.{Target, Tag, Address, Port, Interface}
use Rattle.oi_settings.specs.declared.schema.Range.{Range}
use Rattle.oi_settings.specs.declared.schema.Range.TheVariants.{OfKey, Number, NumberOrNever, YesNo, Startup, Method, Credential}
use Rattle.oi_settings.specs.Schema.{IsIn, IsPart, IsWord, is_credential_byte}
use Rattle.oi_settings.specs.Texts.{is_value_byte}

-- no digit, letter of a name, or inner byte of an address is this byte
pub record Foreign (c : ℕ) : Type 0 where
  pub digit : NoDigit c
  pub letter : is_name_byte c ≡ false
  pub inner : is_inner c ≡ false
  pub iface : is_iface_byte c ≡ false
  pub dot : (46 == c) ≡ false
  pub heads : Lacks c (iqn ++ (eui ++ (naa ++ 91 ∷ 93 ∷ [])))

lacks_front : (c : ℕ) (xs ys : List ℕ) → Lacks c (xs ++ ys) → Lacks c xs
lacks_front c [] ys lacks = refl
lacks_front c (x ∷ xs) ys lacks =
    let both = and_parts (not (x == c)) (list_all (λ b. not (b == c)) (xs ++ ys)) lacks in
    and_from (not (x == c)) (list_all (λ b. not (b == c)) xs) both.0 (lacks_front c xs ys both.1)

lacks_back : (c : ℕ) (xs ys : List ℕ) → Lacks c (xs ++ ys) → Lacks c ys
lacks_back c [] ys lacks = lacks
lacks_back c (x ∷ xs) ys lacks = lacks_back c xs ys (and_parts (not (x == c)) (list_all (λ b. not (b == c)) (xs ++ ys)) lacks).1

module _ (c : ℕ) (foreign : Foreign c) where
  led : (head text rest : List ℕ) → Lacks c head → text ≡ head ++ rest → list_all is_name_byte rest ≡ true → Lacks c text
  led head text rest first is run = subst (λ (t : List ℕ). Lacks c t) (sym is) (lacks_append c head rest first (lacks_all is_name_byte c foreign.letter rest run))

  pub lacks_name : (text : List ℕ) → IsName text → Lacks c text
  lacks_name text (inl (rest, is, run)) = led iqn text rest (lacks_front c iqn (eui ++ (naa ++ 91 ∷ 93 ∷ [])) foreign.heads) is run.2
  lacks_name text (inr (inl (rest, is, run))) =
      led eui text rest (lacks_front c eui (naa ++ 91 ∷ 93 ∷ []) (lacks_back c iqn (eui ++ (naa ++ 91 ∷ 93 ∷ [])) foreign.heads)) is run.2
  lacks_name text (inr (inr (rest, is, run))) =
      led naa text rest (lacks_front c naa (91 ∷ 93 ∷ []) (lacks_back c eui (naa ++ 91 ∷ 93 ∷ []) (lacks_back c iqn (eui ++ (naa ++ 91 ∷ 93 ∷ [])) foreign.heads))) is run.2

  brackets : Lacks c (91 ∷ 93 ∷ [])
  brackets = lacks_back c naa (91 ∷ 93 ∷ []) (lacks_back c eui (naa ++ 91 ∷ 93 ∷ []) (lacks_back c iqn (eui ++ (naa ++ 91 ∷ 93 ∷ [])) foreign.heads))

  pub lacks_address : (text : List ℕ) → IsAddress text → Lacks c text
  lacks_address text (inl dotted) = lacks_dotted c foreign.digit foreign.dot 3 text dotted
  lacks_address text (inr (rest, is, (i, j, e, run, none))) =
      let whole : text ≡ (91 ∷ []) ++ (i ++ 93 ∷ []) = is ∙ ap (λ (z : List ℕ). 91 ∷ z) (e ∙ ap (λ (z : List ℕ). i ++ 93 ∷ z) none) in
      subst (λ (z : List ℕ). Lacks c z) (sym whole)
      (lacks_append c (91 ∷ []) (i ++ 93 ∷ []) (lacks_front c (91 ∷ []) (93 ∷ []) brackets)
      (lacks_append c i (93 ∷ []) (lacks_all is_inner c foreign.inner i run.2) (lacks_back c (91 ∷ []) (93 ∷ []) brackets)))

  pub lacks_part : (part : Part) (text : List ℕ) → IsPart part text → Lacks c text
  lacks_part Target text is = lacks_name text is
  lacks_part Tag text is = lacks_number c foreign.digit 0 65535 (omega arith) text is
  lacks_part Address text is = lacks_address text is
  lacks_part Port text is = lacks_number c foreign.digit 1 65535 (omega arith) text is
  lacks_part Interface text is = lacks_all is_iface_byte c foreign.iface text is.2

no_digit_feed : NoDigit 10
no_digit_feed n small = grind (arith, nat_tests)

line_feed : Foreign 10
line_feed = record { digit = no_digit_feed; letter = refl; inner = refl; iface = refl; dot = refl; heads = refl }

-- the numbers of a range end below 2^64
abbrev pub is_small : Range → Bool
is_small (Number low high) = nat_lt high (2 ^ 64)
is_small (NumberOrNever high) = nat_lt high (2 ^ 64)
is_small _ = true

one_word : (first second value : List ℕ) → list_all is_value_byte first ≡ true → list_all is_value_byte second ≡ true → IsWord first second value → list_all is_value_byte value ≡ true
one_word first second value a b (inl is) = subst (λ (t : List ℕ). list_all is_value_byte t ≡ true) (sym is) a
one_word first second value a b (inr is) = subst (λ (t : List ℕ). list_all is_value_byte t ≡ true) (sym is) b

credential_value : (xs : List ℕ) → list_all is_credential_byte xs ≡ true → list_all is_value_byte xs ≡ true
credential_value [] all = refl
credential_value (x ∷ xs) all =
    let both = and_parts (is_credential_byte x) (list_all is_credential_byte xs) all in
    and_from (is_value_byte x) (list_all is_value_byte xs) (and_parts (not (x == 0)) (not (x == 10)) both.0).1 (credential_value xs both.1)

pub value_in : (range : Range) (value : List ℕ) → is_small range ≡ true → IsIn range value → list_all is_value_byte value ≡ true
value_in (OfKey part) value small is = lacks_part 10 line_feed part value is
value_in (Number low high) value small is = lacks_number 10 no_digit_feed low high (ltb-true high (2 ^ 64) small) value is
value_in (NumberOrNever high) value small (inl is) = subst (λ (t : List ℕ). list_all is_value_byte t ≡ true) (sym is) refl
value_in (NumberOrNever high) value small (inr is) = lacks_number 10 no_digit_feed 0 high (ltb-true high (2 ^ 64) small) value is
value_in YesNo value small is = one_word (codes "Yes") (codes "No") value refl refl is
value_in Startup value small is = one_word (codes "manual") (codes "automatic") value refl refl is
value_in Method value small is = one_word (codes "None") (codes "CHAP") value refl refl is
value_in Credential value small is = credential_value value is.1
