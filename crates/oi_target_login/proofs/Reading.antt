-- The pairs of a text are those of the relation.
use Rattle.std.proofs.Common.{ℕ, zero, suc, Bool, true, false, not, ◌≡◌, ◌∙◌, ◌&&◌, Option, Some, None, List, [], ◌∷◌, ◌++◌, length, refl, ap, sym, subst, arith, append_assoc, append-nil, if◌then◌else◌, ◌==◌}
use Rattle.std.proofs.lemmas.Bool.{eqb-true}
use Rattle.std.proofs.lemmas.Bool.Decides.{nat_tests}
use Rattle.std.proofs.lemmas.List.Folds.{list_all-append}
use Rattle.std.specs.List.{list_all}
use Rattle.std.specs.Prelude.{nat_lt, nat_le}
use Rattle.oi_text.proofs.Pieces.{no_pair-none, same_lists}
use Rattle.oi_text.specs.Pairs.{ArePairs, IsFault, IsMalformedAt, IsPair, IsText, is_key_byte, is_value_byte, spelled, text_of}
use Rattle.oi_text.specs.declared.pairs.Pair.{Pair}
use Rattle.oi_text.specs.declared.pairs.TextFault.TheVariants.{Malformed}
use Rattle.oi_target_login.specs.Texts.{in_front, is_pair, pair_from, pair_if, pairs_from, text_pairs}

both : (b l : Bool) → (b && l) ≡ true → (b ≡ true) × (l ≡ true)
both true l e = (refl, e)
both false l e = cc

not_true : (b : Bool) → not b ≡ true → b ≡ false
not_true false e = refl
not_true true e = cc

-- bytes other than zero are no end of a piece
scan : (piece xs rest : List ℕ) → list_all is_value_byte xs ≡ true → pairs_from piece (xs ++ rest) ≡ pairs_from (piece ++ xs) rest
scan piece [] rest all = ap (λ (z : List ℕ). pairs_from z rest) (sym (append-nil piece))
scan piece (x ∷ xs) rest all =
    let parts = both (not (x == 0)) (list_all is_value_byte xs) all in
    ap (λ (b : Bool). if b then in_front (pair_from [] piece) (pairs_from [] (xs ++ rest)) else pairs_from (piece ++ x ∷ []) (xs ++ rest)) (not_true (x == 0) parts.0)
    ∙ scan (piece ++ x ∷ []) xs rest parts.1 ∙ ap (λ (z : List ℕ). pairs_from z rest) (append_assoc piece (x ∷ []) xs)

-- a key has no `=` and no zero
no_equals : (b : ℕ) → is_key_byte b ≡ true → (b == 61) ≡ false
no_equals b e = go (b == 61) refl where
  go : (t : Bool) → (b == 61) ≡ t → (b == 61) ≡ false
  go false is = is
  go true is = let k : is_key_byte 61 ≡ true = subst (λ (z : ℕ). is_key_byte z ≡ true) (eqb-true b 61 is) e in cc

no_zero : (b : ℕ) → is_key_byte b ≡ true → is_value_byte b ≡ true
no_zero zero e = cc
no_zero (suc n) e = grind (arith, nat_tests)

key_values : (xs : List ℕ) → list_all is_key_byte xs ≡ true → list_all is_value_byte xs ≡ true
key_values [] all = refl
key_values (x ∷ xs) all =
    let parts = both (is_key_byte x) (list_all is_key_byte xs) all in
    ap (λ (b : Bool). b && list_all is_value_byte xs) (no_zero x parts.0) ∙ key_values xs parts.1

scan_key : (key xs rest : List ℕ) → list_all is_key_byte xs ≡ true → pair_from key (xs ++ rest) ≡ pair_from (key ++ xs) rest
scan_key key [] rest all = ap (λ (z : List ℕ). pair_from z rest) (sym (append-nil key))
scan_key key (x ∷ xs) rest all =
    let parts = both (is_key_byte x) (list_all is_key_byte xs) all in
    ap (λ (b : Bool). if b then pair_if key (xs ++ rest) else pair_from (key ++ x ∷ []) (xs ++ rest)) (no_equals x parts.0)
    ∙ scan_key (key ++ x ∷ []) xs rest parts.1 ∙ ap (λ (z : List ℕ). pair_from z rest) (append_assoc key (x ∷ []) xs)

is_pair_true : (key value : List ℕ) → IsPair key value → is_pair key value ≡ true
is_pair_true key value p = grind (arith, nat_tests, p.key_some, p.key_fits, p.key_bytes, p.value_fits, p.value_bytes)

tests_say : (a b c d e : Bool) → (a && b && c && d && e) ≡ true → (a ≡ true) × ((b ≡ true) × ((c ≡ true) × ((d ≡ true) × (e ≡ true))))
tests_say true true true true true h = (refl, (refl, (refl, (refl, refl))))
tests_say true true true true false h = cc
tests_say true true true false e h = cc
tests_say true true false d e h = cc
tests_say true false c d e h = cc
tests_say false b c d e h = cc

is_pair_says : (key value : List ℕ) → is_pair key value ≡ true → IsPair key value
is_pair_says key value e =
    let parts = tests_say (nat_lt 0 (length key)) (nat_le (length key) 63) (list_all is_key_byte key) (nat_le (length value) 8192) (list_all is_value_byte value) e in
    record {
      key_some = grind (arith, nat_tests, parts.0);
      key_fits = grind (arith, nat_tests, parts.1.0);
      key_bytes = parts.1.1.0;
      value_fits = grind (arith, nat_tests, parts.1.1.1.0);
      value_bytes = parts.1.1.1.1;
    }

-- a pair at the front
front : (key value rest : List ℕ) → IsPair key value
    → pairs_from [] (spelled key value ++ rest) ≡ in_front (Some (record { key = key; value = value })) (pairs_from [] rest)
front key value rest p =
    ap (λ (z : List ℕ). pairs_from [] z) (append_assoc key (61 ∷ (value ++ 0 ∷ [])) rest
    ∙ ap (λ (z : List ℕ). key ++ 61 ∷ z) (append_assoc value (0 ∷ []) rest) ∙ sym (append_assoc key (61 ∷ value) (0 ∷ rest)))
    ∙ scan [] (key ++ 61 ∷ value) (0 ∷ rest) (list_all-append is_value_byte key (61 ∷ value) ∙ ap (λ (b : Bool). b && list_all is_value_byte value) (key_values key p.key_bytes) ∙ p.value_bytes)
    ∙ ap (λ (o : Option Pair). in_front o (pairs_from [] rest)) (scan_key [] key (61 ∷ value) p.key_bytes
    ∙ ap (λ (b : Bool). if b then Some (record { key = key; value = value }) else None) (is_pair_true key value p))

all_read : (ps : List Pair) → ArePairs ps → pairs_from [] (text_of ps) ≡ Some ps
all_read [] a = refl
all_read (p ∷ ps) a = front p.key p.value (text_of ps) a.0 ∙ ap (λ (o : Option (List Pair)). in_front (Some p) o) (all_read ps a.1)

pub read_is : (bytes : List ℕ) (ps : List Pair) → IsText bytes ps → text_pairs bytes ≡ Some ps
unfolding text_pairs
read_is bytes ps t = ap (λ (z : List ℕ). pairs_from [] z) t.whole ∙ all_read ps t.pairs

some_is : {A : Type 0} (x y : A) → Some x ≡ Some y → x ≡ y
some_is x y e = cc

-- what is read as a pair is one
pair_back : (key bs : List ℕ) (p : Pair) → pair_from key bs ≡ Some p → ((key ++ bs) ≡ (p.key ++ 61 ∷ p.value)) × IsPair p.key p.value
pair_back key [] p e = cc
pair_back key (b ∷ bs) p e = go (b == 61) refl e (λ h. pair_back (key ++ b ∷ []) bs p h) where
  made : (t : Bool) → is_pair key bs ≡ t → b ≡ 61 → (if t then Some (record { key = key; value = bs }) else None) ≡ Some p
      → ((key ++ b ∷ bs) ≡ (p.key ++ 61 ∷ p.value)) × IsPair p.key p.value
  made false is at h = cc
  made true is at h =
      let same : record { key = key; value = bs } ≡ p = some_is (record { key = key; value = bs }) p h in
      subst (λ (q : Pair). ((key ++ b ∷ bs) ≡ (q.key ++ 61 ∷ q.value)) × IsPair q.key q.value) same
      (ap (λ (z : ℕ). key ++ z ∷ bs) at, is_pair_says key bs is)

  go : (t : Bool) → (b == 61) ≡ t → (if t then pair_if key bs else pair_from (key ++ b ∷ []) bs) ≡ Some p
      → (pair_from (key ++ b ∷ []) bs ≡ Some p → (((key ++ b ∷ []) ++ bs) ≡ (p.key ++ 61 ∷ p.value)) × IsPair p.key p.value)
      → ((key ++ b ∷ bs) ≡ (p.key ++ 61 ∷ p.value)) × IsPair p.key p.value
  go true is h more = made (is_pair key bs) refl (eqb-true b 61 is) h
  go false is h more = let back = more h in (sym (append_assoc key (b ∷ []) bs) ∙ back.0, back.1)

some_length : (x : ℕ) (xs : List ℕ) → (length (x ∷ xs) == 0) ≡ false
some_length x xs = grind (arith, nat_tests)

not_none : {C : Type 0} (ps : List Pair) → None ≡ Some ps → C
not_none ps e = absurd (let n : ⊥ = cc in n)

-- what is read as pairs are pairs
pieces_back : (piece bs : List ℕ) (ps : List Pair) → pairs_from piece bs ≡ Some ps → ((piece ++ bs) ≡ text_of ps) × ArePairs ps
pieces_back [] [] ps e = subst (λ (qs : List Pair). ([] ≡ text_of qs) × ArePairs qs) (some_is [] ps e) (refl, tt)
pieces_back (x ∷ xs) [] ps e = not_none ps (ap (λ (b : Bool). if b then Some [] else None) (sym (some_length x xs)) ∙ e)
pieces_back piece (b ∷ bs) ps e = go (b == 0) refl e (λ qs h. pieces_back [] bs qs h) (λ h. pieces_back (piece ++ b ∷ []) bs ps h) where
  made : (o : Option Pair) (rest : Option (List Pair)) → pair_from [] piece ≡ o → pairs_from [] bs ≡ rest → b ≡ 0 → in_front o rest ≡ Some ps
      → ((qs : List Pair) → pairs_from [] bs ≡ Some qs → (bs ≡ text_of qs) × ArePairs qs)
      → ((piece ++ b ∷ bs) ≡ text_of ps) × ArePairs ps
  made None rest one more at h later = cc
  made (Some p) None one more at h later = cc
  made (Some p) (Some qs) one more at h later =
      let first = pair_back [] piece p one in
      let rest = later qs more in
      subst (λ (rs : List Pair). ((piece ++ b ∷ bs) ≡ text_of rs) × ArePairs rs) (some_is (p ∷ qs) ps h) (
        ap (λ (z : ℕ). piece ++ z ∷ bs) at ∙ ap (λ (z : List ℕ). z ++ 0 ∷ bs) first.0 ∙ ap (λ (z : List ℕ). (p.key ++ 61 ∷ p.value) ++ 0 ∷ z) rest.0
            ∙ append_assoc p.key (61 ∷ p.value) (0 ∷ text_of qs)
            ∙ sym (append_assoc p.key (61 ∷ (p.value ++ 0 ∷ [])) (text_of qs) ∙ ap (λ (z : List ℕ). p.key ++ 61 ∷ z) (append_assoc p.value (0 ∷ []) (text_of qs))),
        (first.1, rest.1),
      )

  go : (t : Bool) → (b == 0) ≡ t → (if t then in_front (pair_from [] piece) (pairs_from [] bs) else pairs_from (piece ++ b ∷ []) bs) ≡ Some ps
      → ((qs : List Pair) → pairs_from [] bs ≡ Some qs → (bs ≡ text_of qs) × ArePairs qs)
      → (pairs_from (piece ++ b ∷ []) bs ≡ Some ps → (((piece ++ b ∷ []) ++ bs) ≡ text_of ps) × ArePairs ps)
      → ((piece ++ b ∷ bs) ≡ text_of ps) × ArePairs ps
  go true is h later more = made (pair_from [] piece) (pairs_from [] bs) refl refl (eqb-true b 0 is) h later
  go false is h later more = let back = more h in (sym (append_assoc piece (b ∷ []) bs) ∙ back.0, back.1)

pub malformed_is : (bytes : List ℕ) (at : ℕ) → IsMalformedAt bytes at → text_pairs bytes ≡ None
unfolding text_pairs
malformed_is bytes at m = go (pairs_from [] bytes) refl where
  go : (o : Option (List Pair)) → pairs_from [] bytes ≡ o → o ≡ None
  go None is = refl
  go (Some ps) is =
      let back = pieces_back [] bytes ps is in
      let same = same_lists ps m.before [] m.rest back.1 m.pairs no_pair-none m.none (append-nil (text_of ps) ∙ sym back.0 ∙ m.whole) in
      absurd (omega (arith, ap length same.1, m.some))

pub fault_is : (bytes : List ℕ) (place : ℕ) → IsFault bytes (Malformed place) → text_pairs bytes ≡ None
fault_is bytes place f = malformed_is bytes f.0 f.2
