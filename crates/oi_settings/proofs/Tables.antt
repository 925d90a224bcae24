-- What holds of the rows of the table.
use Rattle.std.proofs.Common.{◌≡◌, ℕ, zero, suc, ◌+◌, ◌-◌, ◌*◌, ◌/◌, ◌%◌, ◌<◌, ◌≤◌, ◌^◌, inl, inr, Bool, true, false, true≢false, cond, ◌&&◌, ◌||◌, Option, Some, None, unwrap_or, List, [], ◌∷◌, ◌++◌, length, fold, refl, sym, ap, ◌∙◌, subst, arith, codes, bytes_eq}
use Rattle.std.specs.Prelude.{IfSome, nat_le, nat_lt}
use Rattle.std.specs.Fmt.{decimal}
use Rattle.std.specs.List.{find, list_all}
use Rattle.std.proofs.lemmas.Bool.{and_parts, leb-true, le-ltb, lt-ltb, ltb-true}
use Rattle.std.proofs.lemmas.Fmt.{AppendsLastDigit, decimal_from_appends, length-decimal-le}
use Rattle.oi_base.specs.Decimal.{IsNumber}
use Rattle.oi_settings.specs.declared.schema.Part.{Part}
use Rattle.oi_settings.specs.declared.schema.Part.TheVariants.{Target, Tag, Address, Port, Interface}
use Rattle.oi_settings.specs.declared.schema.Range.{Range}
use Rattle.oi_settings.specs.declared.schema.Range.TheVariants.{OfKey, Number, NumberOrNever, YesNo, Startup, Method, Credential}
use Rattle.oi_settings.specs.Pairs.{Pair, has_name}
use Rattle.oi_settings.specs.Schema.{IsIn, IsPart, IsWord, Row, Takes, is_of_key, is_open, is_open_row, is_credential_byte, row_named, table}
use Rattle.oi_settings.specs.Texts.{IsComplete, IsLine, is_name_byte, part_name}
use Rattle.oi_settings.proofs.PairLists.{same_name}
use Rattle.oi_settings.proofs.Values.{is_small, value_in}

-- the digits of a number, the last one behind those before it
pub shown : ℕ → ℕ → List ℕ
shown zero n = []
shown (suc k) n = cond (nat_lt n 10) ((48 + n) ∷ []) (shown k (n / 10) ++ (48 + n % 10) ∷ [])

shown_appends : AppendsLastDigit shown
unfolding shown
shown_appends = record {
  one = λ k n small. ap (λ (b : Bool). cond b ((48 + n) ∷ []) (shown k (n / 10) ++ (48 + n % 10) ∷ [])) (lt-ltb n 10 small);
  more = λ k n big. ap (λ (b : Bool). cond b ((48 + n) ∷ []) (shown k (n / 10) ++ (48 + n % 10) ∷ [])) (le-ltb n 10 big);
}

shown_is : (n : ℕ) → n < 2 ^ 64 → shown 20 n ≡ decimal n
shown_is n small = decimal_from_appends shown shown_appends 20 n small (length-decimal-le 20 n (omega arith) (omega arith) small)

pub number_of : List ℕ → ℕ
number_of text = fold (λ n c. 10 * n + (c - 48)) 0 text

-- whether the text is a number from low to high
pub is_number : ℕ → ℕ → List ℕ → Bool
is_number low high text = bytes_eq text (shown 20 (number_of text)) && (nat_le low (number_of text) && (nat_le (number_of text) high && nat_lt (number_of text) (2 ^ 64)))

number_from : (low high : ℕ) (text : List ℕ) → is_number low high text ≡ true → IsNumber low high text
unfolding is_number
number_from low high text is =
    let a = and_parts (bytes_eq text (shown 20 (number_of text))) (nat_le low (number_of text) && (nat_le (number_of text) high && nat_lt (number_of text) (2 ^ 64))) is in
    let b = and_parts (nat_le low (number_of text)) (nat_le (number_of text) high && nat_lt (number_of text) (2 ^ 64)) a.1 in
    let d = and_parts (nat_le (number_of text) high) (nat_lt (number_of text) (2 ^ 64)) b.1 in (
      number_of text,
      leb-true low (number_of text) b.0,
      leb-true (number_of text) high d.0,
      same_name text (shown 20 (number_of text)) a.0 ∙ shown_is (number_of text) (ltb-true (number_of text) (2 ^ 64) d.1),
    )

pub is_word : List ℕ → List ℕ → List ℕ → Bool
is_word first second text = bytes_eq text first || bytes_eq text second

word_by : (first second text : List ℕ) (a b : Bool) → bytes_eq text first ≡ a → bytes_eq text second ≡ b → (a || b) ≡ true → IsWord first second text
word_by first second text true b e f is = inl (same_name text first e)
word_by first second text false true e f is = inr (same_name text second f)
word_by first second text false false e f is = absurd (true≢false (sym is))

pub word_from : (first second text : List ℕ) → (bytes_eq text first || bytes_eq text second) ≡ true → IsWord first second text
word_from first second text is = word_by first second text (bytes_eq text first) (bytes_eq text second) refl refl is

-- whether a range has the text; parts of the key have no text of their own
pub starts_in : Range → List ℕ → Bool
starts_in (OfKey _) text = true
starts_in (Number low high) text = is_number low high text
starts_in (NumberOrNever high) text = is_number 0 high text
starts_in YesNo text = is_word (codes "Yes") (codes "No") text
starts_in Startup text = is_word (codes "manual") (codes "automatic") text
starts_in Method text = is_word (codes "None") (codes "CHAP") text
starts_in Credential text = nat_le (length text) 255 && list_all is_credential_byte text

pub is_in_from : (range : Range) (text : List ℕ) → is_of_key range ≡ false → starts_in range text ≡ true → IsIn range text
unfolding starts_in is_word
is_in_from (OfKey _) text not_key is = absurd (true≢false not_key)
is_in_from (Number low high) text not_key is = number_from low high text is
is_in_from (NumberOrNever high) text not_key is = inr (number_from 0 high text is)
is_in_from YesNo text not_key is = word_from (codes "Yes") (codes "No") text is
is_in_from Startup text not_key is = word_from (codes "manual") (codes "automatic") text is
is_in_from Method text not_key is = word_from (codes "None") (codes "CHAP") text is
is_in_from Credential text not_key is =
    let both = and_parts (nat_le (length text) 255) (list_all is_credential_byte text) is in (leb-true (length text) 255 both.0, both.1)

-- whether the name fits a line
pub is_fine : List ℕ → Bool
is_fine name = nat_lt 0 (length name) && (nat_le (length name) 63 && list_all is_name_byte name)

-- whether a row is as its users need it
pub row_fits : Row → Bool
row_fits r = is_fine r.name && (is_small r.range && starts_in r.range r.initial)

pub record Fits (r : Row) : Type 0 where
  pub some : 0 < length r.name
  pub short : length r.name ≤ 63
  pub bytes : list_all is_name_byte r.name ≡ true
  pub small : is_small r.range ≡ true
  pub starts : starts_in r.range r.initial ≡ true

fits_from : (r : Row) → row_fits r ≡ true → Fits r
unfolding row_fits is_fine
fits_from r is =
    let a = and_parts (is_fine r.name) (is_small r.range && starts_in r.range r.initial) is in
    let b = and_parts (nat_lt 0 (length r.name)) (nat_le (length r.name) 63 && list_all is_name_byte r.name) a.0 in
    let d = and_parts (nat_le (length r.name) 63) (list_all is_name_byte r.name) b.1 in
    let e = and_parts (is_small r.range) (starts_in r.range r.initial) a.1 in
    record { some = ltb-true 0 (length r.name) b.0; short = leb-true (length r.name) 63 d.0; bytes = d.1; small = e.0; starts = e.1 }

table_fits : list_all row_fits table ≡ true
unfolding row_fits is_fine starts_in is_word is_number shown number_of
table_fits = refl

-- what a search finds passes, and has what all have
pub found_one : {X : Type 0} (p q : X → Bool) (xs : List X) (x : X) → find p xs ≡ Some x → list_all q xs ≡ true → (q x ≡ true) × (p x ≡ true)
found_one {X} p q [] x found all =
    let some : Option X → Bool = λ o. elim o [ None ↦ false | Some y ↦ true ] in absurd (true≢false (sym (ap some found)))
found_one {X} p q (y ∷ xs) x found all = go (p y) refl found (and_parts (q y) (list_all q xs) all) (found_one p q xs x)
  where
    go : (b : Bool) → p y ≡ b → cond b (Some y) (find p xs) ≡ Some x → (q y ≡ true) × (list_all q xs ≡ true) → (find p xs ≡ Some x → list_all q xs ≡ true → (q x ≡ true) × (p x ≡ true)) → (q x ≡ true) × (p x ≡ true)
    go true passes here both rest =
        let same : y ≡ x = ap (λ (o : Option X). unwrap_or o y) here in (subst (λ (z : X). q z ≡ true) same both.0, subst (λ (z : X). p z ≡ true) same passes)
    go false passes here both rest = rest here both.1

pub row_of_name : (name : List ℕ) (r : Row) → row_named name table ≡ Some r → (r.name ≡ name) × Fits r
row_of_name name r found =
    let both = found_one (λ (x : Row). bytes_eq x.name name) row_fits table r found table_fits in (same_name r.name name both.1, fits_from r both.0)

-- each row is the one of its name
abbrev pub AreNamed : List Row → Type 0
AreNamed [] = Unit {0}
AreNamed (r ∷ rs) = (row_named r.name table ≡ Some r) × AreNamed rs

pub named : AreNamed table
named = (
  refl,
  (
    refl,
    (
      refl,
      (
        refl,
        (
          refl,
          (
            refl,
            (
              refl,
              (
                refl,
                (
                  refl,
                  (
                    refl,
                    (
                      refl,
                      (
                        refl,
                        (
                          refl,
                          (
                            refl,
                            (
                              refl,
                              (
                                refl,
                                (
                                  refl,
                                  (
                                    refl,
                                    (
                                      refl,
                                      (
                                        refl,
                                        (
                                          refl,
                                          (
                                            refl,
                                            (
                                              refl,
                                              (
                                                refl,
                                                (
                                                  refl,
                                                  (refl, (refl, (refl, (refl, (refl, tt))))),
                                                ),
                                              ),
                                            ),
                                          ),
                                        ),
                                      ),
                                    ),
                                  ),
                                ),
                              ),
                            ),
                          ),
                        ),
                      ),
                    ),
                  ),
                ),
              ),
            ),
          ),
        ),
      ),
    ),
  ),
)

pub fits_in : (rs : List Row) → list_all row_fits rs ≡ true → (r : Row) (rest : List Row) → rs ≡ r ∷ rest → Fits r × (list_all row_fits rest ≡ true)
fits_in rs all r rest is =
    let both = and_parts (row_fits r) (list_all row_fits rest) (subst (λ (x : List Row). list_all row_fits x ≡ true) is all) in (fits_from r both.0, both.1)

pub all_fit : list_all row_fits table ≡ true
all_fit = table_fits

-- a value that an open name takes makes a line
open_by : (name value : List ℕ) (o : Option Row) → row_named name table ≡ o → is_open_row o ≡ true → IfSome o (λ r. IsIn r.range value) → IsLine name value
open_by name value None found free taken = absurd (true≢false (sym free))
open_by name value (Some r) found free taken =
    let row = row_of_name name r found in
    let line : IsLine r.name value = record {
      name_some = row.1.some;
      name_fits = row.1.short;
      name_bytes = row.1.bytes;
      value_bytes = value_in r.range value row.1.small taken;
    } in
    subst (λ (n : List ℕ). IsLine n value) row.0 line

pub open_line : (name value : List ℕ) → is_open name ≡ true → Takes table name value → IsLine name value
open_line name value free taken = open_by name value (row_named name table) refl free taken

-- the row of a part of the key
abbrev pub part_row : Part → Row
part_row part = record { name = part_name part; initial = []; range = OfKey part }

pub row_of_part : (part : Part) → row_named (part_name part) table ≡ Some (part_row part)
row_of_part Target = refl
row_of_part Tag = refl
row_of_part Address = refl
row_of_part Port = refl
row_of_part Interface = refl

pub part_of_value : (part : Part) (value : List ℕ) → Takes table (part_name part) value → IsPart part value
part_of_value part value taken = subst (λ (o : Option Row). IfSome o (λ r. IsIn r.range value)) (row_of_part part) taken

pub has_part : (part : Part) (ps : List Pair) → IsComplete table ps → has_name (part_name part) ps ≡ true
has_part part ps complete = (found_one (λ (x : Row). bytes_eq x.name (part_name part)) (λ (x : Row). has_name x.name ps) table (part_row part) (row_of_part part) complete).0

not_open : (part : Part) → is_open (part_name part) ≡ false
not_open Target = refl
not_open Tag = refl
not_open Address = refl
not_open Port = refl
not_open Interface = refl

other_by : (part : Part) (name : List ℕ) (b : Bool) → bytes_eq (part_name part) name ≡ b → (part_name part ≡ name → ⊥) → b ≡ false
other_by which name true e apart = absurd (apart (same_name (part_name which) name e))
other_by which name false e apart = refl

pub open_is_no_part : (name : List ℕ) → is_open name ≡ true → (part : Part) → bytes_eq (part_name part) name ≡ false
open_is_no_part name free part =
    let apart : part_name part ≡ name → ⊥ = λ same. true≢false (sym free ∙ ap is_open (sym same) ∙ not_open part) in
    other_by part name (bytes_eq (part_name part) name) refl apart

some_row : Option Row → Bool
some_row None = false
some_row (Some r) = true

pub unknown_is_no_part : (name : List ℕ) → row_named name table ≡ None → (part : Part) → bytes_eq (part_name part) name ≡ false
unfolding some_row
unknown_is_no_part name unknown part =
    let apart : part_name part ≡ name → ⊥ =
    λ same. true≢false (ap some_row (sym (row_of_part part) ∙ ap (λ (n : List ℕ). row_named n table) same ∙ unknown)) in
    other_by part name (bytes_eq (part_name part) name) refl apart

pub takes_unknown : (name value : List ℕ) → row_named name table ≡ None → Takes table name value
takes_unknown name value unknown = subst (λ (o : Option Row). IfSome o (λ r. IsIn r.range value)) (sym unknown) tt
