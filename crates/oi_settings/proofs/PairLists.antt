-- Lists of names with values: what stays when a value is put.
use Rattle.std.proofs.Common.{◌≡◌, ℕ, Bool, true, false, true≢false, cond, Option, Some, is_some, unwrap_or, List, [], ◌∷◌, ◌++◌, refl, sym, ap, ◌∙◌, subst, bytes_eq, ◌+◌, length, length-append}
use Rattle.std.specs.List.{list_all}
use Rattle.std.proofs.lemmas.Bool.{and_from, and_parts}
use Rattle.std.proofs.lemmas.Slice.Eq.{bytes_eq-Decides}
use Rattle.oi_settings.specs.Pairs.{AreOnce, Pair, has_name, put, value_of}
use Rattle.oi_settings.specs.Schema.{Row, Takes}
use Rattle.oi_settings.specs.Texts.{AreLines, ArePairs, IsComplete, IsLine}

pub same_name : (a b : List ℕ) → bytes_eq a b ≡ true → a ≡ b
same_name a b e = (bytes_eq-Decides a b).0 e

pub name_itself : (a : List ℕ) → bytes_eq a a ≡ true
name_itself a = (bytes_eq-Decides a a).1 refl

not_true : (b : Bool) → (b ≡ true → ⊥) → b ≡ false
not_true true no_true = absurd (no_true refl)
not_true false no_true = refl

pub other_way : (a b : List ℕ) → bytes_eq a b ≡ false → bytes_eq b a ≡ false
other_way a b e = not_true (bytes_eq b a) (λ same. true≢false (sym (name_itself a) ∙ ap (bytes_eq a) (sym (same_name b a same)) ∙ e))

both_same : (b c : Bool) (x y : List ℕ) (r : Option (List ℕ)) → b ≡ c → cond b (Some x) r ≡ cond c (Some x) (cond b (Some y) r)
both_same true true x y r e = refl
both_same true false x y r e = absurd (true≢false e)
both_same false true x y r e = absurd (true≢false (sym e))
both_same false false x y r e = refl

one_of_both : (b c : Bool) (x y : List ℕ) (r s : Option (List ℕ)) → (b ≡ true → c ≡ true → ⊥) → s ≡ cond c (Some x) r → cond b (Some y) s ≡ cond c (Some x) (cond b (Some y) r)
one_of_both true true x y r s apart e = absurd (apart refl refl)
one_of_both true false x y r s apart e = refl
one_of_both false c x y r s apart e = e

-- after a put the name has the value, and every other name keeps its own
pub value_of-put : (m n v : List ℕ) (ps : List Pair) → value_of m (put n v ps) ≡ cond (bytes_eq m n) (Some v) (value_of m ps)
value_of-put m n v [] = refl
value_of-put m n v (p ∷ ps) = go (bytes_eq n p.0) refl (value_of-put m n v ps)
  where
    go : (b : Bool) → bytes_eq n p.0 ≡ b → value_of m (put n v ps) ≡ cond (bytes_eq m n) (Some v) (value_of m ps)
        → value_of m (cond b ((p.0, v) ∷ ps) (p ∷ put n v ps)) ≡ cond (bytes_eq m n) (Some v) (cond (bytes_eq m p.0) (Some p.1) (value_of m ps))
    go true e rest = both_same (bytes_eq m p.0) (bytes_eq m n) v p.1 (value_of m ps) (ap (bytes_eq m) (sym (same_name n p.0 e)))
    go false e rest =
        one_of_both (bytes_eq m p.0) (bytes_eq m n) v p.1 (value_of m ps) (value_of m (put n v ps))
        (λ at there. true≢false (sym (name_itself n) ∙ ap (bytes_eq n) (sym (same_name m n there) ∙ same_name m p.0 at) ∙ e)) rest

some_either : (b : Bool) (v : List ℕ) (o : Option (List ℕ)) → is_some o ≡ true → is_some (cond b (Some v) o) ≡ true
some_either true v o e = refl
some_either false v o e = e

pub has_name-put : (m n v : List ℕ) (ps : List Pair) → has_name m ps ≡ true → has_name m (put n v ps) ≡ true
has_name-put m n v ps e = ap is_some (value_of-put m n v ps) ∙ some_either (bytes_eq m n) v (value_of m ps) e

pub has_put : (n v : List ℕ) (ps : List Pair) → value_of n (put n v ps) ≡ Some v
has_put n v ps = value_of-put n n v ps ∙ ap (λ (b : Bool). cond b (Some v) (value_of n ps)) (name_itself n)

-- a new name comes last
pub put-new : (n v : List ℕ) (ps : List Pair) → has_name n ps ≡ false → put n v ps ≡ ps ++ (n, v) ∷ []
put-new n v [] e = refl
put-new n v (p ∷ ps) e = go (bytes_eq n p.0) e (put-new n v ps)
  where
    go : (b : Bool) → is_some (cond b (Some p.1) (value_of n ps)) ≡ false → (has_name n ps ≡ false → put n v ps ≡ ps ++ (n, v) ∷ [])
        → cond b ((p.0, v) ∷ ps) (p ∷ put n v ps) ≡ p ∷ (ps ++ (n, v) ∷ [])
    go true h rest = absurd (true≢false h)
    go false h rest = ap (λ (t : List Pair). p ∷ t) (rest h)

pub AreLines-put : (rows : List Row) (n v : List ℕ) (ps : List Pair) → AreLines rows ps → IsLine n v → Takes rows n v → AreLines rows (put n v ps)
AreLines-put rows n v [] lines line taken = (line, taken, tt)
AreLines-put rows n v (p ∷ ps) (first, fits, lines) line taken = go (bytes_eq n p.0) refl (AreLines-put rows n v ps lines line taken)
  where
    go : (b : Bool) → bytes_eq n p.0 ≡ b → AreLines rows (put n v ps) → AreLines rows (cond b ((p.0, v) ∷ ps) (p ∷ put n v ps))
    go true e rest = (subst (λ (m : List ℕ). IsLine m v) (same_name n p.0 e) line, subst (λ (m : List ℕ). Takes rows m v) (same_name n p.0 e) taken, lines)
    go false e rest = (first, fits, rest)

pub AreOnce-put : (n v : List ℕ) (ps : List Pair) → AreOnce ps → AreOnce (put n v ps)
AreOnce-put n v [] once = (refl, tt)
AreOnce-put n v (p ∷ ps) (alone, once) = go (bytes_eq n p.0) refl (AreOnce-put n v ps once)
  where
    go : (b : Bool) → bytes_eq n p.0 ≡ b → AreOnce (put n v ps) → AreOnce (cond b ((p.0, v) ∷ ps) (p ∷ put n v ps))
    go true e rest = (alone, once)
    go false e rest = (
      ap is_some (value_of-put p.0 n v ps) ∙ ap (λ (b : Bool). is_some (cond b (Some v) (value_of p.0 ps))) (other_way n p.0 e) ∙ alone,
      rest,
    )

pub all_more : {X : Type 0} (p q : X → Bool) (xs : List X) → ((x : X) → p x ≡ true → q x ≡ true) → list_all p xs ≡ true → list_all q xs ≡ true
all_more p q [] holds all = refl
all_more p q (x ∷ xs) holds all =
    let both = and_parts (p x) (list_all p xs) all in
    and_from (q x) (list_all q xs) (holds x both.0) (all_more p q xs holds both.1)

pub IsComplete-put : (rows : List Row) (n v : List ℕ) (ps : List Pair) → IsComplete rows ps → IsComplete rows (put n v ps)
IsComplete-put rows n v ps all =
    all_more (λ (r : Row). has_name r.name ps) (λ (r : Row). has_name r.name (put n v ps)) rows (λ r there. has_name-put r.name n v ps there) all

pub ArePairs-put : (rows : List Row) (n v : List ℕ) (ps : List Pair) → ArePairs rows ps → IsLine n v → Takes rows n v → ArePairs rows (put n v ps)
ArePairs-put rows n v ps are line taken = record {
  lines = AreLines-put rows n v ps are.lines line taken;
  once = AreOnce-put n v ps are.once;
  complete = IsComplete-put rows n v ps are.complete;
}

-- the value of a name is one that it takes, in a line
pub line_of_value : (rows : List Row) (n v : List ℕ) (ps : List Pair) → AreLines rows ps → value_of n ps ≡ Some v → IsLine n v × Takes rows n v
line_of_value rows n v [] lines found = absurd (true≢false (sym (ap is_some found)))
line_of_value rows n v (p ∷ ps) (first, fits, lines) found = go (bytes_eq n p.0) refl found (line_of_value rows n v ps lines)
  where
    go : (b : Bool) → bytes_eq n p.0 ≡ b → cond b (Some p.1) (value_of n ps) ≡ Some v → (value_of n ps ≡ Some v → IsLine n v × Takes rows n v) → IsLine n v × Takes rows n v
    go true e here rest =
        let name : p.0 ≡ n = sym (same_name n p.0 e) in
        let value : p.1 ≡ v = ap (λ (o : Option (List ℕ)). unwrap_or o []) here in (
          subst (λ (m : List ℕ). IsLine m v) name (subst (λ (w : List ℕ). IsLine p.0 w) value first),
          subst (λ (m : List ℕ). Takes rows m v) name (subst (λ (w : List ℕ). Takes rows p.0 w) value fits),
        )
    go false e here rest = rest here

-- a new name makes the list longer by one
pub length-put : (n v : List ℕ) (ps : List Pair) → has_name n ps ≡ false → length (put n v ps) ≡ length ps + 1
length-put n v ps new = ap length (put-new n v ps new) ∙ length-append ps ((n, v) ∷ [])
