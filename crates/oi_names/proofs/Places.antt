-- How far a text goes in a grammar that is put together from others.
use Rattle.std.proofs.Common.{◌≡◌, ◌<◌, ◌≤◌, ◌+◌, ◌-◌, ◌∙◌, ◌⊎◌, inl, inr, ℕ, List, [], ◌∷◌, ◌++◌, length, take, drop, subst, sym, ap, refl, arith, length-append, append-nil, append_assoc, get_or, Bool, true, false, ◌||◌, not, ltb, cond}
use Rattle.std.proofs.lemmas.Bool.{cases_lt, ltb-true, ltb-false}
use Rattle.std.proofs.lemmas.List.{take-append-drop, length-take-le, take_at, take_all, get_or_at}
use Rattle.oi_base.specs.Fronts.{Begins, IsPlace}
use Rattle.oi_names.specs.Grammars.{IsEither, IsExtended, IsJoined, IsLed}
use Rattle.oi_names.specs.Reaches.{IsReach, further}
use Rattle.oi_names.specs.declared.reach.Reach.{Reach}
use Rattle.oi_names.proofs.Lists.{split_same, over_front, past_front, take_join, take_past}

-- a front of a word begins one
pub begins_front : (G : List ℕ → Type 0) (front rest word : List ℕ) → front ++ rest ≡ word → G word → Begins G front
begins_front G front rest word e w = (rest, subst G (sym e) w)

-- a word goes all the way
pub word_place : (G : List ℕ → Type 0) (text : List ℕ) (p : ℕ) → IsPlace G text p → G text → p ≡ length text
word_place G text p is w = at_end (cases_lt p (length text)) where
  at_end : (p < length text) ⊎ (length text ≤ p) → p ≡ length text
  at_end (inl short) = absurd (is.longest (length text) short (omega arith) ([], subst G (sym (append-nil _ ∙ take_all (length text) text (omega arith))) w))
  at_end (inr long) = omega (arith, is.within)

pub reach_whole : (G : List ℕ → Type 0) (text : List ℕ) (r : Reach) → IsReach G text r → r.place ≡ length text → r.whole ≡ true → G text
reach_whole G text r is at whole = subst G (take_all r.place text (omega arith)) (is.word whole)

pub reach_word : (G : List ℕ → Type 0) (text : List ℕ) (r : Reach) → IsReach G text r → G text → (r.place ≡ length text) × (r.whole ≡ true)
reach_word G text r is w =
    let at = word_place G text r.place is.at w in
    (at, is.only (subst G (sym (take_all r.place text (omega arith))) w))

-- one of two grammars

either_begins : (A B : List ℕ → Type 0) (front : List ℕ) → Begins (IsEither A B) front → Begins A front ⊎ Begins B front
either_begins A B front (rest, inl a) = inl (rest, a)
either_begins A B front (rest, inr b) = inr (rest, b)

either_longest : (A B : List ℕ → Type 0) (text : List ℕ) (p q : ℕ) → IsPlace A text p → IsPlace B text q → (n : ℕ) → p < n → q < n → n ≤ length text → Begins (IsEither A B) (take n text) → ⊥
either_longest A B text p q a b n past further within begins = go (either_begins A B (take n text) begins) where
  go : Begins A (take n text) ⊎ Begins B (take n text) → ⊥
  go (inl x) = a.longest n past within x
  go (inr y) = b.longest n further within y

first_further : (A B : List ℕ → Type 0) (text : List ℕ) (a b : Reach) → IsReach A text a → IsReach B text b → b.place < a.place → IsReach (IsEither A B) text a
first_further A B text a b x y more = record {
  at = record {
    within = x.at.within;
    begins = (x.at.begins.0, inl x.at.begins.1);
    longest = λ n past within begins. either_longest A B text a.place b.place x.at y.at n past (omega arith) within begins;
  };
  word = λ w. inl (x.word w);
  only = go;
}
  where
    go : IsEither A B (take a.place text) → a.whole ≡ true
    go (inl w) = x.only w
    go (inr w) = absurd (y.at.longest a.place more x.at.within ([], subst B (sym (append-nil _)) w))

second_further : (A B : List ℕ → Type 0) (text : List ℕ) (a b : Reach) → IsReach A text a → IsReach B text b → a.place < b.place → IsReach (IsEither A B) text b
second_further A B text a b x y more = record {
  at = record {
    within = y.at.within;
    begins = (y.at.begins.0, inr y.at.begins.1);
    longest = λ n past within begins. either_longest A B text a.place b.place x.at y.at n (omega arith) past within begins;
  };
  word = λ w. inr (y.word w);
  only = go;
}
  where
    go : IsEither A B (take b.place text) → b.whole ≡ true
    go (inl w) = absurd (x.at.longest b.place more y.at.within ([], subst A (sym (append-nil _)) w))
    go (inr w) = y.only w

or_true : (a b : Bool) → (a || b) ≡ true → (a ≡ true) ⊎ (b ≡ true)
or_true true b e = inl refl
or_true false b e = inr e

true_or : (a b : Bool) → b ≡ true → (a || b) ≡ true
true_or true b e = refl
true_or false b e = e

or_first : (a b : Bool) → a ≡ true → (a || b) ≡ true
or_first true b e = refl
or_first false b e = absurd cc

both_as_far : (A B : List ℕ → Type 0) (text : List ℕ) (a b : Reach) → IsReach A text a → IsReach B text b → a.place ≡ b.place → IsReach (IsEither A B) text record { place = a.place; whole = a.whole || b.whole }
both_as_far A B text a b x y same = record {
  at = record {
    within = x.at.within;
    begins = (x.at.begins.0, inl x.at.begins.1);
    longest = λ n past within begins. either_longest A B text a.place b.place x.at y.at n past (omega arith) within begins;
  };
  word = λ w. one (or_true a.whole b.whole w);
  only = go;
}
  where
    one : (a.whole ≡ true) ⊎ (b.whole ≡ true) → IsEither A B (take a.place text)
    one (inl w) = inl (x.word w)
    one (inr w) = inr (subst (λ (n : ℕ). B (take n text)) (sym same) (y.word w))

    go : IsEither A B (take a.place text) → (a.whole || b.whole) ≡ true
    go (inl w) = or_first a.whole b.whole (x.only w)
    go (inr w) = true_or a.whole b.whole (y.only (subst (λ (n : ℕ). B (take n text)) same w))

pub further_reach : (A B : List ℕ → Type 0) (text : List ℕ) (a b : Reach) → IsReach A text a → IsReach B text b → IsReach (IsEither A B) text (further a b)
further_reach A B text a b x y = go (ltb a.place b.place) (ltb b.place a.place) refl refl where
  go : (s t : Bool) → ltb a.place b.place ≡ s → ltb b.place a.place ≡ t → IsReach (IsEither A B) text (cond s b (cond t a record { place = a.place; whole = a.whole || b.whole }))
  go true t p q = second_further A B text a b x y (ltb-true a.place b.place p)
  go false true p q = first_further A B text a b x y (ltb-true b.place a.place q)
  go false false p q = both_as_far A B text a b x y (omega (arith, ltb-false a.place b.place p, ltb-false b.place a.place q))

-- a word of one grammar, a byte, a word of another

-- no word of A goes on with the byte behind another word of A
abbrev pub Apart : (List ℕ → Type 0) → ℕ → Type 0
Apart A c = (x y d : List ℕ) → A x → A y → y ≡ x ++ c ∷ d → ⊥

pub cut : (A : List ℕ → Type 0) (c : ℕ) → Apart A c → (x y s t : List ℕ) → A x → A y → x ++ c ∷ s ≡ y ++ c ∷ t → (x ≡ y) × (s ≡ t)
cut A c apart x y s t ax ay e = go (cases_lt (length x) (length y)) (cases_lt (length y) (length x)) where
  go : (length x < length y) ⊎ (length y ≤ length x) → (length y < length x) ⊎ (length x ≤ length y) → (x ≡ y) × (s ≡ t)
  go (inl less) more = let d = past_front x y s (c ∷ t) c e less in absurd (apart x y d.0 ax ay d.1)
  go (inr a) (inl less) = let d = past_front y x t (c ∷ s) c (sym e) less in absurd (apart y x d.0 ay ax d.1)
  go (inr a) (inr b) = let both = split_same x y (c ∷ s) (c ∷ t) (omega arith) e in (both.0, cc)

past_longest : (A B : List ℕ → Type 0) (c : ℕ) → Apart A c → (x y : List ℕ) (b : ℕ) → A x → IsPlace B y b → (n : ℕ) → length x + 1 + b < n → n ≤ length (x ++ c ∷ y) → Begins (IsJoined A c B) (take n (x ++ c ∷ y)) → ⊥
past_longest A B c apart x y b ax is n past within (rest, (front, back, e, af, bb)) =
    let k = n - (length x + 1) in
    let whole : x ++ c ∷ (take k y ++ rest) ≡ front ++ c ∷ back =
    sym (append_assoc x (c ∷ take k y) rest) ∙ (ap (λ (z : List ℕ). z ++ rest) (sym (take_past x y c k n (omega arith))) ∙ e) in
    let same = cut A c apart x front (take k y ++ rest) back ax af whole in
    is.longest k (omega arith) (omega (arith, length-append x (c ∷ y))) (rest, subst B (sym same.1) bb)

pub joined_past : (A B : List ℕ → Type 0) (c : ℕ) → Apart A c → (x y : List ℕ) (b : Reach) → A x → IsReach B y b → IsReach (IsJoined A c B) (x ++ c ∷ y) record { place = length x + 1 + b.place; whole = b.whole }
joined_past A B c apart x y b ax is =
    let front : take (length x + 1 + b.place) (x ++ c ∷ y) ≡ x ++ c ∷ take b.place y = take_past x y c b.place _ refl in
    record {
      at = record {
        within = omega (arith, is.at.within, length-append x (c ∷ y));
        begins = (is.at.begins.0, (x, take b.place y ++ is.at.begins.0, ap (λ (z : List ℕ). z ++ is.at.begins.0) front ∙ append_assoc x (c ∷ take b.place y) is.at.begins.0, ax, is.at.begins.1));
        longest = past_longest A B c apart x y b.place ax is.at;
      };
      word = λ w. (x, take b.place y, front, ax, is.word w);
      only = λ w. is.only (subst B (sym (cut A c apart x w.0 (take b.place y) w.1 ax w.3 (sym front ∙ w.2)).1) w.4);
    }

-- how far a text goes that has the byte behind a word
goes_to : (A : List ℕ → Type 0) (c : ℕ) → Apart A c → (text : List ℕ) (a : Reach) → IsReach A text a → (x s : List ℕ) → text ≡ x ++ c ∷ s → A x → a.place ≡ length x
goes_to A c apart text a is x s e ax = go (cases_lt a.place (length x)) (cases_lt (length x) a.place) where
  front : take (length x) text ≡ x
  front = ap (λ (z : List ℕ). take (length x) z) e ∙ take_at x (c ∷ s) (length x) refl

  long : length text ≡ length x + length (c ∷ s)
  long = ap length e ∙ length-append x (c ∷ s)

  go : (a.place < length x) ⊎ (length x ≤ a.place) → (length x < a.place) ⊎ (a.place ≤ length x) → a.place ≡ length x
  go (inl less) more = absurd (is.at.longest (length x) less (omega (arith, long)) ([], subst A (sym (append-nil _ ∙ front)) ax))
  go (inr p) (inl more) =
      let k = a.place - (length x + 1) in
      let begins = is.at.begins in
      let whole : take a.place text ++ begins.0 ≡ x ++ c ∷ (take k s ++ begins.0) =
      ap (λ (z : List ℕ). z ++ begins.0) (ap (λ (z : List ℕ). take a.place z) e ∙ take_past x s c k a.place (omega arith)) ∙ append_assoc x (c ∷ take k s) begins.0 in
      absurd (apart x (take a.place text ++ begins.0) (take k s ++ begins.0) ax begins.1 whole)
  go (inr p) (inr q) = omega arith

-- the byte stands behind no word of A
stop_at : (A : List ℕ → Type 0) (c : ℕ) → Apart A c → (text : List ℕ) (a : Reach) → IsReach A text a → (a.whole ≡ true → a.place < length text → get_or text a.place 0 ≡ c → ⊥) → (x s : List ℕ) → text ≡ x ++ c ∷ s → A x → ⊥
stop_at A c apart text a is none x s e ax =
    let same : a.place ≡ length x = goes_to A c apart text a is x s e ax in
    let front : take (length x) text ≡ x = ap (λ (z : List ℕ). take (length x) z) e ∙ take_at x (c ∷ s) (length x) refl in
    none (is.only (subst A (sym (ap (λ (n : ℕ). take n text) same ∙ front)) ax)) (omega (arith, ap length e, length-append x (c ∷ s)))
    (ap (λ (n : ℕ). get_or text n 0) same ∙ (ap (λ (z : List ℕ). get_or z (length x) 0) e ∙ get_or_at x c s 0 (length x) refl))

pub joined_here : (A B : List ℕ → Type 0) (c : ℕ) → Apart A c → (word : List ℕ) → B word → (text : List ℕ) (a : Reach) → IsReach A text a → (a.whole ≡ true → a.place < length text → get_or text a.place 0 ≡ c → ⊥)
    → IsReach (IsJoined A c B) text record { place = a.place; whole = false }
joined_here A B c apart word bw text a is none = record {
  at = record {
    within = is.at.within;
    begins = (is.at.begins.0 ++ c ∷ word, (take a.place text ++ is.at.begins.0, word, sym (append_assoc _ is.at.begins.0 (c ∷ word)), is.at.begins.1, bw));
    longest = λ n past within b. longest n past within b (cases_lt (length b.1.0) n);
  };
  word = λ w. absurd cc;
  only = λ w. absurd (stops w.0 (w.1 ++ drop a.place text) (sym (take-append-drop a.place text) ∙ (ap (λ (z : List ℕ). z ++ drop a.place text) w.2 ∙ append_assoc w.0 (c ∷ w.1) (drop a.place text))) w.3);
}
  where
    stops : (x s : List ℕ) → text ≡ x ++ c ∷ s → A x → ⊥
    stops = stop_at A c apart text a is none

    longest : (n : ℕ) → a.place < n → n ≤ length text → (b : Begins (IsJoined A c B) (take n text)) → (length b.1.0 < n) ⊎ (n ≤ length b.1.0) → ⊥
    longest n past within (rest, (x, back, e, ax, bb)) (inl short) =
        let d = past_front x (take n text) back rest c (sym e) (omega (arith, length-take-le n text within)) in
        stops x (d.0 ++ drop n text) (sym (take-append-drop n text) ∙ (ap (λ (z : List ℕ). z ++ drop n text) d.1 ∙ append_assoc x (c ∷ d.0) (drop n text))) ax
    longest n past within (rest, (x, back, e, ax, bb)) (inr long) =
        let d = over_front (take n text) x rest (c ∷ back) e (omega (arith, length-take-le n text within)) in
        is.at.longest n past within (d.0, subst A d.1 ax)

-- a fixed text, then a word

pub led_past : (G : List ℕ → Type 0) (head rest : List ℕ) (b : Reach) → IsReach G rest b → IsReach (IsLed head G) (head ++ rest) record { place = length head + b.place; whole = b.whole }
led_past G head rest b is =
    let front : take (length head + b.place) (head ++ rest) ≡ head ++ take b.place rest = take_join head rest b.place _ refl in
    record {
      at = record {
        within = omega (arith, is.at.within, length-append head rest);
        begins = (is.at.begins.0, (take b.place rest ++ is.at.begins.0, ap (λ (z : List ℕ). z ++ is.at.begins.0) front ∙ append_assoc head (take b.place rest) is.at.begins.0, is.at.begins.1));
        longest = longest;
      };
      word = λ w. (take b.place rest, front, is.word w);
      only = λ w. is.only (subst G (sym (split_same head head (take b.place rest) w.0 refl (sym front ∙ w.1)).1) w.2);
    }
  where
    longest : (n : ℕ) → length head + b.place < n → n ≤ length (head ++ rest) → Begins (IsLed head G) (take n (head ++ rest)) → ⊥
    longest n past within (more, (word, e, w)) =
        let k = n - length head in
        let whole : head ++ (take k rest ++ more) ≡ head ++ word =
        sym (append_assoc head (take k rest) more) ∙ (ap (λ (z : List ℕ). z ++ more) (sym (take_join head rest k n (omega arith))) ∙ e) in
        is.at.longest k (omega arith) (omega (arith, length-append head rest)) (more, subst G (sym (split_same head head (take k rest ++ more) word refl whole).1) w)

-- what a text that goes so far is and is not

pub no_word_short : (G : List ℕ → Type 0) (text : List ℕ) (r : Reach) → IsReach G text r → not r.whole ≡ true → G text → ⊥
no_word_short G text r is out w = let whole : r.whole ≡ true = (reach_word G text r is w).1 in let open_end : not r.whole ≡ false = ap not whole in cc

pub not_not : (b : Bool) → not b ≡ false → b ≡ true
not_not true e = refl
not_not false e = absurd cc

pub no_word_long : (G : List ℕ → Type 0) (text : List ℕ) (r : Reach) → IsReach G text r → (r.place ≡ length text → ⊥) → G text → ⊥
no_word_long G text r is out w = out (reach_word G text r is w).0

-- where the byte stands behind a word
pub joined_at : (A B : List ℕ → Type 0) (c : ℕ) → Apart A c → (text rest : List ℕ) (a b : Reach) → IsReach A text a → a.whole ≡ true → text ≡ take a.place text ++ c ∷ rest → IsReach B rest b → (p : ℕ) → p ≡ a.place + 1 + b.place
    → IsReach (IsJoined A c B) text record { place = p; whole = b.whole }
joined_at A B c apart text rest a b is whole e more p place =
    let long : length (take a.place text) ≡ a.place = length-take-le a.place text is.at.within in
    let same : length (take a.place text) + 1 + b.place ≡ p = omega (arith, long) in
    subst (λ (z : List ℕ). IsReach (IsJoined A c B) z record { place = p; whole = b.whole }) (sym e)
    (subst (λ (n : ℕ). IsReach (IsJoined A c B) (take a.place text ++ c ∷ rest) record { place = n; whole = b.whole }) same
    (joined_past A B c apart (take a.place text) rest b (is.word whole) more))

-- a text with an optional part: it ends behind a word, or the byte and the part stand there
pub record Ends (A : List ℕ → Type 0) (c : ℕ) (B : List ℕ → Type 0) (text : List ℕ) (a : Reach) : Type 0 where
  pub whole : a.whole ≡ true
  pub rest : (a.place ≡ length text) ⊎ ((back : List ℕ) × (text ≡ take a.place text ++ c ∷ back) × B back)

pub extended_ends : (A B : List ℕ → Type 0) (c : ℕ) → Apart A c → (text : List ℕ) (a : Reach) → IsReach A text a → IsExtended A c B text → Ends A c B text a
extended_ends A B c apart text a is (inl w) = let all = reach_word A text a is w in record { whole = all.1; rest = inl all.0 }
extended_ends A B c apart text a is (inr (x, back, e, ax, b)) =
    let at : a.place ≡ length x = goes_to A c apart text a is x back e ax in
    let front : take a.place text ≡ x = ap (λ (n : ℕ). take n text) at ∙ (ap (λ (z : List ℕ). take (length x) z) e ∙ take_at x (c ∷ back) (length x) refl) in
    record { whole = is.only (subst A (sym front) ax); rest = inr (back, e ∙ ap (λ (z : List ℕ). z ++ c ∷ back) (sym front), b) }

pub no_extended_short : (A B : List ℕ → Type 0) (c : ℕ) → Apart A c → (text : List ℕ) (a : Reach) → IsReach A text a → not a.whole ≡ true → IsExtended A c B text → ⊥
no_extended_short A B c apart text a is out w =
    let ends = extended_ends A B c apart text a is w in
    let open_end : not a.whole ≡ false = ap not ends.whole in
    cc

no_rest : (A B : List ℕ → Type 0) (c : ℕ) (text : List ℕ) (a : Reach) → IsReach A text a → (a.place ≡ length text → ⊥) → (a.whole ≡ true → a.place < length text → get_or text a.place 0 ≡ c → ⊥) → Ends A c B text a → ⊥
no_rest A B c text a is long none ends = go ends.rest where
  go : (a.place ≡ length text) ⊎ ((back : List ℕ) × (text ≡ take a.place text ++ c ∷ back) × B back) → ⊥
  go (inl all) = long all
  go (inr (back, e, b)) =
      let front : length (take a.place text) ≡ a.place = length-take-le a.place text is.at.within in
      none ends.whole (omega (arith, ap length e, length-append (take a.place text) (c ∷ back), front))
      (ap (λ (z : List ℕ). get_or z a.place 0) e ∙ get_or_at (take a.place text) c back 0 a.place front)

pub no_extended_none : (A B : List ℕ → Type 0) (c : ℕ) → Apart A c → (text : List ℕ) (a : Reach) → IsReach A text a → (a.place ≡ length text → ⊥) → (a.whole ≡ true → a.place < length text → get_or text a.place 0 ≡ c → ⊥) → IsExtended A c B text → ⊥
no_extended_none A B c apart text a is long none w = no_rest A B c text a is long none (extended_ends A B c apart text a is w)

pub no_extended_part : (A B : List ℕ → Type 0) (c : ℕ) → Apart A c → (text part : List ℕ) (a : Reach) → IsReach A text a → (a.place ≡ length text → ⊥) → text ≡ take a.place text ++ c ∷ part → (B part → ⊥) → IsExtended A c B text → ⊥
no_extended_part A B c apart text part a is long e none w = go (extended_ends A B c apart text a is w).rest where
  go : (a.place ≡ length text) ⊎ ((back : List ℕ) × (text ≡ take a.place text ++ c ∷ back) × B back) → ⊥
  go (inl all) = long all
  go (inr (back, is_back, b)) =
      let both = split_same (take a.place text) (take a.place text) (c ∷ part) (c ∷ back) refl (sym e ∙ is_back) in
      let same : back ≡ part = cc in
      none (subst B same b)
