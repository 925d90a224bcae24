-- A fixed text at the beginning of another.
use Rattle.std.proofs.Common.{◌≡◌, ◌<◌, ◌≤◌, ◌+◌, ◌∙◌, ℕ, suc, zero, List, [], ◌∷◌, ◌++◌, length, take, drop, zip, subst, sym, ap, refl, arith, length-append, append_assoc, Bool, true, false, ◌==◌, cond}
use Rattle.std.specs.List.{prefix_len}
use Rattle.std.proofs.lemmas.Bool.Decides.{nat_tests}
use Rattle.std.proofs.lemmas.List.{length-take-le, take-append-drop, take_all}
use Rattle.oi_base.specs.Fronts.{Begins}
use Rattle.oi_names.specs.Grammars.{IsLed}
use Rattle.oi_names.specs.Reaches.{IsReach}
use Rattle.oi_names.specs.declared.reach.Reach.{Reach}
use Rattle.oi_names.proofs.Places.{led_past}

-- how many bytes two texts have in common at their beginnings
abbrev pub shared : List ℕ → List ℕ → ℕ
shared text head = prefix_len (λ (p : ℕ × ℕ). p.0 == p.1) (zip text head)

same_test : (x y : ℕ) → x ≡ y → (x == y) ≡ true
same_test x y e = grind (arith, nat_tests)

same_from_test : (x y : ℕ) → (x == y) ≡ true → x ≡ y
same_from_test x y e = grind (arith, nat_tests)

most_step : (n m len : ℕ) (b : Bool) → b ≡ true → cond b (1 + m) 0 < suc len → (m < len → n ≤ m) → suc n ≤ cond b (1 + m) 0
most_step n m len true e l h = let q : n ≤ m = h (omega arith) in omega arith
most_step n m len false e l h = absurd cc

shared_most : (text head r g : List ℕ) (n : ℕ) → take n text ++ r ≡ head ++ g → n ≤ length text → shared text head < length head → n ≤ shared text head
shared_most text head r g zero e l h = omega arith
shared_most [] head r g (suc n) e l h = absurd (omega arith)
shared_most (x ∷ xs) [] r g (suc n) e l h = absurd (omega arith)
shared_most (x ∷ xs) (y ∷ ys) r g (suc n) e l h =
    let heads : x ≡ y = cc in
    let tails : take n xs ++ r ≡ ys ++ g = cc in
    most_step n (shared xs ys) (length ys) (x == y) (same_test x y heads) h (λ q. shared_most xs ys r g n tails (omega arith) q)

take_step : (x y : ℕ) (xs ys : List ℕ) (b : Bool) (c : ℕ) → (b ≡ true → x ≡ y) → take c xs ≡ take c ys → take (cond b (1 + c) 0) (x ∷ xs) ≡ take (cond b (1 + c) 0) (y ∷ ys)
take_step x y xs ys true c h e =
    let more : 1 + c ≡ suc c = omega arith in
    let heads : x ≡ y = h refl in
    rw more (rw (heads, e) refl)
take_step x y xs ys false c h e = refl

shared_take : (text head : List ℕ) → take (shared text head) text ≡ take (shared text head) head
shared_take [] [] = refl
shared_take [] (y ∷ ys) = refl
shared_take (x ∷ xs) [] = refl
shared_take (x ∷ xs) (y ∷ ys) = take_step x y xs ys (x == y) (shared xs ys) (same_from_test x y) (shared_take xs ys)

within_step : (m a b : ℕ) (t : Bool) → (m ≤ a) × (m ≤ b) → (cond t (1 + m) 0 ≤ suc a) × (cond t (1 + m) 0 ≤ suc b)
within_step m a b true h = (omega (arith, h.0), omega (arith, h.1))
within_step m a b false h = (omega arith, omega arith)

pub shared_within : (text head : List ℕ) → (shared text head ≤ length text) × (shared text head ≤ length head)
shared_within [] head = (omega arith, omega arith)
shared_within (x ∷ xs) [] = (omega arith, omega arith)
shared_within (x ∷ xs) (y ∷ ys) = within_step (shared xs ys) (length xs) (length ys) (x == y) (shared_within xs ys)

pub led_here : (G : List ℕ → Type 0) (word : List ℕ) → G word → (head text : List ℕ) (k : ℕ) → k ≡ shared text head → k < length head → IsReach (IsLed head G) text record { place = k; whole = false }
led_here G word w head text k is less = record {
  at = record {
    within = within;
    begins = (drop k head ++ word, (word, ap (λ (z : List ℕ). z ++ (drop k head ++ word)) fronts ∙ (sym (append_assoc (take k head) (drop k head) word) ∙ ap (λ (z : List ℕ). z ++ word) (take-append-drop k head)), w));
    longest = longest;
  };
  word = λ e. absurd cc;
  only = λ e. absurd (omega (arith, ap length e.1, length-append head e.0, length-take-le k text within));
}
  where
    within : k ≤ length text
    within = omega (arith, shared_within text head)

    fronts : take k text ≡ take k head
    fronts = rw is (shared_take text head)

    longest : (n : ℕ) → k < n → n ≤ length text → Begins (IsLed head G) (take n text) → ⊥
    longest n past inside (rest, (more, e, g)) = omega (arith, shared_most text head rest more n e inside (omega arith))

pub led_whole : (head text : List ℕ) (k : ℕ) → k ≡ shared text head → length head ≤ k → text ≡ head ++ drop (length head) text
led_whole head text k is more =
    let same : shared text head ≡ length head = omega (arith, shared_within text head) in
    let fronts : take (length head) text ≡ take (length head) head = subst (λ (n : ℕ). take n text ≡ take n head) same (shared_take text head) in
    sym (take-append-drop (length head) text) ∙ ap (λ (z : List ℕ). z ++ drop (length head) text) (fronts ∙ take_all (length head) head (omega arith))

pub led_at : (G : List ℕ → Type 0) (head text : List ℕ) (k : ℕ) → k ≡ shared text head → length head ≤ k → (b : Reach) → IsReach G (drop (length head) text) b → IsReach (IsLed head G) text record { place = length head + b.place; whole = b.whole }
led_at G head text k is more b r =
    subst (λ (z : List ℕ). IsReach (IsLed head G) z record { place = length head + b.place; whole = b.whole }) (sym (led_whole head text k is more)) (led_past G head (drop (length head) text) b r)
