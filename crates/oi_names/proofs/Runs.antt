-- Runs of bytes that pass a test.
use Rattle.std.proofs.Common.{◌≡◌, ◌<◌, ◌≤◌, ◌+◌, ◌-◌, ◌∙◌, ℕ, suc, zero, min, List, [], ◌∷◌, ◌++◌, length, take, replicate, sym, refl, arith, length-append, Bool, true, false, ◌&&◌, leb, cond}
use Rattle.std.specs.List.{list_all, prefix_len}
use Rattle.std.proofs.lemmas.Bool.{leb-true}
use Rattle.std.proofs.lemmas.Bool.Decides.{nat_tests}
use Rattle.std.proofs.lemmas.List.{length-take-le, length-replicate}
use Rattle.std.proofs.lemmas.List.Folds.{list_all-append}
use Rattle.std.proofs.lemmas.List.Sums.{prefix_len-le-length}
use Rattle.oi_base.specs.Fronts.{Begins}
use Rattle.oi_names.specs.Grammars.{IsRun}
use Rattle.oi_names.specs.Reaches.{IsReach}

pub and_first : (a b : Bool) → (a && b) ≡ true → a ≡ true
and_first true b e = refl
and_first false b e = absurd cc

pub and_second : (a b : Bool) → (a && b) ≡ true → b ≡ true
and_second true b e = e
and_second false b e = absurd cc

pub and_both : (a b : Bool) → a ≡ true → b ≡ true → (a && b) ≡ true
and_both true b p q = q
and_both false b p q = absurd cc

passes_step : (n m : ℕ) (b c : Bool) → suc n ≤ cond b (1 + m) 0 → (n ≤ m → c ≡ true) → (b && c) ≡ true
passes_step n m true c l h = h (omega arith)
passes_step n m false c l h = absurd (omega arith)

pub passes_front : (p : ℕ → Bool) (text : List ℕ) (n : ℕ) → n ≤ prefix_len p text → list_all p (take n text) ≡ true
passes_front p text zero l = refl
passes_front p [] (suc n) l = refl
passes_front p (x ∷ xs) (suc n) l = passes_step n (prefix_len p xs) (p x) (list_all p (take n xs)) l (λ q. passes_front p xs n q)

stops_step : (n m : ℕ) (b c : Bool) → (b && c) ≡ true → (c ≡ true → n ≤ m) → suc n ≤ cond b (1 + m) 0
stops_step n m true c e h = let l : n ≤ m = h e in omega arith
stops_step n m false c e h = absurd cc

pub stops_front : (p : ℕ → Bool) (text : List ℕ) (n : ℕ) → n ≤ length text → list_all p (take n text) ≡ true → n ≤ prefix_len p text
stops_front p text zero l e = omega arith
stops_front p [] (suc n) l e = absurd (omega arith)
stops_front p (x ∷ xs) (suc n) l e = stops_step n (prefix_len p xs) (p x) (list_all p (take n xs)) e (λ q. stops_front p xs n (omega arith) q)

all_replicate : (p : ℕ → Bool) (w : ℕ) → p w ≡ true → (n : ℕ) → list_all p (replicate n w) ≡ true
all_replicate p w e zero = refl
all_replicate p w e (suc n) = and_both (p w) (list_all p (replicate n w)) e (all_replicate p w e n)

test_from_le : (a b : ℕ) → a ≤ b → leb a b ≡ true
test_from_le a b h = grind (arith, nat_tests)

pub run_reach : (p : ℕ → Bool) (low high w : ℕ) → low ≤ high → p w ≡ true → (text : List ℕ) (k at : ℕ) → k ≡ prefix_len p text → at ≡ min k high → IsReach (IsRun p low high) text record { place = at; whole = leb low k }
run_reach p low high w fits pw text k at is place = record {
  at = record {
    within = within;
    begins = (fill, (omega (arith, long), omega (arith, long), list_all-append p (take at text) fill ∙ and_both _ _ (passes_front p text at (omega (arith, is, place))) (all_replicate p w pw (low - at))));
    longest = longest;
  };
  word = λ e. (omega (arith, leb-true low k e, taken), omega (arith, taken), passes_front p text at (omega (arith, is, place)));
  only = λ r. test_from_le low k (omega (arith, r.0, taken));
}
  where
    within : at ≤ length text
    within = omega (arith, is, place, prefix_len-le-length p text)

    fill : List ℕ
    fill = replicate (low - at) w

    taken : length (take at text) ≡ at
    taken = length-take-le at text within

    long : length (take at text ++ replicate (low - at) w) ≡ at + (low - at)
    long = omega (arith, length-append (take at text) (replicate (low - at) w), taken, length-replicate (low - at) w)

    longest : (n : ℕ) → at < n → n ≤ length text → Begins (IsRun p low high) (take n text) → ⊥
    longest n past inside (rest, (least, most, all)) =
        let passes : list_all p (take n text) ≡ true = and_first (list_all p (take n text)) (list_all p rest) (sym (list_all-append p (take n text) rest) ∙ all) in
        omega (arith, stops_front p text n inside passes, is, place, length-append (take n text) rest, length-take-le n text inside)
