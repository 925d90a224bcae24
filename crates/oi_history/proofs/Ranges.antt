-- The range of what is due, with one submission after another.
use Rattle.std.proofs.Common.{◌≡◌, ◌<◌, ◌+◌, ℕ, zero, suc, List, [], ◌∷◌, arith, drop, length, refl, slice_get, subst}
use Rattle.oi_history.specs.Indices.{high_noted, high_over, low_noted, low_over}
use Rattle.oi_history.specs.declared.task.Task.{Task}

one_more : (k : ℕ) → suc k ≡ k + 1
one_more k = omega arith

low_from : (ts : List Task) (k at low : ℕ) → k < length ts → low_over (suc at) (drop (suc k) ts) (low_noted (slice_get ts k) at low) ≡ low_over at (drop k ts) low
low_from [] k at low h = absurd (omega (arith, h))
low_from (t ∷ ts) zero at low h = refl
low_from (t ∷ ts) (suc k) at low h = low_from ts k at low (omega (arith, h))

high_from : (ts : List Task) (k at high : ℕ) → k < length ts → high_over (suc at) (drop (suc k) ts) (high_noted (slice_get ts k) at high) ≡ high_over at (drop k ts) high
high_from [] k at high h = absurd (omega (arith, h))
high_from (t ∷ ts) zero at high h = refl
high_from (t ∷ ts) (suc k) at high h = high_from ts k at high (omega (arith, h))

pub low_next : (ts : List Task) (k low : ℕ) → k < length ts → low_over (k + 1) (drop (k + 1) ts) (low_noted (slice_get ts k) k low) ≡ low_over k (drop k ts) low
low_next ts k low h =
    subst (λ (n : ℕ). low_over n (drop n ts) (low_noted (slice_get ts k) k low) ≡ low_over k (drop k ts) low) (one_more k) (low_from ts k k low h)

pub high_next : (ts : List Task) (k high : ℕ) → k < length ts → high_over (k + 1) (drop (k + 1) ts) (high_noted (slice_get ts k) k high) ≡ high_over k (drop k ts) high
high_next ts k high h =
    subst (λ (n : ℕ). high_over n (drop n ts) (high_noted (slice_get ts k) k high) ≡ high_over k (drop k ts) high) (one_more k) (high_from ts k k high h)
