-- What was written so far.
use Rattle.std.proofs.Common.{◌≡◌, ◌∙◌, ◌++◌, ℕ, ◌+◌, ◌-◌, ◌<◌, List, Option, Some, None, refl, sym, ap, take, drop, arith}
use Rattle.std.proofs.lemmas.List.{append_assoc}
use Rattle.std.proofs.Math.Seq.{take-add}
use Rattle.oi_outside.specs.Streams.{behind}

behind-append : (h : Option (List ℕ)) (xs ys : List ℕ) → behind (behind h xs) ys ≡ behind h (xs ++ ys)
behind-append None xs ys = refl
behind-append (Some h) xs ys = ap (λ (z : List ℕ). Some z) (append_assoc h xs ys)

-- one front of the bytes more
pub written_more : (h now held : Option (List ℕ)) (bytes : List ℕ) (at next : ℕ) → at < next → held ≡ behind h (take at bytes) → now ≡ behind held (take (next - at) (drop at bytes))
    → now ≡ behind h (take next bytes)
written_more h now held bytes at next less was is =
    let count : at + (next - at) ≡ next = omega arith in
    is ∙ ap (λ (z : Option (List ℕ)). behind z (take (next - at) (drop at bytes))) was ∙ behind-append h (take at bytes) (take (next - at) (drop at bytes))
    ∙ ap (λ (z : List ℕ). behind h z) (sym (take-add at (next - at) bytes) ∙ ap (λ (n : ℕ). take n bytes) count)
