-- Calls of links over memory.
use Rattle.std.proofs.Common.{ℕ, ◌≡◌, ◌∙◌, ◌+◌, ◌≤◌, List, [], ◌∷◌, ◌++◌, length, take, drop, Option, Some, None, refl, sym, ap, arith, length-append}
use Rattle.std.specs.List.{last_or}
use Rattle.std.proofs.lemmas.List.{take-append-le, drop-append-le, take-append-drop, length-take-le}
use Rattle.oi_pipe.specs.Turns.{Reader, IsRead}
use Rattle.oi_pipe.specs.declared.turn.PipeTurn.TheVariants.{Moved}
use Rattle.oi_outside.specs.declared.link_read.ReadTurn.TheVariants.{Got}
use Rattle.oi_outside.specs.MemLinks.{ReadsPipe}

-- a read into a front of a buffer, as a read into the buffer
pub ReadsPipe-front : (piece size n : ℕ) (p q : Reader) (before got : List ℕ) → size ≤ piece → size ≤ length before → length got ≡ length (take size before) → IsRead p q (take size before) got (Moved n) → ReadsPipe piece p q before (got ++ drop size before) (Got n)
ReadsPipe-front piece size n p q before got small inside len h =
    let full : length (take size before) ≡ size = length-take-le size before inside in
    let within : n ≤ size = omega (arith, h.1) in
    let held : n ≤ length got = omega arith in
    let over : n ≤ length (take size before) = omega arith in (
      omega arith,
      (
        h.0,
        omega arith,
        h.2 ∙ ap (λ (bs : List ℕ). record p { taken = p.taken ++ bs }) (sym (take-append-le n got (drop size before) held)),
        drop-append-le n got (drop size before) held
            ∙ ap (λ (bs : List ℕ). bs ++ drop size before) h.3
            ∙ sym (drop-append-le n (take size before) (drop size before) over)
            ∙ ap (drop n) (take-append-drop size before),
        h.4,
      ),
    )

module _ {T : Type 0} where
  last-after : (o : Option T) (xs : List T) (x : T) → last_or o (xs ++ x ∷ []) ≡ Some x
  last-after o [] x = refl
  last-after o (y ∷ ys) x = last-after (Some y) ys x

  -- with one more answer there is one call more, and that answer is the last
  pub calls_after : (xs : List T) (x : T) → length (xs ++ x ∷ []) ≡ length xs + 1
  calls_after xs x = length-append xs (x ∷ [])

  pub last_after : (xs : List T) (x : T) → last_or None (xs ++ x ∷ []) ≡ Some x
  last_after xs x = last-after None xs x
