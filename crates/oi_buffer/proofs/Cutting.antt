-- What a list of pieces covers.
use Rattle.std.proofs.Common.{mul-le-mul_right, ◌==◌, ◌≢◌, ◌≡◌, ℕ, zero, suc, ◌+◌, ◌-◌, ◌*◌, ◌<◌, ◌≤◌, min, true, false, List, ◌∷◌, length, map, refl, sym, ap, subst, ◌∙◌, eqb, arith, All}
use Rattle.std.specs.List.{range_with_len}
use Rattle.std.proofs.lemmas.Grind.{common_steps, div_ceil_times}
use Rattle.std.proofs.lemmas.List.Elements.{All-nil, All-cons}
use Rattle.std.proofs.lemmas.Bool.Decides.{nat_tests}
use Rattle.oi_buffer.specs.declared.cut.Piece.{Piece}
use Rattle.oi_buffer.specs.Cuts.{piece_count, piece_at, Adjoin, Numbered, LastMarked, Covers}

next_multiple : (k max : ℕ) → (k + 1) * max ≡ k * max + max
next_multiple k max = grind arith

multiples_grow : (j k max : ℕ) → j ≤ k → j * max ≤ k * max
multiples_grow j k max le = mul-le-mul_right max le

-- a piece before the last one begins inside
pub begins_inside : (k length max : ℕ) → 0 < max → k < piece_count length max → k * max < length
begins_inside k length max some before =
    let times = div_ceil_times length max some in
    let grown = multiples_grow (k + 1) (piece_count length max) max (omega arith) in
    let next = next_multiple k max in
    omega (arith, times.1)

-- the pieces reach the end
pub reaches_end : (length max : ℕ) → 0 < max → length ≤ piece_count length max * max
reaches_end length max some = (div_ceil_times length max some).0

-- a piece that is not the last one is full
pub full_inside : (k length max : ℕ) → 0 < max → k + 1 < piece_count length max → k * max + max ≤ length
full_inside k length max some before =
    let inside = begins_inside (k + 1) length max some before in
    let next = next_multiple k max in
    omega arith

-- what is left after the first of the pieces
view_step : (f : ℕ → Piece) (k count : ℕ) → k < count → map f (range_with_len k (count - k)) ≡ f k ∷ map f (range_with_len (k + 1) (count - (k + 1)))
view_step f k count before =
    let one_less : count - k ≡ suc (count - (k + 1)) = omega arith in
    ap (λ (n : ℕ). map f (range_with_len k n)) one_less

pub first_piece : (offset length max k count size : ℕ) → k < count → count ≡ piece_count length max → size ≡ min max (length - k * max) → map (piece_at offset length max) (range_with_len k (count - k)) ≡ record { number = k; offset = offset + k * max; length = size; last = k + 1 == count } ∷ map (piece_at offset length max) (range_with_len (k + 1) (count - (k + 1)))
first_piece offset length max k count size before counted sized =
    view_step (piece_at offset length max) k count before ∙ ap (λ (p : Piece). p ∷ map (piece_at offset length max) (range_with_len (k + 1) (count - (k + 1)))) same
  where
    same : piece_at offset length max k ≡ record { number = k; offset = offset + k * max; length = size; last = k + 1 == count }
    same = rw (sized, counted) refl

adjoin_from : (offset length max k n : ℕ) → 0 < max → k + n ≡ piece_count length max → Adjoin (offset + min (k * max) length) (offset + length) (map (piece_at offset length max) (range_with_len k n))
adjoin_from offset length max k zero some ends =
    let here : k ≡ piece_count length max = omega arith in
    let reached : length ≤ k * max = subst (λ (m : ℕ). length ≤ m * max) (sym here) (reaches_end length max some) in
    omega arith
adjoin_from offset length max k (suc n) some ends =
    let inside = begins_inside k length max some (omega arith) in
    let next = next_multiple k max in
    let P : ℕ → Type 0 = λ from. Adjoin from (offset + length) (map (piece_at offset length max) (range_with_len (k + 1) n)) in
    (omega arith, subst P (omega arith) (adjoin_from offset length max (k + 1) n some (omega arith)))

abbrev Sized : ℕ → Piece → Type 0
Sized max p = (0 < p.length) × (p.length ≤ max)

abbrev FullUnlessLast : ℕ → Piece → Type 0
FullUnlessLast max p = p.last ≡ false → p.length ≡ max

sizes_from : (offset length max k n : ℕ) → 0 < max → k + n ≡ piece_count length max → All (λ p. (0 < p.length) × (p.length ≤ max)) (map (piece_at offset length max) (range_with_len k n))
sizes_from offset length max k zero some ends = All-nil (Sized max)
sizes_from offset length max k (suc n) some ends =
    let inside = begins_inside k length max some (omega arith) in
    All-cons (Sized max) (piece_at offset length max k) (map (piece_at offset length max) (range_with_len (k + 1) n)) (omega arith, omega arith) (sizes_from offset length max (k + 1) n some (omega arith))

apart_by_test : (a b : ℕ) → eqb a b ≡ false → a ≢ b
apart_by_test a b test = grind (arith, nat_tests)

same_by_test : (a b : ℕ) → a ≡ b → eqb a b ≡ true
same_by_test a b same = grind (arith, nat_tests)

other_by_test : (a b : ℕ) → a < b → eqb a b ≡ false
other_by_test a b below = grind (arith, nat_tests)

full_from : (offset length max k n : ℕ) → 0 < max → k + n ≡ piece_count length max → All (λ p. p.last ≡ false → p.length ≡ max) (map (piece_at offset length max) (range_with_len k n))
full_from offset length max k zero some ends = All-nil (FullUnlessLast max)
full_from offset length max k (suc n) some ends =
    All-cons (FullUnlessLast max) (piece_at offset length max k) (map (piece_at offset length max) (range_with_len (k + 1) n)) full_here (full_from offset length max (k + 1) n some (omega arith))
  where
    full_here : eqb (k + 1) (piece_count length max) ≡ false → min max (length - k * max) ≡ max
    full_here test =
        let other = apart_by_test (k + 1) (piece_count length max) test in
        let full = full_inside k length max some (omega arith) in
        omega arith

numbered_from : (offset length max k n : ℕ) → Numbered k (map (piece_at offset length max) (range_with_len k n))
numbered_from offset length max k zero = tt
numbered_from offset length max k (suc n) = (refl, numbered_from offset length max (k + 1) n)

marked_from : (offset length max k n : ℕ) → k + n ≡ piece_count length max → LastMarked (map (piece_at offset length max) (range_with_len k n))
marked_from offset length max k zero ends = tt
marked_from offset length max k (suc zero) ends = same_by_test (k + 1) (piece_count length max) (omega arith)
marked_from offset length max k (suc (suc n)) ends =
    (other_by_test (k + 1) (piece_count length max) (omega arith), marked_from offset length max (k + 1) (suc n) (omega arith))

pub covers_all : (offset length max count : ℕ) → 1 ≤ max → count ≡ piece_count length max → Covers offset length max (map (piece_at offset length max) (range_with_len 0 (count - 0)))
covers_all offset length max count some counted =
    let P : ℕ → Type 0 = λ n. Covers offset length max (map (piece_at offset length max) (range_with_len 0 n)) in
    subst P (omega (arith, counted)) all
  where
    from_start : 0 + piece_count length max ≡ piece_count length max
    from_start = omega arith

    all : Covers offset length max (map (piece_at offset length max) (range_with_len 0 (piece_count length max)))
    all = record {
      adjoin = let P : ℕ → Type 0 = λ from. Adjoin from (offset + length) (map (piece_at offset length max) (range_with_len 0 (piece_count length max))) in
          subst P (omega arith) (adjoin_from offset length max 0 (piece_count length max) some from_start);
      sizes = sizes_from offset length max 0 (piece_count length max) some from_start;
      full = full_from offset length max 0 (piece_count length max) some from_start;
      numbered = numbered_from offset length max 0 (piece_count length max);
      marked = marked_from offset length max 0 (piece_count length max) from_start;
    }

pub shorter : (all rest : List Piece) (p : Piece) → all ≡ p ∷ rest → length rest < length all
shorter all rest p is = subst (λ (xs : List Piece). length rest < length xs) (sym is) one_more
  where
    one_more : length rest < length (p ∷ rest)
    one_more = grind (arith, common_steps)
