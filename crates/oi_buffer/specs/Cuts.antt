-- How a write is cut: what goes with the command, what follows unasked, and the Data-Out pieces (RFC 7143, sections 4.2.5.2, 11.7 and 13.10 to 13.14).
use Rattle.std.specs.Prelude.{◌≡◌, ℕ, ◌+◌, ◌-◌, ◌*◌, ◌^◌, ◌<◌, ◌≤◌, min, true, false, List, [], ◌∷◌, length, map, ◌==◌, if◌then◌else◌, All}
use Rattle.std.specs.Int.{div_ceil}
use Rattle.std.specs.List.{range_with_len}
use Rattle.oi_base.specs.declared.login.Params.{Params}
use Rattle.oi_buffer.specs.declared.cut.Piece.{Piece}

-- bytes of a write that go with its command
abbrev pub immediate_of : ℕ → Params → ℕ
immediate_of length p = if p.immediate then min (min length p.first_burst) p.max_send else 0

-- bytes that follow without an R2T
abbrev pub unsolicited_of : ℕ → Params → ℕ
unsolicited_of length p = if p.initial_r2t then 0 else min length p.first_burst - immediate_of length p

-- how many pieces of at most max bytes a length takes
abbrev pub piece_count : ℕ → ℕ → ℕ
piece_count length max = div_ceil length max

-- piece number k of a length that is cut by max: it has max bytes, or what is left
abbrev pub piece_at : ℕ → ℕ → ℕ → ℕ → Piece
piece_at offset length max k = record { number = k; offset = offset + k * max; length = min max (length - k * max); last = k + 1 == piece_count length max }

-- all pieces, in order
abbrev pub pieces : ℕ → ℕ → ℕ → List Piece
pieces offset length max = map (piece_at offset length max) (range_with_len 0 (piece_count length max))

-- each piece begins where the one before ends, from one offset to another: no gap and no overlap
abbrev pub Adjoin : ℕ → ℕ → List Piece → Type 0
Adjoin from to [] = from ≡ to
Adjoin from to (p ∷ ps) = (p.offset ≡ from) × Adjoin (p.offset + p.length) to ps

-- the numbers go up by one
abbrev pub Numbered : ℕ → List Piece → Type 0
Numbered n [] = Unit {0}
Numbered n (p ∷ ps) = (p.number ≡ n) × Numbered (n + 1) ps

-- the last piece is marked, and no other
abbrev pub LastMarked : List Piece → Type 0
LastMarked [] = Unit {0}
LastMarked (p ∷ []) = p.last ≡ true
LastMarked (p ∷ q ∷ qs) = (p.last ≡ false) × LastMarked (q ∷ qs)

-- the pieces cover a length from an offset on, each of them with 1 to max bytes, and all but the last with max
pub record Covers (offset length max : ℕ) (ps : List Piece) : Type 0 where
  pub adjoin : Adjoin offset (offset + length) ps
  pub sizes : All (λ p. (0 < p.length) × (p.length ≤ max)) ps
  pub full : All (λ p. p.last ≡ false → p.length ≡ max) ps
  pub numbered : Numbered 0 ps
  pub marked : LastMarked ps

-- what a cutting keeps
pub record IsCutting (offset length max number count : ℕ) : Type 0 where
  pub some : 1 ≤ max
  pub fits : offset + length < 2 ^ 32
  pub counted : count ≡ piece_count length max
  pub so_far : number ≤ count
