-- The pieces of a command's data fit in the room that is made for them.
use Rattle.std.proofs.Common.{ℕ, zero, suc, ◌≡◌, ◌≤◌, ◌<◌, ◌+◌, ◌-◌, ◌*◌, ◌/◌, ◌%◌, ◌⊎◌, inl, inr, List, [], ◌∷◌, ◌++◌, length, min, take, drop, refl, ap, sym, subst, ◌∙◌, arith, le_trans, zero-le, length-append, length-drop, length-take, drop_of_length-le, mod-eq_of_lt, div-mul-le_self}
use Rattle.std.proofs.Math.Nat.{div-eq-sub-div, mod-add-mod, mod_self, zero-mod}
use Rattle.std.proofs.lemmas.Bool.{cases_lt}
use Rattle.std.proofs.lemmas.List.{length-replicate}
use Rattle.std.proofs.lemmas.Nat.{le-div}
use Rattle.oi_base.specs.Serials.{successor}
use Rattle.oi_base.specs.declared.tag.Tag.{Tag}
use Rattle.oi_pdu.specs.Segments.{cells, words}
use Rattle.oi_pdu.specs.Table.{layout}
use Rattle.oi_pdu.specs.Wire.{encoding}
use Rattle.oi_recovery.specs.declared.hit.Residual.{Residual}
use Rattle.oi_target_session.specs.Answers.{bytes_of}
use Rattle.oi_target_session.specs.Sequences.{AreLimits, RoomIsEnough, data_pdus, piece_pdu, piece_size}
use Rattle.oi_target_session.specs.declared.limits.Limits.{Limits}
use Rattle.oi_target_session.specs.declared.limits.Numbers.{Numbers}

div_grows : (n m k : ℕ) → 0 < k → n ≤ m → n / k ≤ m / k
div_grows n m k some most = le-div (n / k) m k some (le_trans (div-mul-le_self n k) most)

-- the place in a sequence behind a piece that does not end it
place_within : (b at p : ℕ) → at % b + p < b → (at + p) % b ≡ at % b + p
place_within b at p within = sym (mod-add-mod at b p) ∙ mod-eq_of_lt within

-- and behind one that does
place_at_end : (b at p : ℕ) → at % b + p ≡ b → (at + p) % b ≡ 0
place_at_end b at p ends = sym (mod-add-mod at b p) ∙ ap (λ (z : ℕ). z % b) ends ∙ mod_self b

-- no piece lets the sequences grow
sequences_fall : (b at p left : ℕ) → 0 < b → at % b + p ≤ b → p ≤ left → ((at + p) % b + (left - p)) / b ≤ (at % b + left) / b
sequences_fall b at p left some within most = div_grows ((at + p) % b + (left - p)) (at % b + left) b some (go (cases_lt (at % b + p) b)) where
  go : (at % b + p < b) ⊎ (b ≤ at % b + p) → (at + p) % b + (left - p) ≤ at % b + left
  go (inl less) = let e : (at + p) % b ≡ at % b + p = place_within b at p less in omega arith
  go (inr more) = let e : (at + p) % b ≡ 0 = place_at_end b at p (omega arith) in omega arith

-- one that ends a sequence is one sequence less
sequence_ends : (b at p left : ℕ) → 0 < b → at % b + p ≡ b → p ≤ left → ((at + p) % b + (left - p)) / b + 1 ≡ (at % b + left) / b
sequence_ends b at p left some ends most =
    ap (λ (z : ℕ). (z + (left - p)) / b + 1) (place_at_end b at p ends)
    ∙ ap (λ (z : ℕ). z / b + 1) fewer
    ∙ sym (div-eq-sub-div some (omega arith)) where
      fewer : 0 + (left - p) ≡ at % b + left - b
      fewer = omega arith

-- behind a piece that is not the last one there is room for one piece less
pieces_fall : (s b at left p : ℕ) → 0 < s → 0 < b → p ≡ min (min s (b - at % b)) left → p < left
    → (left - p) / s + ((at + p) % b + (left - p)) / b + 1 ≤ left / s + (at % b + left) / b
pieces_fall s b at left p some burst is less = go (cases_lt p s) where
  go : (p < s) ⊎ (s ≤ p) → (left - p) / s + ((at + p) % b + (left - p)) / b + 1 ≤ left / s + (at % b + left) / b
  go (inl ends) =
      let segments : (left - p) / s ≤ left / s = div_grows (left - p) left s some (omega arith) in
      let sequences : ((at + p) % b + (left - p)) / b + 1 ≡ (at % b + left) / b = sequence_ends b at p left burst (omega arith) (omega arith) in
      omega arith
  go (inr full) =
      let whole : p ≡ s = omega arith in
      let segments : left / s ≡ (left - s) / s + 1 = div-eq-sub-div some (omega arith) in
      let same : (left - p) / s ≡ (left - s) / s = ap (λ (z : ℕ). (left - z) / s) whole in
      let sequences : ((at + p) % b + (left - p)) / b ≤ (at % b + left) / b = sequences_fall b at p left burst (omega arith) (omega arith) in
      omega arith

-- a piece is as long as its data, its header and at most three bytes of padding
piece_length : (l : Limits) (n : Numbers) (t : Tag) (r : Residual) (number at : ℕ) (rest : List ℕ)
    → length (encoding (piece_pdu l n t r number at rest)) ≤ piece_size l at (length rest) + 51
unfolding cells words layout
piece_length l n t r number at rest =
    let taken : length (take (piece_size l at (length rest)) rest) ≤ piece_size l at (length rest) = omega (arith, length-take (piece_size l at (length rest)) rest) in
    rw (length-append, length-append, length-replicate) (omega arith)

-- nothing is written where nothing is left
nothing_left : (l : Limits) (n : Numbers) (t : Tag) (r : Residual) (most number at : ℕ) (rest : List ℕ) → rest ≡ []
    → length (bytes_of (data_pdus l n t r most number at rest)) ≡ 0
nothing_left l n t r zero number at rest none = refl
nothing_left l n t r (suc most) number at rest none = rw none refl

-- from a place on
pieces_fit : (l : Limits) (n : Numbers) (t : Tag) (r : Residual) (most number at : ℕ) (rest : List ℕ) → AreLimits l
    → length (bytes_of (data_pdus l n t r most number at rest))
    ≤ length rest + (length rest / l.max_send + (at % l.max_burst + length rest) / l.max_burst + 1) * 51
pieces_fit l n t r zero number at rest limits = zero-le
pieces_fit l n t r (suc most) number at [] limits = zero-le
pieces_fit l n t r (suc most) number at (x ∷ xs) limits =
    go (cases_lt size left) (length-append first behind) (piece_length l n t r number at (x ∷ xs))
    (subst (λ (z : ℕ). length behind ≤ z + (z / l.max_send + ((at + size) % l.max_burst + z) / l.max_burst + 1) * 51) (length-drop size (x ∷ xs))
    (pieces_fit l n t r most (successor number) (at + size) (drop size (x ∷ xs)) limits)) where
      left : ℕ
      left = length (x ∷ xs)

      size : ℕ
      size = piece_size l at left

      first : List ℕ
      first = encoding (piece_pdu l n t r number at (x ∷ xs))

      behind : List ℕ
      behind = bytes_of (data_pdus l n t r most (successor number) (at + size) (drop size (x ∷ xs)))

      go : (size < left) ⊎ (left ≤ size) → length (first ++ behind) ≡ length first + length behind → length first ≤ size + 51
          → length behind ≤ (left - size) + ((left - size) / l.max_send + ((at + size) % l.max_burst + (left - size)) / l.max_burst + 1) * 51
          → length (first ++ behind) ≤ left + (left / l.max_send + (at % l.max_burst + left) / l.max_burst + 1) * 51
      go (inl less) joined one more =
          let fewer : (left - size) / l.max_send + ((at + size) % l.max_burst + (left - size)) / l.max_burst + 1 ≤ left / l.max_send + (at % l.max_burst + left) / l.max_burst
          = pieces_fall l.max_send l.max_burst at left size limits.some limits.burst refl less in
          omega arith
      go (inr last) joined one more =
          let none : length behind ≡ 0 = nothing_left l n t r most (successor number) (at + size) (drop size (x ∷ xs)) (drop_of_length-le (x ∷ xs) last) in
          omega arith

pub room_is_enough : RoomIsEnough
room_is_enough l n tag r bytes limits =
    let start : 0 % l.max_burst + length bytes ≡ length bytes = omega (arith, zero-mod l.max_burst) in
    subst (λ (z : ℕ). length (bytes_of (data_pdus l n tag r (length bytes) 0 0 bytes)) ≤ length bytes + (length bytes / l.max_send + z / l.max_burst + 1) * 51) start
    (pieces_fit l n tag r (length bytes) 0 0 bytes limits)
