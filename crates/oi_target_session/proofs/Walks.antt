-- The data of a command, from a place on.
use Rattle.std.proofs.Common.{ℕ, zero, suc, ◌≡◌, ◌≤◌, ◌<◌, ◌+◌, ◌%◌, ◌^◌, List, [], ◌∷◌, ◌++◌, length, drop, take, refl, arith, sym, ◌∙◌, append_assoc, append-nil, length-drop, Bool, true, false, ◌==◌}
use Rattle.oi_base.specs.declared.tag.Tag.{Tag}
use Rattle.oi_pdu.specs.Wire.{encoding}
use Rattle.oi_pdu.specs.declared.codec.Pdu.{Pdu}
use Rattle.oi_pdu.specs.declared.header.Header.{Header}
use Rattle.oi_recovery.specs.declared.hit.Residual.{Residual}
use Rattle.oi_target_session.specs.Answers.{bytes_of}
use Rattle.oi_target_session.specs.Sequences.{data_pdus, piece_head, piece_pdu, piece_size}
use Rattle.oi_target_session.specs.declared.limits.Limits.{Limits}
use Rattle.oi_target_session.specs.declared.limits.Numbers.{Numbers}

-- what was written, followed by the pieces that are left, is the whole
pub record Remains (l : Limits) (n : Numbers) (t : Tag) (r : Residual) (number at : ℕ) (rest written whole : List ℕ) : Type 0 where
  pub most : ℕ
  pub enough : length rest ≤ most
  pub joined : written ++ bytes_of (data_pdus l n t r most number at rest) ≡ whole

-- one piece further
pub remains_after : (l : Limits) (n : Numbers) (t : Tag) (r : Residual) (number at size : ℕ) (rest written whole after left : List ℕ) (p : Pdu)
    → 0 < length rest → (1 ≤ length rest → 1 ≤ size) → size ≡ piece_size l at (length rest) → p ≡ piece_pdu l n t r number at rest
    → after ≡ written ++ encoding p → left ≡ drop size rest → Remains l n t r number at rest written whole
    → Remains l n t r ((number + 1) % 2 ^ 32) (at + size) left after whole
remains_after l n t r number at size [] written whole after left p some least is one out behind w = absurd (omega arith)
remains_after l n t r number at size (x ∷ xs) written whole after left p some least is one out behind w = go w.most w.enough w.joined where
  go : (m : ℕ) → length (x ∷ xs) ≤ m → written ++ bytes_of (data_pdus l n t r m number at (x ∷ xs)) ≡ whole
      → Remains l n t r ((number + 1) % 2 ^ 32) (at + size) left after whole
  go zero enough joined = absurd (omega arith)
  go (suc m) enough joined = record {
    most = m;
    enough = rw (behind, length-drop size (x ∷ xs)) (omega arith);
    joined = rw (out, one, behind, is) (append_assoc written (encoding (piece_pdu l n t r number at (x ∷ xs)))
        (bytes_of (data_pdus l n t r m ((number + 1) % 2 ^ 32) (at + piece_size l at (length (x ∷ xs))) (drop (piece_size l at (length (x ∷ xs))) (x ∷ xs)))) ∙ joined);
  }

-- nothing is left
pub remains_none : (l : Limits) (n : Numbers) (t : Tag) (r : Residual) (number at : ℕ) (rest written whole : List ℕ)
    → length rest ≡ 0 → Remains l n t r number at rest written whole → written ≡ whole
remains_none l n t r number at [] written whole none w = go w.most w.joined where
  go : (m : ℕ) → written ++ bytes_of (data_pdus l n t r m number at []) ≡ whole → written ≡ whole
  go zero joined = sym (append-nil written) ∙ joined
  go (suc m) joined = sym (append-nil written) ∙ joined
remains_none l n t r number at (x ∷ xs) written whole none w = absurd (omega arith)

-- where the rest ends
pub place_after : (at size total : ℕ) (rest left : List ℕ) → at + length rest ≡ total → size ≤ length rest → left ≡ drop size rest → at + size + length left ≡ total
place_after at size total rest left ends within behind = rw (behind, length-drop size rest) (omega arith)

-- a list that is not empty
pub some_left : (rest : List ℕ) (empty : Bool) → empty ≡ (length rest == 0) → empty ≡ false → 0 < length rest
some_left [] empty is no_empty = absurd (grind (arith, is, no_empty))
some_left (x ∷ xs) empty is no_empty = omega arith

-- a list that is empty
pub none_left : (rest : List ℕ) (empty : Bool) → empty ≡ (length rest == 0) → empty ≡ true → length rest ≡ 0
none_left [] empty is empties = refl
none_left (x ∷ xs) empty is empties = absurd (grind (arith, is, empties))

-- the piece in its parts
pub piece_is : (l : Limits) (n : Numbers) (t : Tag) (r : Residual) (number at size : ℕ) (rest : List ℕ) (h : Header)
    → h ≡ piece_head l n t r number at (length rest) → size ≡ piece_size l at (length rest)
    → record { head = h; payload = take size rest } ≡ piece_pdu l n t r number at rest
piece_is l n t r number at size rest h is sized = rw (is, sized)
