-- A PDU in parts.
use Rattle.std.proofs.Common.{ℕ, zero, suc, ◌≡◌, ◌≤◌, ◌<◌, List, [], ◌∷◌, ◌++◌, length, take, drop, replicate, refl, ap, sym, ◌∙◌, arith, append_assoc, append-nil}
use Rattle.std.specs.Int.{to_be_bytes, w32}
use Rattle.oi_pdu.specs.Segments.{cells, padding, words}
use Rattle.oi_pdu.specs.Table.{layout}
use Rattle.oi_pdu.specs.Wire.{encoding}
use Rattle.oi_pdu.specs.declared.basic.BasicHeader.{BasicHeader}
use Rattle.oi_pdu.specs.declared.header.Header.{Header}

-- what stands behind the length
abbrev pub behind_length : BasicHeader → List ℕ
behind_length b = b.lun ++ (words b.tag b.word20 b.word24 b.word28 ++ b.tail)

cells_are : (b : BasicHeader) (n : ℕ) → cells b n ≡ (b.first ∷ b.flags ∷ b.two ∷ b.three ∷ []) ++ (to_be_bytes w32 n ++ behind_length b)
unfolding cells
cells_are b n = simp append_assoc

bare_is : (b : BasicHeader) → (cells b 0 ++ []) ++ [] ≡ b.first ∷ b.flags ∷ b.two ∷ b.three ∷ (to_be_bytes w32 0 ++ behind_length b)
bare_is b = append-nil (cells b 0 ++ []) ∙ append-nil (cells b 0) ∙ cells_are b 0

pub long_header : (h : Header) → 8 ≤ length (encoding (record { head = h; payload = [] }))
long_header h = rw (bare_is (layout h)) (omega arith)

-- a header with another length of its data
resized : (b : BasicHeader) (n : ℕ) (header rest : List ℕ) → header ≡ (cells b 0 ++ []) ++ []
    → take 4 header ++ (to_be_bytes w32 n ++ (drop 8 header ++ rest)) ≡ cells b n ++ rest
resized b n header rest is =
    ap (λ (z : List ℕ). take 4 z ++ (to_be_bytes w32 n ++ (drop 8 z ++ rest))) (is ∙ bare_is b)
    ∙ ap (λ (z : List ℕ). b.first ∷ b.flags ∷ b.two ∷ b.three ∷ z) (sym (append_assoc (to_be_bytes w32 n) (behind_length b) rest))
    ∙ sym (ap (λ (z : List ℕ). z ++ rest) (cells_are b n))

pub parts_joined : (old a b c d e header size payload : List ℕ) (h : Header) → header ≡ encoding (record { head = h; payload = [] })
    → size ≡ to_be_bytes w32 (length payload) → a ≡ old ++ take 4 header → b ≡ a ++ size → c ≡ b ++ drop 8 header → d ≡ c ++ payload
    → e ≡ d ++ replicate (padding (length payload)) 0 → e ≡ old ++ encoding (record { head = h; payload = payload })
parts_joined old a b c d e header size payload h is sized first second third fourth fifth =
    rw (fifth, fourth, third, second, first, sized)
    (simp append_assoc (ap (λ (z : List ℕ). old ++ z) (resized (layout h) (length payload) header (payload ++ replicate (padding (length payload)) 0) is)))

pub zeros : (k : ℕ) → k < 4 → take {A = ℕ} k (0 ∷ 0 ∷ 0 ∷ []) ≡ replicate k 0
zeros zero h = refl
zeros (suc zero) h = refl
zeros (suc (suc zero)) h = refl
zeros (suc (suc (suc zero))) h = refl
zeros (suc (suc (suc (suc k)))) h = absurd (omega arith)
