-- What `write_pdu` appends, piece by piece, is the encoding.
use Rattle.std.proofs.Common.{◌≡◌, ℕ, ◌<◌, List, [], ◌∷◌, ◌++◌, length, take, replicate, zero, suc, refl, append_assoc, arith}
use Rattle.oi_pdu.specs.Segments.{cells, padding}
use Rattle.oi_pdu.specs.declared.basic.BasicHeader.{BasicHeader}

-- fewer than four zero bytes
pub zeros : (n : ℕ) → n < 4 → take {A = ℕ} n (0 ∷ 0 ∷ 0 ∷ []) ≡ replicate n 0
zeros zero h = refl
zeros (suc zero) h = refl
zeros (suc (suc zero)) h = refl
zeros (suc (suc (suc zero))) h = refl
zeros (suc (suc (suc (suc n)))) h = absurd (omega arith)

-- a header, a payload and its padding, appended one after another
pub written : (old s0 s1 s2 s3 piece payload : List ℕ) (made wanted : BasicHeader) (pad : ℕ) → s0 ≡ old → s1 ≡ s0 ++ cells made (length piece) → s2 ≡ s1 ++ piece → s3 ≡ s2 ++ take {A = ℕ} pad (0 ∷ 0 ∷ 0 ∷ []) → piece ≡ payload → made ≡ wanted → pad ≡ padding (length piece) → s3 ≡ old ++ (cells wanted (length payload) ++ payload ++ replicate (padding (length payload)) 0)
written old s0 s1 s2 s3 piece payload made wanted pad e0 e1 e2 e3 ep em en =
    rw (e3, e2, e1, e0, en, ep, em, zeros (padding (length payload)) (omega arith)) (simp append_assoc)
