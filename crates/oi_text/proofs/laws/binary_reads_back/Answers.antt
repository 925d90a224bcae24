use Rattle.std.proofs.Common.{◌≡◌, ℕ, Bool, true, false, List, [], ◌∷◌, Ok, refl, sym, ◌∙◌, ap, MatchBool, ◌==◌, ◌||◌}
use Rattle.hex.specs.Hex.{decode_of}
use Rattle.hex.proofs.HexLemmas.{decode_of-encode_lower}
use Rattle.base64.specs.Engines.{standard}
use Rattle.base64.specs.GeneralPurpose.{encode_of, decode_of as base64_of}
use Rattle.base64.proofs.EngineFacts.{decode_of-encode_of}
use Rattle.oi_text.specs.Binary.{IsHex, IsBase64, IsBinary}
use Rattle.oi_text.proofs.laws.binary_reads_back.Goals as goal

pub returns-clause-written : goal.returns-clause-written
returns-clause-written c = λ bytes fits. (refl, decode_of-encode_lower bytes fits)

one_body : (x y : Bool) (body bytes others : List ℕ) → MatchBool x (IsHex body bytes) (MatchBool y (IsBase64 body bytes) ⊥)
    → MatchBool x (IsHex body others) (MatchBool y (IsBase64 body others) ⊥) → bytes ≡ others
one_body true y body bytes others a b =
    let same : decode_of body ≡ Ok bytes = a in
    let again : decode_of body ≡ Ok others = b in
    cc
one_body false true body bytes others a b =
    let same = decode_of-encode_of standard bytes refl a.0 in
    let again = decode_of-encode_of standard others refl b.0 in
    let text = sym a.1 ∙ b.1 in
    let both : base64_of standard (encode_of standard bytes) ≡ base64_of standard (encode_of standard others) = ap (λ (t : List ℕ). base64_of standard t) text in
    cc (same, again, both)
one_body false false body bytes others a b = absurd a

one_value : (value bytes others : List ℕ) → IsBinary value bytes → IsBinary value others → bytes ≡ others
one_value [] bytes others a b = absurd a
one_value (first ∷ []) bytes others a b = absurd a
one_value (first ∷ letter ∷ body) bytes others a b = one_body (letter == 120 || letter == 88) (letter == 98 || letter == 66) body bytes others a.1 b.1

pub returns-clause-one : goal.returns-clause-one
returns-clause-one c = one_value
