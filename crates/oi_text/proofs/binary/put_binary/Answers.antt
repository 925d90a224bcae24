use Rattle.std.proofs.Common.{◌≡◌, ℕ, ◌-◌, Result, Ok, Err, IsOk, OnOk, ◌≤◌, List, [], ◌∷◌, ◌++◌, length, set, ap, ◌∙◌, arith}
use Rattle.std.proofs.lemmas.List.{append-nil, drop_all, length-take, length-drop, length-set}
use Rattle.std.proofs.lemmas.Bool.{false≢true}
use Rattle.hex.specs.Hex.{encode_lower}
use borrow.Rule.Slice.PartMut.{put_mid}
use Rattle.oi_text.proofs.binary.put_binary.Goals as goal

put_whole : (p ys : List ℕ) → 2 ≤ length p → put_mid 2 (length (set (set p 0 48) 1 120) - 2) (set (set p 0 48) 1 120) ys ≡ 48 ∷ 120 ∷ ys
put_whole [] ys long = absurd (omega arith)
put_whole (a ∷ []) ys long = absurd (omega arith)
put_whole (a ∷ b ∷ rest) ys long =
    ap (λ (t : List ℕ). 48 ∷ 120 ∷ (ys ++ t)) (drop_all (length (48 ∷ 120 ∷ rest) - 2) rest (omega arith)) ∙ ap (λ (t : List ℕ). 48 ∷ 120 ∷ t) (append-nil ys)

from_ok : {E : Type 0} (r : Result (Unit {0}) E) (P : Type 0) → IsOk r → OnOk r P → P
from_ok (Ok u) P is written = written
from_ok (Err e) P is written = absurd (false≢true is)

pub returns : goal.returns
returns c =
    let written : c.encode_to_slice.new.output ≡ encode_lower c.args.bytes.now =
    from_ok c.encode_to_slice.result (c.encode_to_slice.new.output ≡ encode_lower c.args.bytes.now) (c.encode_to_slice.ensures.fits.1 (simp (length-take, length-drop, length-set) (omega arith))) c.encode_to_slice.ensures.written in
    put_whole c.args.place.now c.encode_to_slice.new.output (omega arith) ∙ ap (λ (t : List ℕ). 48 ∷ 120 ∷ t) written
