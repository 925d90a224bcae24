-- What is kept of the PDU under way, over one more chunk.
use Rattle.std.proofs.Common.{ℕ, ◌+◌, ◌-◌, ◌<◌, ◌≤◌, List, [], ◌++◌, ◌≡◌, ◌∙◌, sym, refl, ap, subst, length, take, drop, arith, None}
use Rattle.std.proofs.lemmas.List.{length-take-le, length-append, take_all, drop_all, take-append-le, take-append-drop, append_assoc, take_at}
use Rattle.oi_pdu.specs.Segments.{additional, basic_at, data_len}
use Rattle.oi_pdu.specs.Table.{bad_header, header_of}
use Rattle.oi_pdu.specs.Wire.{head_of, whole_len, Decodes}
use Rattle.oi_pdu.specs.declared.codec.Pdu.{Pdu}
use Rattle.oi_stream.specs.Framing.{IsFrame}
use Rattle.oi_stream.specs.Feeding.{IsKept}
use Rattle.oi_stream.proofs.Fronts.{middle_over, take_sum}

-- the bytes so far, while they are all of the header
pub joined : (limit n k : ℕ) (rest chunk h h' x : List ℕ) → IsKept limit rest (take n h) x n → n < 48 → take (n + k) h' ≡ take n h ++ take k chunk → rest ++ take k chunk ≡ take (n + k) h'
joined limit n k rest chunk h h' x kept below bytes =
    let e : take n h ≡ rest = kept.header ∙ take_all 48 rest (omega (arith, kept.counted)) in
    sym (bytes ∙ ap (λ (z : List ℕ). z ++ take k chunk) e)

pub counted : (limit n k : ℕ) (rest chunk h x : List ℕ) → IsKept limit rest h x n → k ≤ length chunk → n + k ≡ length (rest ++ take k chunk)
counted limit n k rest chunk h x kept within =
    omega (arith, kept.counted, length-append rest (take k chunk), length-take-le k chunk within)

pub header_short : (limit n k : ℕ) (rest chunk h h' x : List ℕ) → IsKept limit rest (take n h) x n → k ≤ length chunk → take (n + k) h' ≡ take n h ++ take k chunk → n + k < 48 → IsKept limit (rest ++ take k chunk) (take (n + k) h') x (n + k)
header_short limit n k rest chunk h h' x kept within bytes below =
    let len = counted limit n k rest chunk (take n h) x kept within in
    record {
      counted = len;
      header = sym (joined limit n k rest chunk h h' x kept (omega arith) bytes) ∙ sym (take_all 48 (rest ++ take k chunk) (omega (arith, len)));
      blank = λ _. kept.blank (omega (arith, kept.counted));
      opened = λ there. absurd (omega (arith, len, there));
    }

-- the header, once it is whole
pub header_is : (limit n k : ℕ) (rest chunk h h' x : List ℕ) → IsKept limit rest (take n h) x n → n < 48 → take (n + k) h' ≡ take n h ++ take k chunk → n + k ≡ 48 → length h' ≡ 48 → rest ++ take k chunk ≡ h'
header_is limit n k rest chunk h h' x kept below bytes there long =
    joined limit n k rest chunk h h' x kept below bytes ∙ take_all (n + k) h' (omega arith)

pub header_whole : (limit n k : ℕ) (rest chunk h h' x : List ℕ) → IsKept limit rest (take n h) x n → n < 48 → take (n + k) h' ≡ take n h ++ take k chunk → n + k ≡ 48 → length h' ≡ 48 → bad_header (basic_at h') ≡ None → data_len h' ≤ limit → IsKept limit (rest ++ take k chunk) (take 48 h') [] 48
header_whole limit n k rest chunk h h' x kept below bytes there long good fits =
    let e = header_is limit n k rest chunk h h' x kept below bytes there long in
    let same : take 48 h' ≡ h' = take_all 48 h' (omega arith) in
    let made : IsKept limit h' (take 48 h') [] 48 = record {
      counted = sym long;
      header = refl;
      blank = λ _. refl;
      opened = λ _. record {
        good = subst (λ (z : List ℕ). bad_header (basic_at z) ≡ None) (sym same) good;
        fits = subst (λ (z : List ℕ). data_len z ≤ limit) (sym same) fits;
        segment = sym (ap (λ (z : List ℕ). take (data_len (take 48 h')) z) (drop_all (48 + additional (take 48 h')) h' (omega arith)) ∙ take_all (data_len (take 48 h')) [] (omega arith));
      };
    } in
    subst (λ (z : List ℕ). IsKept limit z (take 48 h') [] 48) (sym e) made

-- the header of all bytes that came
pub header_there : (limit n k : ℕ) (rest chunk h h' x : List ℕ) → IsKept limit rest (take n h) x n → n < 48 → take (n + k) h' ≡ take n h ++ take k chunk → n + k ≡ 48 → length h' ≡ 48 → (48 ≤ length (rest ++ chunk)) × (h' ≡ head_of (rest ++ chunk))
header_there limit n k rest chunk h h' x kept below bytes there long =
    let e = header_is limit n k rest chunk h h' x kept below bytes there long in
    let all : rest ++ chunk ≡ h' ++ drop k chunk =
    ap (λ (z : List ℕ). rest ++ z) (sym (take-append-drop k chunk)) ∙ sym (append_assoc rest (take k chunk) (drop k chunk)) ∙ ap (λ (z : List ℕ). z ++ drop k chunk) e in
    (omega (arith, ap length all, length-append h' (drop k chunk)), sym (ap (take 48) all ∙ take_at h' (drop k chunk) 48 long))

middle_step : (size at n : ℕ) (rest chunk x : List ℕ) → n ≡ length rest → x ≡ take size (drop at rest) → x ++ take (size - length x) (drop (at - n) chunk) ≡ take size (drop at (rest ++ chunk))
middle_step size at n rest chunk x e f =
    rw (f, e) (sym (middle_over size at rest chunk))

-- more bytes behind a header that is there
pub more_data : (limit n k : ℕ) (rest chunk h x x' : List ℕ) → IsKept limit rest (take n h) x n → 48 ≤ n → length h ≡ 48 → k ≤ length chunk → x' ≡ x ++ take (data_len h - length x) (drop ((48 + additional h) - n) (take k chunk)) → IsKept limit (rest ++ take k chunk) (take (n + k) h) x' (n + k)
more_data limit n k rest chunk h x x' kept begun long within grown =
    let len = counted limit n k rest chunk (take n h) x kept within in
    let here : h ≡ head_of rest = sym (take_all n h (omega arith)) ∙ kept.header in
    let still : head_of (rest ++ take k chunk) ≡ head_of rest = take-append-le 48 rest (take k chunk) (omega (arith, kept.counted)) in
    let there : h ≡ head_of (rest ++ take k chunk) = here ∙ sym still in
    let was = kept.opened (omega (arith, kept.counted)) in
    let old : x ≡ take (data_len h) (drop (48 + additional h) rest) = subst (λ (z : List ℕ). x ≡ take (data_len z) (drop (48 + additional z) rest)) (sym here) was.segment in
    let now : x' ≡ take (data_len h) (drop (48 + additional h) (rest ++ take k chunk)) =
    grown ∙ middle_step (data_len h) (48 + additional h) n rest (take k chunk) x kept.counted old in
    record {
      counted = len;
      header = take_all (n + k) h (omega arith) ∙ there;
      blank = λ below. absurd (omega (arith, len, below));
      opened = λ _. record {
        good = subst (λ (z : List ℕ). bad_header (basic_at z) ≡ None) (sym still) was.good;
        fits = subst (λ (z : List ℕ). data_len z ≤ limit) (sym still) was.fits;
        segment = subst (λ (z : List ℕ). x' ≡ take (data_len z) (drop (48 + additional z) (rest ++ take k chunk))) there now;
      };
    }

-- a whole PDU
pub frame_of : (limit n : ℕ) (rest h x : List ℕ) (p : Pdu) → IsKept limit rest (take n h) x n → length h ≡ 48 → 48 ≤ n → n ≡ whole_len h → p.head ≡ header_of (basic_at h) → p.payload ≡ x → IsFrame limit rest p
frame_of limit n rest h x p kept long begun all head payload =
    let here : h ≡ head_of rest = sym (take_all n h (omega arith)) ∙ kept.header in
    let was = kept.opened (omega (arith, kept.counted)) in
    let decoded : Decodes rest p = record {
      whole = sym kept.counted ∙ all ∙ ap whole_len here;
      good = was.good;
      head = head ∙ ap (λ (z : List ℕ). header_of (basic_at z)) here;
      payload = payload ∙ was.segment;
    } in
    record { decodes = decoded; fits = was.fits }

-- two chunks in a row are one
pub two_chunks : (rest chunk : List ℕ) (a b : ℕ) → rest ++ take a chunk ++ take b (drop a chunk) ≡ rest ++ take (a + b) chunk
two_chunks rest chunk a b =
    append_assoc rest (take a chunk) (take b (drop a chunk)) ∙ ap (λ (z : List ℕ). rest ++ z) (sym (take_sum a b chunk))
