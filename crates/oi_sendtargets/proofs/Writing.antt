-- How portals are written: those of one target that follow one another are one target.
use Rattle.std.proofs.Common.{◌≡◌, ◌<◌, ◌≤◌, ◌+◌, ◌∙◌, ℕ, suc, Bool, true, false, cond, List, [], ◌∷◌, ◌++◌, length, take, drop, get_or, map, nat_eq, refl, sym, ap, arith, append_assoc}
use Rattle.std.specs.Cmp.Lexicographic.{pointwise}
use Rattle.std.specs.List.{prefix_len}
use Rattle.std.proofs.lemmas.List.{append-nil, map-append, take_more}
use Rattle.std.proofs.lemmas.List.Concat.{flat_map-append}
use Rattle.std.proofs.lemmas.Slice.Eq.{bytes_eq-Decides}
use Rattle.oi_text.specs.Pairs.{text_of, pair_text, spelled}
use Rattle.oi_text.specs.declared.pairs.Pair.{Pair}
use Rattle.oi_sendtargets.specs.declared.found.Found.{Found}
use Rattle.oi_sendtargets.specs.Payloads.{target_name, target_address, Target, pair_of, target_pairs, listing_pairs, payload_of}
use Rattle.oi_sendtargets.specs.Listings.{address_text, target_at, joined, targets_of}
use Rattle.oi_sendtargets.specs.Steps.{has_name}

-- one portal more of a target
pub address_written : (name : List ℕ) (places : List Found) (i : ℕ) (f : Found) → i < length places → f ≡ get_or places i f
    → text_of (target_pairs (target_at name (take (i + 1) places))) ≡ text_of (target_pairs (target_at name (take i places))) ++ spelled target_address (address_text f)
address_written name places i f within is =
    let pair : Found → Pair = λ g. pair_of target_address (address_text g) in
    let front = take i places in
    let next : take (i + 1) places ≡ front ++ f ∷ [] = take_more places i f within ∙ ap (λ (g : Found). front ++ g ∷ []) (sym is) in
    let pairs : target_pairs (target_at name (front ++ f ∷ [])) ≡ target_pairs (target_at name front) ++ pair f ∷ [] =
    ap (λ (z : List (List ℕ)). pair_of target_name name ∷ map (pair_of target_address) z) (map-append address_text front (f ∷ []))
    ∙ ap (λ (z : List Pair). pair_of target_name name ∷ z) (map-append (pair_of target_address) (map address_text front) (address_text f ∷ [])) in
    ap (λ (z : List Found). text_of (target_pairs (target_at name z))) next ∙ ap text_of pairs ∙ flat_map-append pair_text (target_pairs (target_at name front)) (pair f ∷ [])
    ∙ ap (λ (z : List ℕ). text_of (target_pairs (target_at name front)) ++ z) (append-nil (pair_text (pair f)))

-- the first target of those that are written

abbrev same : Found → List Found → ℕ
same f fs = prefix_len (has_name f.target) fs

joined_at : (f : Found) (t : Target) (ts : List Target) (b : Bool) → pointwise nat_eq t.name f.target ≡ b
    → joined f (t ∷ ts) ≡ cond b (record { name = t.name; addresses = address_text f ∷ t.addresses } ∷ ts) (target_at f.target (f ∷ []) ∷ t ∷ ts)
joined_at f t ts b e = ap (λ (z : Bool). cond z (record { name = t.name; addresses = address_text f ∷ t.addresses } ∷ ts) (target_at f.target (f ∷ []) ∷ t ∷ ts)) e

run_step : (f g : Found) (gs : List Found) (b : Bool) → has_name f.target g ≡ b → targets_of (g ∷ gs) ≡ target_at g.target (g ∷ take (same g gs) gs) ∷ targets_of (drop (same g gs) gs)
    → joined f (target_at g.target (g ∷ take (same g gs) gs) ∷ targets_of (drop (same g gs) gs))
    ≡ target_at f.target (f ∷ take (cond b (1 + same f gs) 0) (g ∷ gs)) ∷ targets_of (drop (cond b (1 + same f gs) 0) (g ∷ gs))
run_step f g gs true e whole =
    let name : g.target ≡ f.target = (bytes_eq-Decides g.target f.target).0 e in
    let one : suc (same f gs) ≡ 1 + same f gs = omega arith in
    let made : List ℕ → ℕ → List Target = λ n k. record { name = n; addresses = address_text f ∷ address_text g ∷ map address_text (take k gs) } ∷ targets_of (drop k gs) in
    joined_at f (target_at g.target (g ∷ take (same g gs) gs)) (targets_of (drop (same g gs) gs)) true e
    ∙ ap (λ (n : List ℕ). made n (prefix_len (has_name n) gs)) name
    ∙ ap (λ (k : ℕ). target_at f.target (f ∷ take k (g ∷ gs)) ∷ targets_of (drop k (g ∷ gs))) one
run_step f g gs false e whole =
    joined_at f (target_at g.target (g ∷ take (same g gs) gs)) (targets_of (drop (same g gs) gs)) false e ∙ ap (λ (ts : List Target). target_at f.target (f ∷ []) ∷ ts) (sym whole)

run : (f : Found) (fs : List Found) → targets_of (f ∷ fs) ≡ target_at f.target (f ∷ take (same f fs) fs) ∷ targets_of (drop (same f fs) fs)
run f [] = refl
run f (g ∷ gs) = ap (joined f) (run g gs) ∙ run_step f g gs (has_name f.target g) refl (run g gs)

first_passes : (f : Found) → has_name f.target f ≡ true
first_passes f = (bytes_eq-Decides f.target f.target).1 refl

count_is : (f : Found) (fs : List Found) → same f (f ∷ fs) ≡ suc (same f fs)
count_is f fs = let e = ap (λ (b : Bool). cond b (1 + same f fs) 0) (first_passes f) in omega (arith, e)

-- what is written of one target, and then of the others
pub write_on : (old out new written left whole : List ℕ) → (begun : List ℕ) × (out ≡ old ++ begun) → new ≡ out ++ written → out ++ (written ++ left) ≡ old ++ whole
    → record { begun : (begun : List ℕ) × (new ≡ old ++ begun); whole : new ++ left ≡ old ++ whole }
write_on old out new written left whole (begun, is) grown e = record {
  begun = (begun ++ written, grown ∙ ap (λ (z : List ℕ). z ++ written) is ∙ append_assoc old begun written);
  whole = ap (λ (z : List ℕ). z ++ left) grown ∙ append_assoc out written left ∙ e;
}

-- the first one is counted
pub some_counted : (found : List Found) (f : Found) (n : ℕ) → 1 ≤ length found → f ≡ get_or found 0 f → n ≡ prefix_len (has_name f.target) found → 1 ≤ n
some_counted [] f n some is count = absurd (omega arith)
some_counted (g ∷ fs) f n some is count =
    let all : n ≡ suc (same f fs) = count ∙ ap (λ (h : Found). prefix_len (has_name f.target) (h ∷ fs)) (sym is) ∙ count_is f fs in omega arith

-- the first target's text, and that of the others
pub target_written : (found : List Found) (f : Found) (n : ℕ) → 1 ≤ length found → f ≡ get_or found 0 f → n ≡ prefix_len (has_name f.target) found
    → payload_of (targets_of found) ≡ text_of (target_pairs (target_at f.target (take n found))) ++ payload_of (targets_of (drop n found))
target_written [] f n some is count = absurd (omega arith)
target_written (g ∷ fs) f n some is count =
    let all : n ≡ suc (same f fs) = count ∙ ap (λ (h : Found). prefix_len (has_name f.target) (h ∷ fs)) (sym is) ∙ count_is f fs in
    let head = target_at f.target (f ∷ take (same f fs) fs) in
    let rest = targets_of (drop (same f fs) fs) in
    ap (λ (h : Found). payload_of (targets_of (h ∷ fs))) (sym is) ∙ ap payload_of (run f fs) ∙ flat_map-append pair_text (target_pairs head) (listing_pairs rest)
    ∙ ap (λ (h : Found). text_of (target_pairs (target_at f.target (h ∷ take (same f fs) fs))) ++ payload_of rest) is
    ∙ ap (λ (k : ℕ). text_of (target_pairs (target_at f.target (take k (g ∷ fs)))) ++ payload_of (targets_of (drop k (g ∷ fs)))) (sym all)
