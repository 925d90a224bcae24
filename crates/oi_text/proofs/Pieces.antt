-- Where a text has a key and its value: what the lengths of its fronts say, and that a text is one list of pairs at most.
use Rattle.std.proofs.Common.{◌≡◌, ℕ, suc, ◌+◌, ◌<◌, ◌≤◌, Bool, true, false, cond, List, [], ◌∷◌, ◌++◌, length, take, drop, get_or, refl, sym, ap, ◌∙◌, subst, arith, append_assoc, length-append}
use Rattle.std.specs.List.{list_all, prefix_len}
use Rattle.std.proofs.lemmas.Bool.{and_parts, and_from}
use Rattle.std.proofs.lemmas.Bool.Decides.{nat_tests}
use Rattle.std.proofs.lemmas.List.{take_at, drop_at, take-append-drop, drop_more, length-take, append-nil}
use Rattle.std.proofs.lemmas.List.Concat.{flat_map-append}
use Rattle.std.proofs.lemmas.List.Sums.{prefix_len_stops}
use Rattle.std.proofs.Math.Seq.{drop-append-add}
use Rattle.oi_text.specs.declared.pairs.Pair.{Pair}
use Rattle.oi_text.specs.Pairs.{is_key_byte, is_value_byte, IsPair, spelled, pair_text, text_of, ArePairs, NoPair}

-- the front that passes ends at the first byte that does not
pub prefix_len-stop : (p : ℕ → Bool) (xs : List ℕ) (y : ℕ) (ys : List ℕ) → list_all p xs ≡ true → p y ≡ false → prefix_len p (xs ++ y ∷ ys) ≡ length xs
prefix_len-stop p [] y ys all stops = rw stops refl
prefix_len-stop p (x ∷ xs) y ys all stops =
    let both = and_parts (p x) (list_all p xs) all in
    rw both.0 (omega (arith, prefix_len-stop p xs y ys both.1 stops))

front_case : (p : ℕ → Bool) (x : ℕ) (xs : List ℕ) (b : Bool) → p x ≡ b → list_all p (take (prefix_len p xs) xs) ≡ true → list_all p (take (cond b (1 + prefix_len p xs) 0) (x ∷ xs)) ≡ true
front_case p x xs true passes front =
    let one : suc (prefix_len p xs) ≡ 1 + prefix_len p xs = omega arith in
    subst (λ (n : ℕ). list_all p (take n (x ∷ xs)) ≡ true) one (and_from (p x) (list_all p (take (prefix_len p xs) xs)) passes front)
front_case p x xs false passes front = refl

-- each byte of the front that passes does
pub list_all-front : (p : ℕ → Bool) (xs : List ℕ) → list_all p (take (prefix_len p xs) xs) ≡ true
list_all-front p [] = refl
list_all-front p (x ∷ xs) = front_case p x xs (p x) refl (list_all-front p xs)

at_seam : (xs : List ℕ) (y : ℕ) (ys : List ℕ) → get_or (xs ++ y ∷ ys) (length xs) 0 ≡ y
at_seam [] y ys = refl
at_seam (x ∷ xs) y ys = at_seam xs y ys

-- what the bytes are where a pair begins them
pub record Reads (bytes key value more : List ℕ) : Type 0 where
  pub key_length : prefix_len is_key_byte bytes ≡ length key
  pub key_within : length key < length bytes
  pub sign : get_or bytes (length key) 0 ≡ 61
  pub value_length : prefix_len is_value_byte (drop (length key + 1) bytes) ≡ length value
  pub value_within : length value < length (drop (length key + 1) bytes)

pub spelled_is : (key value more : List ℕ) → spelled key value ++ more ≡ key ++ 61 ∷ (value ++ 0 ∷ more)
spelled_is key value more =
    append_assoc key (61 ∷ (value ++ 0 ∷ [])) more ∙ ap (λ (t : List ℕ). key ++ 61 ∷ t) (append_assoc value (0 ∷ []) more)

reads_plain : (key value more : List ℕ) → IsPair key value → Reads (key ++ 61 ∷ (value ++ 0 ∷ more)) key value more
reads_plain key value more pair =
    let rest : drop (length key + 1) (key ++ 61 ∷ (value ++ 0 ∷ more)) ≡ value ++ 0 ∷ more = drop-append-add key (61 ∷ (value ++ 0 ∷ more)) 1 in
    record {
      key_length = prefix_len-stop is_key_byte key 61 (value ++ 0 ∷ more) pair.key_bytes refl;
      key_within = omega (arith, length-append key (61 ∷ (value ++ 0 ∷ more)));
      sign = at_seam key 61 (value ++ 0 ∷ more);
      value_length = ap (λ (t : List ℕ). prefix_len is_value_byte t) rest ∙ prefix_len-stop is_value_byte value 0 more pair.value_bytes refl;
      value_within = omega (arith, ap length rest, length-append value (0 ∷ more));
    }

pub reads : (bytes key value more : List ℕ) → IsPair key value → bytes ≡ spelled key value ++ more → Reads bytes key value more
reads bytes key value more pair whole =
    subst (λ (b : List ℕ). Reads b key value more) (sym (whole ∙ spelled_is key value more)) (reads_plain key value more pair)

zero_from_stop : (b : ℕ) → is_value_byte b ≡ false → b ≡ 0
zero_from_stop b stops = grind (arith, nat_tests)

split_here : (xs : List ℕ) (n : ℕ) → n < length xs → xs ≡ take n xs ++ get_or xs n 0 ∷ drop (n + 1) xs
split_here xs n within = sym (take-append-drop n xs) ∙ ap (λ (t : List ℕ). take n xs ++ t) (drop_more xs n 0 within)

-- a pair begins the bytes, by the lengths of its fronts
pub found_piece : (bytes rest : List ℕ) (k v : ℕ) → k ≡ prefix_len is_key_byte bytes → 0 < k → k ≤ 63 → k < length bytes → get_or bytes k 0 ≡ 61
    → rest ≡ drop (k + 1) bytes → v ≡ prefix_len is_value_byte rest → v ≤ 8192 → v < length rest
    → IsPair (take k bytes) (take v rest) × (bytes ≡ spelled (take k bytes) (take v rest) ++ drop (v + 1) rest)
found_piece bytes rest k v k_is some k_fits k_within sign rest_is v_is v_fits v_within =
    let stops : is_value_byte (get_or rest v 0) ≡ false =
    subst (λ (n : ℕ). is_value_byte (get_or rest n 0) ≡ false) (sym v_is) (prefix_len_stops is_value_byte rest 0 (omega arith)) in
    let head : bytes ≡ take k bytes ++ 61 ∷ rest =
    split_here bytes k k_within ∙ ap (λ (y : ℕ). take k bytes ++ y ∷ drop (k + 1) bytes) sign ∙ ap (λ (t : List ℕ). take k bytes ++ 61 ∷ t) (sym rest_is) in
    let tail : rest ≡ take v rest ++ 0 ∷ drop (v + 1) rest =
    split_here rest v v_within ∙ ap (λ (y : ℕ). take v rest ++ y ∷ drop (v + 1) rest) (zero_from_stop (get_or rest v 0) stops) in (
      record {
        key_some = omega (arith, length-take k bytes);
        key_fits = omega (arith, length-take k bytes);
        key_bytes = subst (λ (n : ℕ). list_all is_key_byte (take n bytes) ≡ true) (sym k_is) (list_all-front is_key_byte bytes);
        value_fits = omega (arith, length-take v rest);
        value_bytes = subst (λ (n : ℕ). list_all is_value_byte (take n rest) ≡ true) (sym v_is) (list_all-front is_value_byte rest);
      },
      head ∙ ap (λ (t : List ℕ). take k bytes ++ 61 ∷ t) tail ∙ sym (spelled_is (take k bytes) (take v rest) (drop (v + 1) rest)),
    )

same_front : (xs ys us vs : List ℕ) → length xs ≡ length us → xs ++ ys ≡ us ++ vs → (xs ≡ us) × (ys ≡ vs)
same_front xs ys us vs long same = (
  sym (take_at xs ys (length xs) refl) ∙ ap (λ (t : List ℕ). take (length xs) t) same ∙ take_at us vs (length xs) (sym long),
  sym (drop_at xs ys (length xs) refl) ∙ ap (λ (t : List ℕ). drop (length xs) t) same ∙ drop_at us vs (length xs) (sym long),
)

-- one pair begins a text at most
pub same_pair : (key value more k v m : List ℕ) → IsPair key value → IsPair k v → spelled key value ++ more ≡ spelled k v ++ m → (key ≡ k) × (value ≡ v) × (more ≡ m)
same_pair key value more k v m pair other same =
    let a = reads (spelled key value ++ more) key value more pair refl in
    let b = reads (spelled key value ++ more) k v m other same in
    let plain : key ++ 61 ∷ (value ++ 0 ∷ more) ≡ k ++ 61 ∷ (v ++ 0 ∷ m) = sym (spelled_is key value more) ∙ same ∙ spelled_is k v m in
    let keys = same_front key (61 ∷ (value ++ 0 ∷ more)) k (61 ∷ (v ++ 0 ∷ m)) (sym a.key_length ∙ b.key_length) plain in
    let rests : value ++ 0 ∷ more ≡ v ++ 0 ∷ m = cc (keys.1) in
    let wide : length value ≡ length v =
    sym (prefix_len-stop is_value_byte value 0 more pair.value_bytes refl)
    ∙ ap (λ (t : List ℕ). prefix_len is_value_byte t) rests
    ∙ prefix_len-stop is_value_byte v 0 m other.value_bytes refl in
    let values = same_front value (0 ∷ more) v (0 ∷ m) wide rests in
    (keys.0, values.0, cc (values.1))

pub no_pair-none : NoPair []
no_pair-none = λ key value more pair same. let r = reads [] key value more pair same in omega arith

pair_is : (p q : Pair) → p.key ≡ q.key → p.value ≡ q.value → p ≡ q
pair_is p q keys values =
    let made : List ℕ → List ℕ → Pair = λ k v. record { key = k; value = v } in
    ap (λ (k : List ℕ). made k p.value) keys ∙ ap (λ (v : List ℕ). made q.key v) values

-- a text is one list of pairs before a rest that no pair begins
pub same_lists : (ps qs : List Pair) (r s : List ℕ) → ArePairs ps → ArePairs qs → NoPair r → NoPair s → text_of ps ++ r ≡ text_of qs ++ s → (ps ≡ qs) × (r ≡ s)
same_lists [] [] r s a b none_r none_s same = (refl, same)
same_lists [] (q ∷ qs) r s a b none_r none_s same =
    absurd (none_r q.key q.value (text_of qs ++ s) b.0 (same ∙ append_assoc (pair_text q) (text_of qs) s))
same_lists (p ∷ ps) [] r s a b none_r none_s same =
    absurd (none_s p.key p.value (text_of ps ++ r) a.0 (sym same ∙ append_assoc (pair_text p) (text_of ps) r))
same_lists (p ∷ ps) (q ∷ qs) r s a b none_r none_s same =
    let here : pair_text p ++ (text_of ps ++ r) ≡ pair_text q ++ (text_of qs ++ s) =
    sym (append_assoc (pair_text p) (text_of ps) r) ∙ same ∙ append_assoc (pair_text q) (text_of qs) s in
    let heads = same_pair p.key p.value (text_of ps ++ r) q.key q.value (text_of qs ++ s) a.0 b.0 here in
    let tails = same_lists ps qs r s a.1 b.1 none_r none_s heads.2 in
    let head : p ≡ q = pair_is p q heads.0 heads.1 in
    let tail : ps ≡ qs = tails.0 in
    (cc, tails.1)

pub ArePairs-push : (ps : List Pair) (p : Pair) → ArePairs ps → IsPair p.key p.value → ArePairs (ps ++ p ∷ [])
ArePairs-push [] p are pair = (pair, tt)
ArePairs-push (q ∷ ps) p are pair = (are.0, ArePairs-push ps p are.1 pair)

-- one pair more is read
pub read_on : (bytes rest key value more : List ℕ) (ps : List Pair) (p : Pair) → bytes ≡ text_of ps ++ rest → ArePairs ps → IsPair key value → rest ≡ spelled key value ++ more
    → p.key ≡ key → p.value ≡ value → (bytes ≡ text_of (ps ++ p ∷ []) ++ more) × ArePairs (ps ++ p ∷ [])
read_on bytes rest key value more ps p whole are pair found keys values =
    let text : text_of (ps ++ p ∷ []) ≡ text_of ps ++ pair_text p = flat_map-append pair_text ps (p ∷ []) ∙ ap (λ (t : List ℕ). text_of ps ++ t) (append-nil (pair_text p)) in
    let same : spelled key value ≡ pair_text p = ap (λ (k : List ℕ). spelled k value) (sym keys) ∙ ap (λ (v : List ℕ). spelled p.key v) (sym values) in
    let fits : IsPair p.key p.value = subst (λ (k : List ℕ). IsPair k p.value) (sym keys) (subst (λ (v : List ℕ). IsPair key v) (sym values) pair) in (
      whole ∙ ap (λ (t : List ℕ). text_of ps ++ t) (found ∙ ap (λ (t : List ℕ). t ++ more) same) ∙ sym (append_assoc (text_of ps) (pair_text p) more)
          ∙ ap (λ (t : List ℕ). t ++ more) (sym text),
      ArePairs-push ps p are fits,
    )
