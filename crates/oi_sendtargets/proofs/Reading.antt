-- How far a list of pairs is read.
use Rattle.std.proofs.Common.{◌≡◌, ◌≢◌, ◌<◌, ◌≤◌, ◌+◌, ◌-◌, ◌∙◌, ℕ, suc, zero, Bool, true, false, cond, List, [], ◌∷◌, ◌++◌, length, take, drop, get_or, map, refl, sym, ap, subst, arith, inl, inr, append_assoc, length-append}
use Rattle.std.specs.List.{list_all, prefix_len}
use Rattle.std.proofs.lemmas.Bool.{and_parts, and_from}
use Rattle.std.proofs.lemmas.List.{append-nil, drop_more, map-append, take-append-drop, take_at, take_more, length-drop}
use Rattle.std.proofs.lemmas.List.Concat.{flat_map-append}
use Rattle.std.proofs.lemmas.List.Sums.{prefix_len_stops}
use Rattle.std.proofs.lemmas.Slice.Eq.{bytes_eq-Decides}
use Rattle.oi_base.specs.Counts.{told}
use Rattle.oi_names.specs.Names.{IsName}
use Rattle.oi_names.specs.declared.portal.Portal.{Portal}
use Rattle.oi_text.specs.Pairs.{text_of, IsPair, ArePairs}
use Rattle.oi_text.specs.declared.pairs.Pair.{Pair}
use Rattle.oi_sendtargets.specs.declared.found.Found.{Found}
use Rattle.oi_sendtargets.specs.declared.found.TargetsFault.TheVariants.{Malformed}
use Rattle.oi_sendtargets.specs.Payloads.{target_name, target_address, Target, pair_of, target_pairs, listing_pairs, payload_of, AreNamed, CanFollow}
use Rattle.oi_sendtargets.specs.Listings.{AreGiven, AddressGives, NameGives, TargetGives, IsFoundIn}
use Rattle.oi_sendtargets.specs.Steps.{IsStray, is_address, values, NoAddress, NoTarget, BeginsWith, Adds, AddressAdds}

-- what one list gives, and then one item more
pub given_more : {A : Type 0} (G : A → List Found → Type 0) (xs : List A) (x : A) (found here : List Found) → AreGiven G xs found → G x here → AreGiven G (xs ++ x ∷ []) (found ++ here)
given_more G [] x found here none gives = (here, [], ap (λ (z : List Found). z ++ here) none ∙ sym (append-nil here), gives, refl)
given_more G (y ∷ ys) x found here (a, b, whole, first, others) gives =
    (a, b ++ here, ap (λ (z : List Found). z ++ here) whole ∙ append_assoc a b here, first, given_more G ys x b here others gives)

address_gives : (name address : List ℕ) (old new : List Found) → AddressAdds name address old new → Adds (AddressGives name address) old new
address_gives name address old new (inl (none, same)) = ([], same ∙ sym (append-nil old), inl (none, refl))
address_gives name address old new (inr (f, grown, named, is)) = (f ∷ [], grown, inr (f, refl, named, is))

add_given : {A : Type 0} (G : A → List Found → Type 0) (xs : List A) (x : A) (old found new : List Found) → Adds (AreGiven G xs) old found → Adds (G x) found new → Adds (AreGiven G (xs ++ x ∷ [])) old new
add_given G xs x old found new (more, grown, given) (here, added, gives) = (
  more ++ here,
  added ∙ ap (λ (z : List Found). z ++ here) grown ∙ append_assoc old more here,
  given_more G xs x more here given gives,
)

-- the addresses so far, and one more
pub address_more : (name : List ℕ) (addresses : List Pair) (i : ℕ) (p : Pair) (old found new : List Found) → i < length addresses → p ≡ get_or addresses i p
    → Adds (AreGiven (AddressGives name) (values (take i addresses))) old found → AddressAdds name p.value found new
    → Adds (AreGiven (AddressGives name) (values (take (i + 1) addresses))) old new
address_more name addresses i p old found new within is given adds =
    let value : Pair → List ℕ = λ q. q.value in
    let next : take (i + 1) addresses ≡ take i addresses ++ p ∷ [] = take_more addresses i p within ∙ ap (λ (q : Pair). take i addresses ++ q ∷ []) (sym is) in
    let texts : values (take (i + 1) addresses) ≡ values (take i addresses) ++ p.value ∷ [] = ap values next ∙ map-append value (take i addresses) (p ∷ []) in
    subst (λ (z : List (List ℕ)). Adds (AreGiven (AddressGives name) z) old new) (sym texts)
    (add_given (AddressGives name) (values (take i addresses)) p.value old found new given (address_gives name p.value found new adds))

pub is_pair_at : (ps : List Pair) (i : ℕ) (p d : Pair) → ArePairs ps → i < length ps → p ≡ get_or ps i d → IsPair p.key p.value
is_pair_at [] i p d are within is = absurd (omega arith)
is_pair_at (q ∷ ps) zero p d are within is = subst (λ (z : Pair). IsPair z.key z.value) (sym is) are.0
is_pair_at (q ∷ ps) (suc i) p d are within is = is_pair_at ps i p d are.1 (omega arith) is

pub ArePairs-take : (ps : List Pair) (i : ℕ) → ArePairs ps → ArePairs (take i ps)
ArePairs-take ps zero are = tt
ArePairs-take [] (suc i) are = tt
ArePairs-take (p ∷ ps) (suc i) are = (are.0, ArePairs-take ps i are.1)

-- the first target

front_step : (p : Pair) (ps : List Pair) (b : Bool) → is_address p ≡ b → list_all is_address (take (prefix_len is_address ps) ps) ≡ true
    → list_all is_address (take (cond b (1 + prefix_len is_address ps) 0) (p ∷ ps)) ≡ true
front_step p ps true passes front =
    let one : suc (prefix_len is_address ps) ≡ 1 + prefix_len is_address ps = omega arith in
    subst (λ (n : ℕ). list_all is_address (take n (p ∷ ps)) ≡ true) one (and_from (is_address p) (list_all is_address (take (prefix_len is_address ps) ps)) passes front)
front_step p ps false passes front = refl

front_all : (ps : List Pair) → list_all is_address (take (prefix_len is_address ps) ps) ≡ true
front_all [] = refl
front_all (p ∷ ps) = front_step p ps (is_address p) refl (front_all ps)

with_key : (p : Pair) (k : List ℕ) → p.key ≡ k → p ≡ pair_of k p.value
with_key p k e = ap (λ (z : List ℕ). pair_of z p.value) e

addressed : (ps : List Pair) → list_all is_address ps ≡ true → ps ≡ map (pair_of target_address) (values ps)
addressed [] e = refl
addressed (p ∷ ps) e =
    let both = and_parts (is_address p) (list_all is_address ps) e in
    let head : p ≡ pair_of target_address p.value = with_key p target_address ((bytes_eq-Decides p.key target_address).0 both.0) in
    ap (λ (z : Pair). z ∷ ps) head ∙ ap (λ (z : List Pair). pair_of target_address p.value ∷ z) (addressed ps both.1)

no_address : (ps : List Pair) → NoAddress (drop (prefix_len is_address ps) ps)
no_address ps p more whole key =
    let n = prefix_len is_address ps in
    let within : n < length ps = omega (arith, ap length whole, length-drop n ps) in
    let at : get_or ps n p ≡ p = let e : get_or ps n p ∷ drop (n + 1) ps ≡ p ∷ more = sym (drop_more ps n p within) ∙ whole in cc in
    let stops : is_address p ≡ false = ap is_address (sym at) ∙ prefix_len_stops is_address ps p within in
    let passes : is_address p ≡ true = (bytes_eq-Decides p.key target_address).1 key in
    cc

pub begins : (pairs addresses more : List Pair) (first : Pair) (name : List ℕ) (n : ℕ) → 1 ≤ length pairs → first ≡ get_or pairs 0 first → first.key ≡ target_name → name ≡ first.value → IsName name
    → n ≡ prefix_len is_address (drop 1 pairs) → addresses ≡ take n (drop 1 pairs) → more ≡ drop n (drop 1 pairs) → BeginsWith pairs name addresses more
begins [] addresses more first name n some is key value named count taken left = absurd (omega arith)
begins (p ∷ ps) addresses more first name n some is key value named count taken left =
    let front : take n ps ≡ addresses = sym taken in
    let all : list_all is_address addresses ≡ true = subst (λ (z : List Pair). list_all is_address z ≡ true) (ap (λ (k : ℕ). take k ps) (sym count) ∙ front) (front_all ps) in
    let tail : ps ≡ map (pair_of target_address) (values addresses) ++ more =
    sym (take-append-drop n ps) ∙ ap (λ (z : List Pair). z ++ drop n ps) (front ∙ addressed addresses all) ∙ ap (λ (z : List Pair). map (pair_of target_address) (values addresses) ++ z) (sym left) in
    let head : p ≡ pair_of target_name name = sym is ∙ with_key first target_name key ∙ ap (pair_of target_name) (sym value) in
    record {
      whole = ap (λ (z : Pair). z ∷ ps) head ∙ ap (λ (z : List Pair). pair_of target_name name ∷ z) tail;
      named = named;
      end = subst NoAddress (ap (λ (k : ℕ). drop k ps) (sym count) ∙ sym left) (no_address ps);
    }

-- all of it

-- some targets are read, with all of their addresses
pub record IsReadTo (pairs rest : List Pair) (asked : Portal) (found : List Found) : Type 0 where
  pub targets : List Target
  pub whole : pairs ≡ listing_pairs targets ++ rest
  pub names : AreNamed targets
  pub given : AreGiven (TargetGives asked) targets found
  pub end : targets ≢ [] → NoAddress rest

pub none_read : (pairs : List Pair) (asked : Portal) → IsReadTo pairs pairs asked []
none_read pairs asked = record { targets = []; whole = refl; names = tt; given = refl; end = λ some. absurd (some refl) }

-- a name with addresses gives what these give
pub some_addresses : (asked : Portal) (name : List ℕ) (addresses : List Pair) (old new : List Found) → 0 < length addresses
    → Adds (AreGiven (AddressGives name) (values addresses)) old new → Adds (NameGives asked name (values addresses)) old new
some_addresses asked name [] old new some adds = absurd (omega arith)
some_addresses asked name (p ∷ addresses) old new some adds = adds

AreNamed-push : (targets : List Target) (t : Target) → AreNamed targets → IsName t.name → AreNamed (targets ++ t ∷ [])
AreNamed-push [] t are named = (named, tt)
AreNamed-push (u ∷ targets) t are named = (are.0, AreNamed-push targets t are.1 named)

pub read_on : (pairs rest addresses more : List Pair) (asked : Portal) (found new : List Found) (name : List ℕ) → IsReadTo pairs rest asked found → BeginsWith rest name addresses more
    → Adds (NameGives asked name (values addresses)) found new → IsReadTo pairs more asked new
read_on pairs rest addresses more asked found new name read begun (here, grown, gives) =
    let t : Target = record { name = name; addresses = values addresses } in
    let targets = read.targets in
    let text : listing_pairs (targets ++ t ∷ []) ≡ listing_pairs targets ++ target_pairs t =
    flat_map-append target_pairs targets (t ∷ []) ∙ ap (λ (z : List Pair). listing_pairs targets ++ z) (append-nil (target_pairs t)) in
    record {
      targets = targets ++ t ∷ [];
      whole = read.whole ∙ ap (λ (z : List Pair). listing_pairs targets ++ z) begun.whole ∙ sym (append_assoc (listing_pairs targets) (target_pairs t) more) ∙ ap (λ (z : List Pair). z ++ more) (sym text);
      names = AreNamed-push targets t read.names begun.named;
      given = subst (λ (z : List Found). AreGiven (TargetGives asked) (targets ++ t ∷ []) z) (sym grown) (given_more (TargetGives asked) targets t found here read.given gives);
      end = λ _. begun.end;
    }

pub all_read : (pairs rest : List Pair) (asked : Portal) (found : List Found) → length rest ≡ 0 → IsReadTo pairs rest asked found → IsFoundIn pairs asked found
all_read pairs [] asked found none read = (read.targets, record { whole = read.whole ∙ append-nil (listing_pairs read.targets); names = read.names }, read.given)
all_read pairs (p ∷ rest) asked found none read = absurd (omega arith)

pub stray : (pairs rest : List Pair) (asked : Portal) (found : List Found) (place : ℕ) → 0 < length rest → IsReadTo pairs rest asked found → NoTarget rest
    → place ≡ told (length (text_of (take (length pairs - length rest) pairs))) → IsStray pairs (Malformed place)
stray pairs [] asked found place some read none is = absurd (omega arith)
stray pairs (p ∷ more) asked found place some read none is =
    let targets = read.targets in
    let long : length (listing_pairs targets) ≡ length pairs - length (p ∷ more) = omega (arith, ap length read.whole, length-append (listing_pairs targets) (p ∷ more)) in
    let front : take (length pairs - length (p ∷ more)) pairs ≡ listing_pairs targets =
    ap (λ (z : List Pair). take (length pairs - length (p ∷ more)) z) read.whole ∙ take_at (listing_pairs targets) (p ∷ more) (length pairs - length (p ∷ more)) long in (
      length (payload_of targets),
      is ∙ ap (λ (z : List Pair). told (length (text_of z))) front,
      record { targets = targets; stray = p; more = more; whole = read.whole; names = read.names; none = cannot; at = refl },
    )
  where
    cannot : CanFollow read.targets p → ⊥
    cannot (inl (key, named)) = none p more refl key named
    cannot (inr (key, some)) = read.end some p more refl key
