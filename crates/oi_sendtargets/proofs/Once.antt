-- A payload is one list of targets at most, and tells one list of portals.
use Rattle.std.proofs.Common.{◌≡◌, ◌∙◌, ℕ, Option, List, [], ◌∷◌, ◌++◌, length, map, unwrap_or, refl, sym, ap, subst, arith, inl, inr, append_assoc}
use Rattle.std.proofs.lemmas.List.{append-nil}
use Rattle.oi_names.specs.Portals.{IsPortal}
use Rattle.oi_names.specs.declared.portal.Portal.{Portal}
use Rattle.oi_names.proofs.Readings as readings
use Rattle.oi_text.specs.Pairs.{text_of, IsText, IsMalformedAt}
use Rattle.oi_text.specs.declared.pairs.Pair.{Pair}
use Rattle.oi_text.proofs.Pieces.{same_lists, no_pair-none}
use Rattle.oi_sendtargets.specs.declared.found.Found.{Found}
use Rattle.oi_sendtargets.specs.Payloads.{target_name, target_address, Target, pair_of, listing_pairs, payload_of, AreNamed, IsListing, CanFollow, IsStrayAt, IsBadAt}
use Rattle.oi_sendtargets.specs.Listings.{AreGiven, IsAddressOf, AddressGives, NameGives, TargetGives, IsFound}
use Rattle.oi_sendtargets.specs.Steps.{NoAddress}

-- one list of targets

-- the pairs end the list of these targets: their first one cannot stand behind them
abbrev Ends : List Target → List Pair → Type 0
Ends targets rest = (p : Pair) (more : List Pair) → rest ≡ p ∷ more → CanFollow targets p → ⊥

one_run : (xs ys : List (List ℕ)) (r s : List Pair) → NoAddress r → NoAddress s → map (pair_of target_address) xs ++ r ≡ map (pair_of target_address) ys ++ s → (xs ≡ ys) × (r ≡ s)
one_run [] [] r s no_r no_s same = (refl, same)
one_run [] (y ∷ ys) r s no_r no_s same = absurd (no_r (pair_of target_address y) (map (pair_of target_address) ys ++ s) same refl)
one_run (x ∷ xs) [] r s no_r no_s same = absurd (no_s (pair_of target_address x) (map (pair_of target_address) xs ++ r) (sym same) refl)
one_run (x ∷ xs) (y ∷ ys) r s no_r no_s same =
    let tails : map (pair_of target_address) xs ++ r ≡ map (pair_of target_address) ys ++ s = cc in
    let pairs : pair_of target_address x ≡ pair_of target_address y = cc in
    let heads : x ≡ y = ap (λ (p : Pair). p.value) pairs in
    let rest = one_run xs ys r s no_r no_s tails in
    let others : xs ≡ ys = rest.0 in
    (cc, rest.1)

apart_keys : target_name ≡ target_address → ⊥
apart_keys e = cc

end_of_run : (t : Target) (ts : List Target) (r : List Pair) → Ends (t ∷ ts) r → NoAddress (listing_pairs ts ++ r)
end_of_run t [] r ends p more whole key = ends p more whole (inr (key, λ none. cc))
end_of_run t (u ∷ us) r ends p more whole key =
    let first : pair_of target_name u.name ≡ p = cc in
    apart_keys (ap (λ (q : Pair). q.key) first ∙ key)

ends_tail : (t : Target) (ts : List Target) (r : List Pair) → Ends (t ∷ ts) r → Ends ts r
ends_tail t ts r ends p more whole (inl name) = ends p more whole (inl name)
ends_tail t ts r ends p more whole (inr (key, some)) = ends p more whole (inr (key, λ none. cc))

target_is : (t u : Target) → t.name ≡ u.name → t.addresses ≡ u.addresses → t ≡ u
target_is t u names addresses =
    let made : List ℕ → List (List ℕ) → Target = λ n xs. record { name = n; addresses = xs } in
    ap (λ (n : List ℕ). made n t.addresses) names ∙ ap (λ (xs : List (List ℕ)). made u.name xs) addresses

-- pairs begin with one list of targets up to a pair that cannot stand behind them
pub one_listing : (ts us : List Target) (r s : List Pair) → AreNamed ts → AreNamed us → Ends ts r → Ends us s → listing_pairs ts ++ r ≡ listing_pairs us ++ s → (ts ≡ us) × (r ≡ s)
one_listing [] [] r s a b ends stops same = (refl, same)
one_listing [] (u ∷ us) r s a b ends stops same = absurd (ends (pair_of target_name u.name) (map (pair_of target_address) u.addresses ++ listing_pairs us ++ s) same (inl (refl, b.0)))
one_listing (t ∷ ts) [] r s a b ends stops same = absurd (stops (pair_of target_name t.name) (map (pair_of target_address) t.addresses ++ listing_pairs ts ++ r) (sym same) (inl (refl, a.0)))
one_listing (t ∷ ts) (u ∷ us) r s a b ends stops same =
    let run_t = map (pair_of target_address) t.addresses in
    let run_u = map (pair_of target_address) u.addresses in
    let first : pair_of target_name t.name ≡ pair_of target_name u.name = cc in
    let tails : (run_t ++ listing_pairs ts) ++ r ≡ (run_u ++ listing_pairs us) ++ s = cc in
    let parted : run_t ++ (listing_pairs ts ++ r) ≡ run_u ++ (listing_pairs us ++ s) = sym (append_assoc run_t (listing_pairs ts) r) ∙ tails ∙ append_assoc run_u (listing_pairs us) s in
    let runs = one_run t.addresses u.addresses (listing_pairs ts ++ r) (listing_pairs us ++ s) (end_of_run t ts r ends) (end_of_run u us s stops) parted in
    let rest = one_listing ts us r s a.1 b.1 (ends_tail t ts r ends) (ends_tail u us s stops) runs.1 in
    let heads : t ≡ u = target_is t u (ap (λ (p : Pair). p.value) first) runs.0 in
    let others : ts ≡ us = rest.0 in
    (cc, rest.1)

-- one list of portals

one_given : {A : Type 0} (G : A → List Found → Type 0) → ((x : A) (f g : List Found) → G x f → G x g → f ≡ g) → (xs : List A) (f g : List Found) → AreGiven G xs f → AreGiven G xs g → f ≡ g
one_given G one [] f g a b = a ∙ sym b
one_given G one (x ∷ xs) f g (here, more, whole, first, others) (near, rest, all, second, last) =
    let heads : here ≡ near = one x here near first second in
    let tails : more ≡ rest = one_given G one xs more rest others last in
    whole ∙ ap (λ (z : List Found). z ++ more) heads ∙ ap (λ (z : List Found). near ++ z) tails ∙ sym all

found_is : (f g : Found) → f.target ≡ g.target → f.portal.address ≡ g.portal.address → f.portal.port ≡ g.portal.port → f.tag ≡ g.tag → f ≡ g
found_is f g targets addresses ports tags =
    let made : List ℕ → List ℕ → ℕ → ℕ → Found = λ t a p n. record { target = t; portal = record { address = a; port = p }; tag = n } in
    ap (λ (t : List ℕ). made t f.portal.address f.portal.port f.tag) targets
    ∙ ap (λ (a : List ℕ). made g.target a f.portal.port f.tag) addresses
    ∙ ap (λ (p : ℕ). made g.target g.portal.address p f.tag) ports
    ∙ ap (λ (n : ℕ). made g.target g.portal.address g.portal.port n) tags

one_portal : (name address : List ℕ) (f g : Found) → f.target ≡ name → IsAddressOf f address → g.target ≡ name → IsAddressOf g address → f ≡ g
one_portal name address f g named (t, is, tag) called (u, also, mark) =
    let once = readings.once address f.portal.address g.portal.address f.portal.port g.portal.port t u is also in
    found_is f g (named ∙ sym called) once.0 once.1 (tag ∙ ap (λ (o : Option ℕ). unwrap_or o 1) once.2 ∙ sym mark)

not_skipped : (address : List ℕ) (f : Found) → IsAddressOf f address → IsPortal address
not_skipped address f (tag, is, mark) = readings.word address f.portal.address f.portal.port tag is

one_address : (name address : List ℕ) (f g : List Found) → AddressGives name address f → AddressGives name address g → f ≡ g
one_address name address f g (inl a) (inl b) = a.1 ∙ sym b.1
one_address name address f g (inl a) (inr (place, whole, named, is)) = absurd (a.0 (not_skipped address place is))
one_address name address f g (inr (place, whole, named, is)) (inl b) = absurd (b.0 (not_skipped address place is))
one_address name address f g (inr (place, whole, named, is)) (inr (other, all, called, also)) =
    whole ∙ ap (λ (z : Found). z ∷ []) (one_portal name address place other named is called also) ∙ sym all

one_name : (asked : Portal) (name : List ℕ) (addresses : List (List ℕ)) (f g : List Found) → NameGives asked name addresses f → NameGives asked name addresses g → f ≡ g
one_name asked name [] f g a b = a ∙ sym b
one_name asked name (address ∷ more) f g a b = one_given (AddressGives name) (one_address name) (address ∷ more) f g a b

-- the whole payload

one_text : (payload : List ℕ) (ps qs : List Pair) → IsText payload ps → IsText payload qs → ps ≡ qs
one_text payload ps qs a b =
    (same_lists ps qs [] [] a.pairs b.pairs no_pair-none no_pair-none (append-nil (text_of ps) ∙ sym a.whole ∙ b.whole ∙ sym (append-nil (text_of qs)))).0

no_end : (targets : List Target) → Ends targets []
no_end targets p more whole can = cc

listed : (ps : List Pair) (targets : List Target) → IsListing ps targets → ps ≡ listing_pairs targets ++ []
listed ps targets is = is.whole ∙ sym (append-nil (listing_pairs targets))

pub one_found : (payload : List ℕ) (asked : Portal) (found others : List Found) → IsFound payload asked found → IsFound payload asked others → found ≡ others
one_found payload asked found others (ps, text, (ts, list, given)) (qs, text', (us, list', given')) =
    let pairs : ps ≡ qs = one_text payload ps qs text text' in
    let targets : ts ≡ us = (one_listing ts us [] [] list.names list'.names (no_end ts) (no_end us) (sym (listed ps ts list) ∙ pairs ∙ listed qs us list')).0 in
    one_given (TargetGives asked) (λ t. one_name asked t.name t.addresses) us found others (subst (λ (z : List Target). AreGiven (TargetGives asked) z found) targets given) given'

no_malformed : (payload : List ℕ) (ps : List Pair) (at : ℕ) → IsText payload ps → IsMalformedAt payload at → ⊥
no_malformed payload ps at text bad =
    let both = same_lists ps bad.before [] bad.rest text.pairs bad.pairs no_pair-none bad.none (append-nil (text_of ps) ∙ sym text.whole ∙ bad.whole) in
    omega (arith, ap length both.1, bad.some)

stray_ends : (pairs : List Pair) (at : ℕ) (is : IsStrayAt pairs at) → Ends is.targets (is.stray ∷ is.more)
stray_ends pairs at is p more whole can =
    let same : p ≡ is.stray = cc in
    is.none (subst (λ (q : Pair). CanFollow is.targets q) same can)

pub no_fault : (payload : List ℕ) (asked : Portal) (found : List Found) (at : ℕ) → IsFound payload asked found → IsBadAt payload at → ⊥
no_fault payload asked found at (ps, text, rest) (inl bad) = no_malformed payload ps at text bad
no_fault payload asked found at (ps, text, (ts, list, given)) (inr (qs, text', bad)) =
    let pairs : ps ≡ qs = one_text payload ps qs text text' in
    let both = one_listing ts bad.targets [] (bad.stray ∷ bad.more) list.names bad.names (no_end ts) (stray_ends qs at bad) (sym (listed ps ts list) ∙ pairs ∙ bad.whole) in
    omega (arith, ap length both.1)

one_malformed : (payload : List ℕ) (at other : ℕ) → IsMalformedAt payload at → IsMalformedAt payload other → at ≡ other
one_malformed payload at other a b =
    let both = same_lists a.before b.before a.rest b.rest a.pairs b.pairs a.none b.none (sym a.whole ∙ b.whole) in
    a.at ∙ ap (λ (ps : List Pair). length (text_of ps)) both.0 ∙ sym b.at

one_stray : (ps qs : List Pair) (at other : ℕ) → ps ≡ qs → IsStrayAt ps at → IsStrayAt qs other → at ≡ other
one_stray ps qs at other pairs a b =
    let both = one_listing a.targets b.targets (a.stray ∷ a.more) (b.stray ∷ b.more) a.names b.names (stray_ends ps at a) (stray_ends qs other b) (sym a.whole ∙ pairs ∙ b.whole) in
    a.at ∙ ap (λ (ts : List Target). length (payload_of ts)) both.0 ∙ sym b.at

pub one_place : (payload : List ℕ) (at other : ℕ) → IsBadAt payload at → IsBadAt payload other → at ≡ other
one_place payload at other (inl a) (inl b) = one_malformed payload at other a b
one_place payload at other (inl a) (inr (qs, text, b)) = absurd (no_malformed payload qs at text a)
one_place payload at other (inr (ps, text, a)) (inl b) = absurd (no_malformed payload ps other text b)
one_place payload at other (inr (ps, text, a)) (inr (qs, text', b)) = one_stray ps qs at other (one_text payload ps qs text text') a b
