-- The numbers that wait at a portal: a dial adds its own at the end, an accept takes out the first one, and no other
-- portal sees either.
use Rattle.std.proofs.Common.{ℕ, Bool, true, false, cond, ◌≡◌, ◌∙◌, List, [], ◌∷◌, ◌++◌, map, filter, refl, sym, ap}
use Rattle.std.proofs.lemmas.Slice.Eq.{bytes_eq-Decides}
use Rattle.std.proofs.lemmas.List.{append-nil}
use Rattle.oi_outside.specs.Nets.{Waiting, waits_at, waiting_at, without_first, with_dialled}
use Rattle.oi_outside.proofs.Records.{same_path, other_path}

-- the numbers at a portal, by whether the first connection waits there
first_at : (portal : List ℕ) (w : Waiting) (ws : List Waiting) → waiting_at portal (w ∷ ws) ≡ cond (waits_at portal w) (w.dial ∷ waiting_at portal ws) (waiting_at portal ws)
first_at portal w ws = by (waits_at portal w)
  where
    by : (b : Bool) → map (λ (v : Waiting). v.dial) (cond b (w ∷ filter (waits_at portal) ws) (filter (waits_at portal) ws)) ≡ cond b (w.dial ∷ waiting_at portal ws) (waiting_at portal ws)
    by true = refl
    by false = refl

-- the same, of the last one
last_at : (portal : List ℕ) (w : Waiting) (ws : List Waiting) → waiting_at portal (ws ++ w ∷ []) ≡ waiting_at portal ws ++ cond (waits_at portal w) (w.dial ∷ []) []
last_at portal w [] = first_at portal w []
last_at portal w (x ∷ xs) =
    first_at portal x (xs ++ w ∷ [])
    ∙ by (waits_at portal x) (last_at portal w xs)
    ∙ ap (λ (ns : List ℕ). ns ++ cond (waits_at portal w) (w.dial ∷ []) []) (sym (first_at portal x xs))
  where
    by : (b : Bool) → waiting_at portal (xs ++ w ∷ []) ≡ waiting_at portal xs ++ cond (waits_at portal w) (w.dial ∷ []) [] → cond b (x.dial ∷ waiting_at portal (xs ++ w ∷ [])) (waiting_at portal (xs ++ w ∷ [])) ≡ cond b (x.dial ∷ waiting_at portal xs) (waiting_at portal xs) ++ cond (waits_at portal w) (w.dial ∷ []) []
    by true e = ap (λ (ns : List ℕ). x.dial ∷ ns) e
    by false e = e

-- a dial that adds its connection puts its number at the end of its portal's list
pub waiting_at-dialled : (portal : List ℕ) (dial : ℕ) (ws : List Waiting) → waiting_at portal (with_dialled true portal dial ws) ≡ waiting_at portal ws ++ dial ∷ []
waiting_at-dialled portal dial ws =
    last_at portal (record { portal = portal; dial = dial }) ws ∙ ap (λ b. waiting_at portal ws ++ cond b (dial ∷ []) []) (same_path portal)

-- no dial changes the list of another portal
pub waiting_at-dialled_elsewhere : (adds : Bool) (portal other : List ℕ) (dial : ℕ) (ws : List Waiting) → (portal ≡ other → ⊥) → waiting_at other (with_dialled adds portal dial ws) ≡ waiting_at other ws
waiting_at-dialled_elsewhere false portal other dial ws apart = refl
waiting_at-dialled_elsewhere true portal other dial ws apart =
    last_at other (record { portal = portal; dial = dial }) ws
    ∙ ap (λ b. waiting_at other ws ++ cond b (dial ∷ []) []) (other_path portal other apart)
    ∙ append-nil (waiting_at other ws)

-- an accept takes the first number out of its portal's list
pub waiting_at-accepted : (portal : List ℕ) (dial : ℕ) (behind : List ℕ) (ws : List Waiting) → waiting_at portal ws ≡ dial ∷ behind → waiting_at portal (without_first (waits_at portal) ws) ≡ behind
waiting_at-accepted portal dial behind [] e = cc
waiting_at-accepted portal dial behind (x ∷ xs) e = by (waits_at portal x) refl (sym (first_at portal x xs) ∙ e) (waiting_at-accepted portal dial behind xs)
  where
    by : (b : Bool) → waits_at portal x ≡ b → cond b (x.dial ∷ waiting_at portal xs) (waiting_at portal xs) ≡ dial ∷ behind → (waiting_at portal xs ≡ dial ∷ behind → waiting_at portal (without_first (waits_at portal) xs) ≡ behind) → waiting_at portal (cond b xs (x ∷ without_first (waits_at portal) xs)) ≡ behind
    by true is k rest = cc
    by false is k rest =
        first_at portal x (without_first (waits_at portal) xs)
        ∙ ap (λ b. cond b (x.dial ∷ waiting_at portal (without_first (waits_at portal) xs)) (waiting_at portal (without_first (waits_at portal) xs))) is
        ∙ rest k

elsewhere : (portal other : List ℕ) (w : Waiting) → (portal ≡ other → ⊥) → waits_at portal w ≡ true → waits_at other w ≡ false
elsewhere portal other w apart is = other_path w.portal other (λ e. apart (sym ((bytes_eq-Decides w.portal portal).0 is) ∙ e))

-- no accept changes the list of another portal
pub waiting_at-accepted_elsewhere : (portal other : List ℕ) (ws : List Waiting) → (portal ≡ other → ⊥) → waiting_at other (without_first (waits_at portal) ws) ≡ waiting_at other ws
waiting_at-accepted_elsewhere portal other [] apart = refl
waiting_at-accepted_elsewhere portal other (x ∷ xs) apart = by (waits_at portal x) refl (waiting_at-accepted_elsewhere portal other xs apart)
  where
    by : (b : Bool) → waits_at portal x ≡ b → waiting_at other (without_first (waits_at portal) xs) ≡ waiting_at other xs → waiting_at other (cond b xs (x ∷ without_first (waits_at portal) xs)) ≡ waiting_at other (x ∷ xs)
    by true is rest = sym (first_at other x xs ∙ ap (λ b. cond b (x.dial ∷ waiting_at other xs) (waiting_at other xs)) (elsewhere portal other x apart is))
    by false is rest =
        first_at other x (without_first (waits_at portal) xs)
        ∙ ap (λ (ns : List ℕ). cond (waits_at other x) (x.dial ∷ ns) ns) rest
        ∙ sym (first_at other x xs)
