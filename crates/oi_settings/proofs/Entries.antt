-- The entries of a map as pairs.
use Rattle.std.proofs.Common.{◌≡◌, ℕ, Bool, true, false, cond, Option, Some, List, [], ◌∷◌, map, refl, ap, Vec, Global, bytes_eq}
use Rattle.std.specs.Map.{lookup}
use Rattle.indexmap.specs.IndexMap.{insert_entry}
use Rattle.oi_settings.specs.Pairs.{Pair, put, value_of}

abbrev pub Entry : Type 0
Entry = Vec ℕ Global × List ℕ

abbrev pub seen : Entry → Pair
seen e = (e.0.items, e.1)

pub value_of-seen : (name : List ℕ) (es : List Entry) → lookup (λ (k : Vec ℕ Global). bytes_eq name k.items) es ≡ value_of name (map seen es)
value_of-seen name [] = refl
value_of-seen name (e ∷ es) = ap (λ (o : Option (List ℕ)). cond (bytes_eq name e.0.items) (Some e.1) o) (value_of-seen name es)

step : (b : Bool) (e : Entry) (v : List ℕ) (es fs : List Entry) (ps : List Pair) → map seen fs ≡ ps
    → map seen (cond b ((e.0, v) ∷ es) (e ∷ fs)) ≡ cond b ((e.0.items, v) ∷ map seen es) (seen e ∷ ps)
step true e v es fs ps same = refl
step false e v es fs ps same = ap (λ (t : List Pair). seen e ∷ t) same

pub put-seen : (k : Vec ℕ Global) (v : List ℕ) (es : List Entry)
    → map seen (insert_entry (λ (a b : Vec ℕ Global). bytes_eq a.items b.items) es k v) ≡ put k.items v (map seen es)
put-seen k v [] = refl
put-seen k v (e ∷ es) =
    step (bytes_eq k.items e.0.items) e v es (insert_entry (λ (a b : Vec ℕ Global). bytes_eq a.items b.items) es k v) (put k.items v (map seen es)) (put-seen k v es)
