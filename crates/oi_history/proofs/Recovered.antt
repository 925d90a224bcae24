-- Submissions changed one after another, with their ids.
use Rattle.std.proofs.Common.{◌≡◌, ◌∙◌, ◌+◌, ◌<◌, ◌≤◌, ℕ, suc, zero, List, [], ◌∷◌, ◌++◌, length, take, drop, sym, ap, refl, arith, add-one, get_or, Option, Some, None}
use Rattle.std.proofs.Math.ListN.{set}
use Rattle.std.specs.Option.{option_map_or}
use Rattle.oi_history.specs.Recovering.{changed_under, map_from}
use Rattle.oi_history.specs.Tags.{holder}
use Rattle.oi_history.specs.Tasks.{changed}
use Rattle.oi_history.specs.declared.allocated.Allocated.{Allocated}
use Rattle.oi_history.specs.declared.task.Task.{Task}

pub changed_far : (id : ℕ) (f : Task → Task) (ts : List Task) → length ts ≤ id → ts ≡ changed id f ts
changed_far id f [] h = refl
changed_far zero f (t ∷ ts) h = absurd (omega (arith, h))
changed_far (suc id) f (t ∷ ts) h = ap (λ (z : List Task). t ∷ z) (changed_far id f ts (omega (arith, h)))

-- at the submission in use of a tag
pub under : (tag : ℕ) (busy : List Allocated) (f : ℕ → Task → Task) (ts us : List Task) (id : ℕ) → holder tag busy ≡ Some id → us ≡ changed id (f id) ts → us ≡ changed_under tag busy f ts
under tag busy f ts us id is p = p ∙ ap (λ (o : Option ℕ). option_map_or (λ k. changed k (f k) ts) o ts) (sym is)

-- in use by none
pub under_none : (tag : ℕ) (busy : List Allocated) (f : ℕ → Task → Task) (ts : List Task) → holder tag busy ≡ None → changed_under tag busy f ts ≡ ts
under_none tag busy f ts is = ap (λ (o : Option ℕ). option_map_or (λ k. changed k (f k) ts) o ts) is

set_from : (f : ℕ → Task → Task) (n : ℕ) (ts : List Task) (i : ℕ) (d : Task) → i < length ts
    → set (map_from n f (take i ts) ++ drop i ts) i (f (n + i) (get_or (map_from n f (take i ts) ++ drop i ts) i d)) ≡ map_from n f (take (suc i) ts) ++ drop (suc i) ts
set_from f n [] i d h = absurd (omega (arith, h))
set_from f n (t ∷ ts) zero d h = ap (λ (k : ℕ). f k t ∷ ts) (omega arith)
set_from f n (t ∷ ts) (suc i) d h =
    let same : n + suc i ≡ n + 1 + i = omega arith in
    ap (λ (z : List Task). f n t ∷ z) (ap (λ (k : ℕ). set (map_from (n + 1) f (take i ts) ++ drop i ts) i (f k (get_or (map_from (n + 1) f (take i ts) ++ drop i ts) i d))) same ∙ set_from f (n + 1) ts i d (omega (arith, h)))

-- one further
pub from_over : (f : ℕ → Task → Task) (ts items : List Task) (i : ℕ) (d v : Task) → i < length ts → items ≡ map_from 0 f (take i ts) ++ drop i ts → v ≡ f i (get_or items i d)
    → set items i v ≡ map_from 0 f (take (i + 1) ts) ++ drop (i + 1) ts
from_over f ts items i d v h is makes =
    let none : i ≡ 0 + i = omega arith in
    rw (makes, is, add-one) (ap (λ (k : ℕ). set (map_from 0 f (take i ts) ++ drop i ts) i (f k (get_or (map_from 0 f (take i ts) ++ drop i ts) i d))) none ∙ set_from f 0 ts i d h)
