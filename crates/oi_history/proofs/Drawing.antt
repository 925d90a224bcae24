-- How many pieces wait.
use Rattle.std.proofs.Common.{◌≡◌, ◌∙◌, ◌≤◌, ◌<◌, ◌+◌, ℕ, suc, zero, Bool, true, false, List, [], ◌∷◌, length, take, ap, refl, arith, append-nil, get_or, length-append, Option, Some, None, slice_get, if◌then◌else◌}
use Rattle.std.proofs.lemmas.List.{length-map}
use Rattle.std.proofs.lemmas.List.FromFn.{length-map-range_with_len}
use Rattle.std.specs.List.{flat_map}
use Rattle.oi_base.specs.declared.login.Params.{Params}
use Rattle.oi_base.specs.declared.tag.Tag.{Tag}
use Rattle.oi_buffer.specs.Cuts.{piece_at, piece_count, pieces}
use Rattle.oi_history.specs.Queues.{drawable, drawn, drawn_by, is_wanted, queued_as, unasked}
use Rattle.oi_history.specs.Tasks.{changed, issued}
use Rattle.oi_history.specs.declared.allocated.Allocated.{Allocated}
use Rattle.oi_history.specs.declared.owed.Solicited.{Solicited}
use Rattle.oi_history.specs.declared.task.Task.{Task}

pub length-pieces : (offset size max : ℕ) → length (pieces offset size max) ≡ piece_count size max
length-pieces offset size max = length-map-range_with_len (piece_at offset size max) 0 (piece_count size max)

pub length-queued : (id : ℕ) (tag : Tag) (ttt offset size max : ℕ) → length (queued_as id tag ttt (pieces offset size max)) ≡ piece_count size max
length-queued id tag ttt offset size max = length-map (pieces offset size max) _ ∙ length-pieces offset size max

drawn-if : (params : Option Params) (busy : List Allocated) (r : Solicited) (rs : List Solicited) (b : Bool)
    → length (flat_map (λ (x : Solicited). drawn_by params busy x) (if b then r ∷ rs else rs)) ≡ length (flat_map (λ (x : Solicited). drawn_by params busy x) (if b then r ∷ [] else [])) + length (flat_map (λ (x : Solicited). drawn_by params busy x) rs)
drawn-if params busy r rs true = omega (arith, length-append (drawn_by params busy r) (flat_map (λ (x : Solicited). drawn_by params busy x) rs), ap length (append-nil (drawn_by params busy r)))
drawn-if params busy r rs false = omega arith

drawn-cons : (params : Option Params) (busy : List Allocated) (tasks : List Task) (r : Solicited) (rs : List Solicited) → length (drawn params busy tasks (r ∷ rs)) ≡ length (drawn params busy tasks (r ∷ [])) + length (drawn params busy tasks rs)
drawn-cons params busy tasks r rs = drawn-if params busy r (drawable busy tasks rs) (is_wanted busy tasks r)

pub drawn-part : (params : Option Params) (busy : List Allocated) (tasks : List Task) (rs : List Solicited) (i : ℕ) (d : Solicited) → i < length rs
    → length (drawn params busy tasks (take i rs)) + length (drawn params busy tasks (get_or rs i d ∷ [])) ≤ length (drawn params busy tasks rs)
drawn-part params busy tasks [] i d h = absurd (omega (arith, h))
drawn-part params busy tasks (r ∷ rs) zero d h = omega (arith, drawn-cons params busy tasks r rs)
drawn-part params busy tasks (r ∷ rs) (suc i) d h = omega (arith, drawn-cons params busy tasks r rs, drawn-cons params busy tasks r (take i rs), drawn-part params busy tasks rs i d (omega (arith, h)))

-- a command that goes out changes nothing of what its write sends unasked
pub unasked-same : (params : Option Params) (id k generation : ℕ) (tag mine : Tag) (ts : List Task) → unasked params k tag (slice_get (changed id (issued generation mine) ts) id) ≡ unasked params k tag (slice_get ts id)
unasked-same None id k generation tag mine ts = refl
unasked-same (Some p) zero k generation tag mine [] = refl
unasked-same (Some p) (suc id) k generation tag mine [] = refl
unasked-same (Some p) zero k generation tag mine (t ∷ ts) = refl
unasked-same (Some p) (suc id) k generation tag mine (t ∷ ts) = unasked-same (Some p) id k generation tag mine ts
