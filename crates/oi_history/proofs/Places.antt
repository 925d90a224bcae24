-- One place of a list changed, and lists changed at every place.
use Rattle.std.proofs.Common.{◌≡◌, ◌<◌, ◌+◌, ◌∙◌, ℕ, suc, zero, List, [], ◌∷◌, ◌++◌, length, take, drop, map, sym, ap, refl, arith, add-one, append-nil, append_assoc, get_or, Some, Result, Ok, Err, OnOk, slice_get}
use Rattle.std.proofs.Math.ListN.{set}
use Rattle.std.proofs.lemmas.List.{length-take-le, take_more}
use Rattle.std.specs.List.{range_with_len}
use Rattle.oi_base.specs.TagLayout.{command_tag}
use Rattle.oi_base.specs.declared.tag.Tag.{Tag}
use Rattle.oi_history.specs.Tags.{fresh_tags}
use Rattle.oi_history.specs.Tasks.{changed, due_from, due_of}
use Rattle.oi_history.specs.declared.fate.Delivered.{Delivered}
use Rattle.oi_history.specs.declared.task.Task.{Task}

-- a write at one place, as code makes it
pub changed-set : (id : ℕ) (f : Task → Task) (ts : List Task) (d : Task) → id < length ts → set ts id (f (get_or ts id d)) ≡ changed id f ts
changed-set zero f [] d h = absurd (omega arith)
changed-set (suc id) f [] d h = absurd (omega arith)
changed-set zero f (t ∷ ts) d h = refl
changed-set (suc id) f (t ∷ ts) d h = ap (λ (z : List Task). t ∷ z) (changed-set id f ts d (omega arith))

pub due_from-append : (n : ℕ) (xs ys : List Task) → due_from n (xs ++ ys) ≡ due_from n xs ++ due_from (n + length xs) ys
due_from-append n [] ys = ap (λ m. due_from m ys) (omega arith)
due_from-append n (x ∷ xs) ys =
    let more : n + 1 + length xs ≡ n + suc (length xs) = omega arith in
    rw (due_from-append (n + 1) xs ys, more) (sym (append_assoc (due_of n x x.fate) (due_from (n + 1) xs) (due_from (n + suc (length xs)) ys)))

-- one submission more, in the order of ids
pub due_from_more : (ts : List Task) (id : ℕ) (d : Task) → id < length ts → due_from 0 (take (id + 1) ts) ≡ due_from 0 (take id ts) ++ due_of id (get_or ts id d) (get_or ts id d).fate
due_from_more ts id d h =
    let lens : 0 + length (take id ts) ≡ id = omega (arith, length-take-le id ts (omega arith)) in
    rw (take_more ts id d h, due_from-append 0 (take id ts) (get_or ts id d ∷ []), lens) (ap (λ (z : List Delivered). due_from 0 (take id ts) ++ z) (append-nil (due_of id (get_or ts id d) (get_or ts id d).fate)))

-- the same, as a goal has it
pub place_changed : (id : ℕ) (f : Task → Task) (ts : List Task) (x v : Task) → id < length ts → x ≡ get_or ts id x → v ≡ f x → set ts id v ≡ changed id f ts
place_changed id f ts x v h is makes = rw (makes ∙ ap f is) (changed-set id f ts x h)

set_over : (f : Task → Task) (ts : List Task) (i : ℕ) (d : Task) → i < length ts
    → set (map f (take i ts) ++ drop i ts) i (f (get_or (map f (take i ts) ++ drop i ts) i d)) ≡ map f (take (suc i) ts) ++ drop (suc i) ts
set_over f [] i d h = absurd (omega arith)
set_over f (t ∷ ts) zero d h = refl
set_over f (t ∷ ts) (suc i) d h = ap (λ (z : List Task). f t ∷ z) (set_over f ts i d (omega arith))

-- a list changed at every place, one place further
pub changed_over : (f : Task → Task) (ts items : List Task) (i : ℕ) (d v : Task) → i < length ts → items ≡ map f (take i ts) ++ drop i ts → v ≡ f (get_or items i d)
    → set items i v ≡ map f (take (i + 1) ts) ++ drop (i + 1) ts
changed_over f ts items i d v h is makes = rw (makes, is, add-one) (set_over f ts i d h)

range_more : (a n : ℕ) → range_with_len a (suc n) ≡ range_with_len a n ++ (a + n) ∷ []
range_more a zero = ap (λ m. m ∷ []) (omega arith)
range_more a (suc n) = ap (λ (z : List ℕ). a ∷ z) (range_more (a + 1) n ∙ ap (λ m. range_with_len (a + 1) n ++ m ∷ []) (omega arith))

map-push : (f : ℕ → Tag) (xs : List ℕ) (y : ℕ) → map f (xs ++ y ∷ []) ≡ map f xs ++ f y ∷ []
map-push f [] y = refl
map-push f (x ∷ xs) y = ap (λ (z : List Tag). f x ∷ z) (map-push f xs y)

tag_is : (t : Tag) (n : ℕ) → t.0 ≡ n → t ≡ record { 0 = n }
tag_is t n e = ap (λ (m : ℕ). let made : Tag = record { 0 = m } in made) e

fresh_tags_step : (age n : ℕ) → fresh_tags age (n + 1) ≡ fresh_tags age n ++ record { 0 = command_tag age n } ∷ []
fresh_tags_step age n =
    let f : ℕ → Tag = λ i. record { 0 = command_tag age i } in
    ap (λ m. fresh_tags age m) (add-one n) ∙ (ap (λ z. map f z) (range_more 0 n) ∙ (map-push f (range_with_len 0 n) (0 + n) ∙ ap (λ m. map f (range_with_len 0 n) ++ f m ∷ []) (omega arith)))

-- one tag more of a connection
pub fresh_tags_more : (age n : ℕ) (tags : List Tag) (t : Tag) → tags ≡ fresh_tags age n → t.0 ≡ command_tag age n → tags ++ t ∷ [] ≡ fresh_tags age (n + 1)
fresh_tags_more age n tags t is makes =
    ap (λ (z : List Tag). z ++ t ∷ []) is ∙ (ap (λ x. fresh_tags age n ++ x ∷ []) (tag_is t (command_tag age n) makes) ∙ sym (fresh_tags_step age n))

pub due_step : (ts : List Task) (id : ℕ) (x : Task) (out new : List Delivered) → id < length ts → x ≡ get_or ts id x → out ≡ due_from 0 (take id ts) → new ≡ out ++ due_of id x x.fate
    → new ≡ due_from 0 (take (id + 1) ts)
due_step ts id x out new h item is makes =
    makes ∙ (ap (λ (z : List Delivered). z ++ due_of id x x.fate) is ∙ (ap (λ y. due_from 0 (take id ts) ++ due_of id y y.fate) item ∙ sym (due_from_more ts id x h)))

pub on_ok : {T E : Type 0} (r : Result T E) (P Q : Type 0) → (P → Q) → OnOk r P → OnOk r Q
on_ok (Ok u) P Q f p = f p
on_ok (Err e) P Q f p = p

get_is : (ts : List Task) (id : ℕ) (d : Task) → id < length ts → slice_get ts id ≡ Some (get_or ts id d)
get_is [] id d h = absurd (omega arith)
get_is (t ∷ ts) zero d h = refl
get_is (t ∷ ts) (suc id) d h = get_is ts id d (omega arith)

pub get_at : (id : ℕ) (ts : List Task) (x : Task) → id < length ts → x ≡ get_or ts id x → slice_get ts id ≡ Some x
get_at id ts x h is = get_is ts id x h ∙ ap (λ (y : Task). Some y) (sym is)
