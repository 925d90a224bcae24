-- The answers to a list of calls, one call longer.
use Rattle.std.proofs.Common.{◌≡◌, ℕ, ◌<◌, ◌≤◌, ◌⊎◌, Some, List, [], ◌∷◌, ◌++◌, length, take, slice_get, refl, sym, ap, ◌∙◌, ⊎_elim, arith}
use Rattle.std.proofs.lemmas.Grind.{common_steps}
use Rattle.std.proofs.lemmas.List.{take-append-le, length-append, take_all}
use Rattle.std.proofs.lemmas.Option.{gets, slice_get_within}
use Rattle.std.proofs.lemmas.List.Sums.{fold-append}
use Rattle.oi_base.specs.declared.tag.Tag.{Tag}
use Rattle.oi_tags.specs.declared.state.TagState.TheVariants.{Free}
use Rattle.oi_tags.specs.declared.calls.TagCall.{TagCall}
use Rattle.oi_tags.specs.declared.calls.TagAnswer.{TagAnswer}
use Rattle.oi_tags.specs.declared.calls.TagAnswer.TheVariants.{Given}
use Rattle.oi_tags.specs.Pools.{Pool, state_of}
use Rattle.oi_tags.specs.Runs.{answer_of, after_call, after_calls, answers_of, GivesFreeTags}

pub answers_push : (p : Pool) (calls : List TagCall) (call : TagCall) → answers_of p (calls ++ call ∷ []) ≡ answers_of p calls ++ answer_of (after_calls p calls) call ∷ []
answers_push p [] call = refl
answers_push p (first ∷ calls) call = ap (λ xs. answer_of p first ∷ xs) (answers_push (after_call p first) calls call)

pub length_answers : (p : Pool) (calls : List TagCall) → length (answers_of p calls) ≡ length calls
length_answers p [] = refl
length_answers p (first ∷ calls) = grind (arith, common_steps, length_answers (after_call p first) calls)

front_stays : {X : Type 0} (xs : List X) (y : X) (k : ℕ) → k < length xs → slice_get (xs ++ y ∷ []) k ≡ slice_get xs k
front_stays xs y k within = grind (arith, common_steps, gets)

last_is : {X : Type 0} (xs : List X) (y : X) → slice_get (xs ++ y ∷ []) (length xs) ≡ Some y
last_is xs y = grind (arith, common_steps, gets)

pub after_push : (p : Pool) (calls : List TagCall) (call : TagCall) → after_calls p (calls ++ call ∷ []) ≡ after_call (after_calls p calls) call
after_push p calls call = fold-append after_call p calls (call ∷ [])

some_same : (x y : TagAnswer) → Some x ≡ Some y → x ≡ y
some_same x y e = cc

pub gives_push : (p : Pool) (calls : List TagCall) (answers : List TagAnswer) (call : TagCall) (answer : TagAnswer) → length answers ≡ length calls → GivesFreeTags p calls answers → ((tag : Tag) → answer ≡ Given (Some tag) → state_of (after_calls p calls) tag.0 ≡ Free) → GivesFreeTags p (calls ++ call ∷ []) (answers ++ answer ∷ [])
gives_push p calls answers call answer long so_far here k tag is =
    ⊎_elim
    (λ (before : k < length answers).
    let same : take k (calls ++ call ∷ []) ≡ take k calls = take-append-le k calls (call ∷ []) (omega arith) in
    rw same (so_far k tag (sym (front_stays answers answer k before) ∙ is)))
    (λ (late : length answers ≤ k). by_place (slice_get_within (answers ++ answer ∷ []) k (Given (Some tag)) is) late)
    (lt_or_le k (length answers))
  where
    lt_or_le : (a b : ℕ) → (a < b) ⊎ (b ≤ a)
    lt_or_le a b = grind arith

    by_place : k < length (answers ++ answer ∷ []) → length answers ≤ k → state_of (after_calls p (take k (calls ++ call ∷ []))) tag.0 ≡ Free
    by_place within late =
        let more = length-append answers (answer ∷ []) in
        let one : length (answer ∷ []) ≡ 1 = refl in
        let at : k ≡ length answers = omega arith in
        let whole : take k (calls ++ call ∷ []) ≡ calls = take-append-le k calls (call ∷ []) (omega arith) ∙ take_all k calls (omega arith) in
        let given : Some answer ≡ Some (Given (Some tag)) = sym (last_is answers answer) ∙ rw at at is in
        rw whole (here tag (some_same answer (Given (Some tag)) given))
