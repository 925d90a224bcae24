use Rattle.std.proofs.Common.{◌≡◌, ◌<◌, ◌∷◌, ◌+◌, ◌∙◌, ℕ, List, Option, Result, None, [], Ok, Err, ap, arith, drop, length, map, subst, sym}
use Rattle.std.specs.String.{string_bytes}
use Rattle.oi_words.specs.Parses.{IsStep}
use Rattle.oi_words.specs.declared.fault.WordsFault.{WordsFault}
use Rattle.oi_words.proofs.Fronts.{IsTaken, drop_at, none_taken, step_bad, step_on}
use Rattle.oi_words.proofs.forms.read_forms.Goals as goal

pub loop-word-init : goal.loop-word-init
loop-word-init c =
    subst (λ (forms : List (List ℕ)). IsTaken (map (λ s. string_bytes s) c.args.words.now) 0 forms None)
    (sym (ap (λ xs. map (λ s. string_bytes s) xs) c.new-forms.ensures.items)) (none_taken (map (λ s. string_bytes s) c.args.words.now))

pub returns-in-Err-clause-bad : goal.returns-in-Err-clause-bad
returns-in-Err-clause-bad c = λ is.
    let small : c.loop-word.word-index < length c.args.words.now = omega arith in
    let old : List (List ℕ) = map (λ s. string_bytes s) c.loop-word.forms.items in
    let new : List (List ℕ) = map (λ s. string_bytes s) c.step.new.forms.items in
    step_bad (map (λ s. string_bytes s) c.args.words.now) c.loop-word.word-index old new c.loop-word.waiting (string_bytes c.word-item.result)
    (drop_at (λ s. string_bytes s) c.args.words.now c.loop-word.word-index c.word-item.result small c.word-item.is) c.loop-word.invariant
    (subst (λ (f : WordsFault). IsStep c.loop-word.waiting (string_bytes c.word-item.result) (Err f) old new) is
    (subst (λ (w : List ℕ). IsStep c.loop-word.waiting w (Err c.in-Err.fault) old new) c.as_str.ensures.value c.in-Err.ensures))

pub loop-word-preserved : goal.loop-word-preserved
loop-word-preserved c =
    let small : c.loop-word.word-index < length c.args.words.now = omega arith in
    let old : List (List ℕ) = map (λ s. string_bytes s) c.loop-word.forms.items in
    let new : List (List ℕ) = map (λ s. string_bytes s) c.step.new.forms.items in
    step_on (map (λ s. string_bytes s) c.args.words.now) c.loop-word.word-index old new c.loop-word.waiting c.in-Ok.next (string_bytes c.word-item.result)
    (drop_at (λ s. string_bytes s) c.args.words.now c.loop-word.word-index c.word-item.result small c.word-item.is) c.loop-word.invariant
    (subst (λ (w : List ℕ). IsStep c.loop-word.waiting w (Ok c.in-Ok.next) old new) c.as_str.ensures.value c.in-Ok.ensures)
