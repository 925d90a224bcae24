use Rattle.std.proofs.Common.{◌≡◌, ℕ, List, [], ◌∷◌, length, refl, true≢false, sym, subst, ◌∙◌, arith}
use Rattle.std.proofs.lemmas.Bool.Decides.{nat_tests}
use Rattle.oi_settings.specs.Schema.{Row, Takes}
use Rattle.oi_settings.specs.Texts.{rows_of}
use Rattle.oi_settings.proofs.LineLists.{no_line_here, no_other_line, read_on}
use Rattle.oi_settings.proofs.PairLists.{AreLines-put, AreOnce-put, length-put}
use Rattle.oi_settings.proofs.Stores.{all_read, fault_behind, fault_here, fault_missing}
use Rattle.oi_settings.proofs.text.read_lines.Goals as goal

no_bytes : (xs : List ℕ) → length xs ≡ 0 → xs ≡ []
no_bytes [] e = refl
no_bytes (x ∷ xs) e = absurd (omega arith)

pub returns-then-not-is_complete-clause-fault : goal.returns-then-not-is_complete-clause-fault
returns-then-not-is_complete-clause-fault c =
    let i = c.loop-more.invariant in
    fault_missing c.args.schema c.args.text.now c.loop-more.rest.now c.loop-more.read c.loop-more.line i.whole i.lines i.once i.number c.in-Some.more.now c.in-Some.ensures
    (λ complete. true≢false (sym (c.is_complete.ensures.1 complete) ∙ c.if-not-is_complete.true))

pub returns-then-not-is_empty-clause-fault : goal.returns-then-not-is_empty-clause-fault
returns-then-not-is_empty-clause-fault c =
    let i = c.loop-more.invariant in
    fault_behind c.args.schema c.args.text.now c.loop-more.rest.now c.loop-more.read c.loop-more.line i.whole i.lines i.once i.number c.in-Some.more.now c.next_line.result c.in-Some.ensures
    (c.is_complete.ensures.0 c.if-not-is_complete.false) (grind (arith, nat_tests)) c.next_line.ensures

pub returns-in-Some-clause-ok : goal.returns-in-Some-clause-ok
returns-in-Some-clause-ok c =
    let i = c.loop-more.invariant in
    all_read c.args.schema c.args.text.now c.loop-more.rest.now c.loop-more.read c.loop-more.line i.whole i.lines i.once i.number c.in-Some.more.now c.in-Some.ensures
    (no_bytes c.in-Some.more.now (grind (arith, nat_tests))) (c.is_complete.ensures.0 c.if-not-is_complete.false)

pub returns-in_default-first_line-clause-fault : goal.returns-in_default-first_line-clause-fault
returns-in_default-first_line-clause-fault c =
    let i = c.loop-more.invariant in
    fault_here c.args.schema c.args.text.now c.loop-more.rest.now c.loop-more.read c.loop-more.line i.whole i.lines i.once i.number
    (no_line_here (rows_of c.args.schema) c.loop-more.read c.loop-more.rest.now c.in_default-first_line.ensures.none) (λ complete. c.in_default.ensures)

pub returns-then-has-clause-fault : goal.returns-then-has-clause-fault
returns-then-has-clause-fault c =
    let i = c.loop-more.invariant in
    let next = c.in-Some-first_line.next in
    let found = c.in-Some-first_line.ensures.found in
    fault_here c.args.schema c.args.text.now c.loop-more.rest.now c.loop-more.read c.loop-more.line i.whole i.lines i.once i.number
    (no_other_line (rows_of c.args.schema) c.loop-more.read c.loop-more.rest.now next.name.now next.value.now next.more.now found.0 found.1
    (λ good. true≢false (sym c.if-has.true ∙ c.has.ensures ∙ good.new))) (λ complete. c.in_default.ensures)

pub returns-then-not-taken-clause-fault : goal.returns-then-not-taken-clause-fault
returns-then-not-taken-clause-fault c =
    let i = c.loop-more.invariant in
    let next = c.in-Some-first_line.next in
    let found = c.in-Some-first_line.ensures.found in
    fault_here c.args.schema c.args.text.now c.loop-more.rest.now c.loop-more.read c.loop-more.line i.whole i.lines i.once i.number
    (no_other_line (rows_of c.args.schema) c.loop-more.read c.loop-more.rest.now next.name.now next.value.now next.more.now found.0 found.1
    (λ good. true≢false (sym (c.in-Ok.ensures.1 (subst (λ (rows : List Row). Takes rows next.name.now next.value.now) (sym c.settings_of.ensures) good.taken)) ∙ c.if-not-taken.true)))
    (λ complete. c.in_default.ensures)

pub loop-more-preserved : goal.loop-more-preserved
loop-more-preserved c =
    let i = c.loop-more.invariant in
    let next = c.in-Some-first_line.next in
    let found = c.in-Some-first_line.ensures.found in
    let new = sym c.has.ensures ∙ c.if-has.false in
    let taken = subst (λ (rows : List Row). Takes rows next.name.now next.value.now) c.settings_of.ensures (c.in-Ok.ensures.0 c.if-not-taken.false) in
    let kept = c.in-Ok-keep.ensures in
    record {
      whole = rw kept (read_on c.args.text.now c.loop-more.rest.now next.more.now next.name.now next.value.now c.loop-more.read i.whole found.1 new);
      lines = rw kept (AreLines-put (rows_of c.args.schema) next.name.now next.value.now c.loop-more.read i.lines found.0 taken);
      once = rw kept (AreOnce-put next.name.now next.value.now c.loop-more.read i.once);
      number = rw kept (let long = length-put next.name.now next.value.now c.loop-more.read new in omega (arith, long, i.number, c.next_line-line.ensures));
    }
