use Rattle.std.proofs.Common.{◌≡◌, ◌∙◌, ◌+◌, List, [], ◌∷◌, ◌++◌, length, take, get_or, sym, ap, refl, arith}
use Rattle.std.proofs.lemmas.List.{take_more, length-take}
use Rattle.oi_tags.specs.declared.calls.TagCall.{TagCall}
use Rattle.oi_tags.specs.declared.calls.TagCall.TheVariants.{Reset}
use Rattle.oi_tags.specs.Pools.{Pool}
use Rattle.oi_tags.specs.Runs.{after_call, after_calls}
use Rattle.oi_tags.proofs.Handing.{answers_push, after_push, gives_push}
use Rattle.oi_tags.proofs.run.run_tags.Goals as goal

pub loop-call-preserved : goal.loop-call-preserved
loop-call-preserved g c =
    let before = g.P.TagPool.pool c.args.pool.now in
    let calls = c.args.calls.now in
    let k = c.loop-call.call-index in
    let kept = c.loop-call.invariant in
    let call = get_or calls k (Reset 0) in
    let answered = c.answer.ensures in
    let pushed = c.push_reserved.ensures in
    let more : take (k + 1) calls ≡ take k calls ++ call ∷ [] = take_more calls k (Reset 0) c.loop-call-test.true in
    let long : length c.loop-call.answers.items ≡ length (take k calls) = omega (arith, kept.counted, c.loop-call.answers.ok.0, length-take k calls) in
    record {
      pool = answered.after ∙ ap (λ (p : Pool). after_call p call) kept.pool ∙ sym (after_push before (take k calls) call) ∙ ap (λ (xs : List TagCall). after_calls before xs) (sym more);
      answers = rw (more, pushed.items, answers_push before (take k calls) call, kept.answers, answered.value, kept.pool) refl;
      counted = omega (arith, pushed.len, kept.counted);
      room = pushed.capacity ∙ kept.room;
      free = rw (more, pushed.items) (gives_push before (take k calls) c.loop-call.answers.items call c.answer.result long kept.free (λ tag is. rw (← kept.pool) (answered.free tag is)));
    }
