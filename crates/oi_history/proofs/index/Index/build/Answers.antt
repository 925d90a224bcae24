use Rattle.std.proofs.Common.{◌≡◌, ◌∙◌, ◌+◌, ℕ, ap, arith, drop}
use Rattle.oi_history.proofs.Ranges.{high_next, low_next}
use Rattle.oi_history.specs.Indices.{high_over, low_over}
use Rattle.oi_history.proofs.index.Index.build.Goals as goal

pub loop-count-preserved : goal.loop-count-preserved
loop-count-preserved c = (
  c.add.ensures.index,
  ap (λ (low : ℕ). low_over (c.loop-count.count + 1) (drop (c.loop-count.count + 1) c.args.tasks.now) low) c.add.ensures.range.low_is
      ∙ low_next c.args.tasks.now c.loop-count.count c.loop-count.self.low (omega arith) ∙ c.loop-count.invariant.1,
  ap (λ (high : ℕ). high_over (c.loop-count.count + 1) (drop (c.loop-count.count + 1) c.args.tasks.now) high) c.add.ensures.range.high_is
      ∙ high_next c.args.tasks.now c.loop-count.count c.loop-count.self.high (omega arith) ∙ c.loop-count.invariant.2,
)
