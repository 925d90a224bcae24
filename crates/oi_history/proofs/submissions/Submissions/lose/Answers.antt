use Rattle.std.proofs.Common.{List, subst, sym, refl}
use Rattle.oi_history.proofs.Issuing.{kept-lost}
use Rattle.oi_history.proofs.Indexed.{seen}
use Rattle.oi_history.proofs.Standing.{AreFallen, fallen-from, falls_blow}
use Rattle.oi_history.proofs.Tallied.{kept-after}
use Rattle.oi_history.specs.Blows.{blow_by}
use Rattle.oi_history.specs.declared.recovering.Blow.TheVariants.{Loss}
use Rattle.oi_history.specs.declared.task.Task.{Task}
use Rattle.oi_history.proofs.submissions.Submissions.lose.Goals as goal

pub invariant_of-self : goal.invariant_of-self
invariant_of-self c = (
  let blow = Loss c.args.handler c.args.at_once c.args.counted in
      kept-lost c.self.inside.allowed c.self.inside.places c.strike_all.new.tally _ c.self.inside.tasks.items c.strike_all.new.tasks.items c.args.at c.args.handler c.args.at_once c.args.counted
      (kept-after c.self.inside.allowed c.self.inside.places c.self.inside.tally c.strike_all.new.tally c.self.inside.tasks.items c.strike_all.new.tasks.items c.self.invariant.0
      (subst (λ (z : List Task). AreFallen c.self.inside.allowed c.self.inside.tasks.items z) (sym c.strike_all.ensures.tasks)
      (fallen-from c.self.inside.allowed (blow_by c.self.inside.allowed c.args.at blow) (falls_blow c.self.inside.allowed c.args.at blow) 0 c.self.inside.tasks.items))
      c.strike_all.ensures.tally)
      c.strike_all.ensures.tasks refl c.clear.ensures.len,
  seen c.build.new.self c.strike_all.new.tasks.items c.deref.result.now c.deref.ensures.value c.build.ensures.index,
)
