use Rattle.std.proofs.Common.{◌+◌, ◌<◌, ◌^◌, ◌==◌, All, List, not, rules, subst, sym}
use Rattle.std.proofs.lemmas.Fn.{filter_same}
use Rattle.std.proofs.lemmas.List.Elements.{All-filter}
use Rattle.oi_history.specs.declared.owed.Solicited.{Solicited}
use Rattle.oi_history.proofs.queueing.drop_solicited.Goals as goal

pub returns-clause-is : goal.returns-clause-is
returns-clause-is c = filter_same _ _ _ (λ x b f' k. search rules) _ _ c.retain.ensures.filtered

pub returns-clause-fits : goal.returns-clause-fits
returns-clause-fits c = λ all.
    let is = returns-clause-is c in
    subst (λ (rs : List Solicited). All (λ (r : Solicited). r.offset + r.length < 2 ^ 32) rs) (sym is)
    (All-filter (λ (r : Solicited). not (r.tag.0 == c.args.tag.0)) (λ (r : Solicited). r.offset + r.length < 2 ^ 32) c.args.solicited.now.items all)
