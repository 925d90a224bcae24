use Rattle.std.proofs.Common.{◌≡◌, ◌∙◌, List, None, ap, sym, subst}
use Rattle.oi_settings.specs.Texts.{Node}
use Rattle.oi_nodedb.specs.Databases.{Ascends, record_at, with_record}
use Rattle.oi_nodedb.proofs.Orders.{Ascends-with_record}
use Rattle.oi_nodedb.proofs.Outcomes.{gap_same}
use Rattle.oi_nodedb.proofs.db.NodeDb.take_in.Goals as goal

pub invariant_of-self-in-Err : goal.invariant_of-self-in-Err
invariant_of-self-in-Err c =
    let gap = gap_same c.deref.result.now c.self.inside.records.items c.in-Err.at c.args.node c.deref.ensures.value (c.in-Err.ensures.gap c.args.node (sym c.key.ensures.key)) in
    let new : record_at c.args.node.key c.self.inside.records.items ≡ None = ap (λ (ns : List Node). record_at c.args.node.key ns) c.self.view_is ∙ c.requires in
    subst (λ (ns : List Node). Ascends ns) (sym (c.in_ok-insert-in-Err.ensures.items ∙ gap)) (Ascends-with_record c.args.node c.self.inside.records.items c.self.invariant new)

pub returns : goal.returns
returns c =
    c.in_ok-insert-in-Err.ensures.items
    ∙ gap_same c.deref.result.now c.self.inside.records.items c.in-Err.at c.args.node c.deref.ensures.value (c.in-Err.ensures.gap c.args.node (sym c.key.ensures.key))
    ∙ ap (λ (ns : List Node). with_record c.args.node ns) c.self.view_is
