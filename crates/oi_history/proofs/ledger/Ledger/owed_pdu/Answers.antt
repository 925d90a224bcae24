use Rattle.std.proofs.Common.{◌∙◌, ◌++◌, [], Bool, ap, filter, slice_get, if◌then◌else◌}
use Rattle.std.specs.List.{flat_map}
use Rattle.oi_history.proofs.Turning.{sends}
use Rattle.oi_history.specs.Queues.{drawn_by}
use Rattle.oi_history.specs.Releasing.{counts_left, data_left, ready, told_stat}
use Rattle.oi_history.proofs.ledger.Ledger.owed_pdu.Goals as goal

pub returns : goal.returns
returns c =
    λ last names. let m = c.args.self.now.now in
    c.pdu_of.ensures (ready c.args.self.now.config c.args.owed.now m) last (sends c.args.self.now.config m c.args.owed.now c.told_ready.result c.first_ready.result
    (c.told_ready.ensures ∙ ap (λ (b : Bool). if b then m.stat else told_stat m.ended m) c.is_some-drawn.ensures)
    (c.first_ready.ensures ∙ ap (λ (b : Bool). slice_get (data_left m.ended m.queue ++ (if b then flat_map (drawn_by m.params m.busy) (filter (counts_left m.ended m.busy m.tasks) m.solicited) else [])) 0) c.is_some-drawn.ensures)) names
