use Rattle.std.proofs.Common.{ap, ◌||◌, ◌∙◌, Bool}
use Rattle.oi_drive.proofs.Parts.{line_done, own_broke, rest_failed}
use Rattle.oi_drive.specs.Runs.{seen}
use Rattle.oi_drive.specs.Worlds.{stop_by}
use Rattle.oi_drive.proofs.lines.by_line.Goals as goal

pub returns-in-Err-clause-partly : goal.returns-in-Err-clause-partly
returns-in-Err-clause-partly c = own_broke (seen c.args.run.now) (seen c.act.new.run) c.args.line c.args.out.now.items c.act.new.out.items c.in-Err.field-0 c.in-Err.ensures

pub returns-in-Err-settle-clause-partly : goal.returns-in-Err-settle-clause-partly
returns-in-Err-settle-clause-partly c =
    rest_failed (seen c.args.run.now) (seen c.act.new.run) c.args.line c.in-Ok.own c.saturating_add-number.result c.args.out.now.items c.act.new.out.items c.settle.new.out.items c.settle.new.solo
    c.in-Err-settle.field-0 c.in-Ok.ensures c.saturating_add-number.ensures c.in-Err-settle.ensures

pub returns-clause-world : goal.returns-clause-world
returns-clause-world c =
    line_done (seen c.args.run.now) (seen c.act.new.run) c.args.line c.in-Ok.own c.in-Ok-settle.answer c.args.out.now.items c.act.new.out.items c.settle.new.out.items c.settle.new.solo
    (c.act.new.run.begun || c.begins-begins.result) (c.act.new.run.refused || c.is_refusal.result) c.clear.new.self.items c.saturating_add-number.result c.stop_by-run.result
    c.in-Ok.ensures c.saturating_add-number.ensures c.in-Ok-settle.ensures (ap (λ (b : Bool). c.act.new.run.begun || b) c.begins-begins.ensures)
    (ap (λ (b : Bool). c.act.new.run.refused || b) c.is_refusal.ensures) c.clear.ensures.items
    (c.stop_by-run.ensures ∙ ap (λ (b : Bool). stop_by c.in-Ok-settle.answer c.saturating_add-number.result b) c.is_end-ends.ensures)
