use Rattle.oi_drive.proofs.Parts.{line_partly}
use Rattle.oi_drive.specs.Runs.{seen}
use Rattle.oi_drive.proofs.lines.line_step.Goals as goal

pub returns-in-Ok-clause-partly : goal.returns-in-Ok-clause-partly
returns-in-Ok-clause-partly c =
    line_partly (seen c.args.run.now) c.deref.result.now c.in-Ok.line c.by_line.result c.by_line.new.run.solo c.deref.ensures.value c.in-Ok.ensures.line c.by_line.ensures.partly
