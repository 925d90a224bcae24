use Rattle.std.proofs.Common.{rules}
use Rattle.oi_drive.proofs.Breaks.{line_printed}
use Rattle.oi_drive.specs.Runs.{seen}
use Rattle.oi_drive.proofs.taking.end_line.Goals as goal

pub returns-clause-partly : goal.returns-clause-partly
returns-clause-partly g c =
    line_printed c.print.result (seen c.args.run.now) (seen c.line_step.new.run) (g.K.Sink.held c.args.sink.now) (g.K.Sink.held c.print.new.sink)
    (g.K.Sink.faults c.args.sink.now) (g.K.Sink.faults c.print.new.sink) c.in_ok-line_step.ensures.world (search rules)
