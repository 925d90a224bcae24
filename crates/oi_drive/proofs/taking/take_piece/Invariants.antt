use Rattle.oi_drive.proofs.Takings.{IsTaking}
use Rattle.oi_drive.specs.Runs.{seen}
use Rattle.oi_drive.proofs.taking.take_piece.Given as goal

abbrev pub invariant-loop-b : goal.invariant-loop-b
invariant-loop-b g l =
    IsTaking (seen l.initial.run) (seen l.run) l.piece l.b-index (g.K.Sink.held l.initial.sink) (g.K.Sink.held l.sink) (g.K.Sink.faults l.initial.sink) (g.K.Sink.faults l.sink)
