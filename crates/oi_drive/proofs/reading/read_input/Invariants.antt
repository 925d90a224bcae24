use Rattle.std.proofs.Common.{◌<◌, vec_len}
use Rattle.oi_base.specs.Limits.{input_limit}
use Rattle.oi_drive.proofs.Readings.{IsGoing}
use Rattle.oi_drive.specs.Runs.{seen}
use Rattle.oi_drive.proofs.reading.read_input.Given as goal

abbrev pub invariant-loop-less : goal.invariant-loop-less
invariant-loop-less g l =
    (0 < vec_len l.buf)
    × IsGoing input_limit l.room (g.S.Source.left l.initial.source) (g.S.Source.left l.source) (seen l.initial.run) (seen l.run) (g.K.Sink.held l.initial.sink) (g.K.Sink.held l.sink)
    (g.S.Source.faults l.initial.source) (g.S.Source.faults l.source) (g.K.Sink.faults l.initial.sink) (g.K.Sink.faults l.sink)

abbrev pub decreases-loop-less : goal.decreases-loop-less
decreases-loop-less g l = l.room
