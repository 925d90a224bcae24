use Rattle.std.proofs.Common.{get_or, refl}
use Rattle.oi_drive.proofs.Takings.{taking_broke, taking_more}
use Rattle.oi_drive.specs.Runs.{seen}
use Rattle.oi_drive.proofs.taking.take_piece.Goals as goal

pub returns-in-Err-clause-partly : goal.returns-in-Err-clause-partly
returns-in-Err-clause-partly g c =
    taking_broke c.in-Err.broken (seen c.args.run.now) (seen c.loop-b.run) (seen c.take_byte.new.run) c.args.piece.now c.loop-b.b-index (g.K.Sink.held c.args.sink.now) (g.K.Sink.held c.loop-b.sink)
    (g.K.Sink.held c.take_byte.new.sink) (g.K.Sink.faults c.args.sink.now) (g.K.Sink.faults c.loop-b.sink) c.loop-b-test.true c.loop-b.invariant c.in-Err.ensures.partly c.in-Err.ensures.going

pub loop-b-preserved : goal.loop-b-preserved
loop-b-preserved g c =
    taking_more (seen c.args.run.now) (seen c.loop-b.run) (seen c.take_byte.new.run) c.args.piece.now c.loop-b.b-index (get_or c.args.piece.now c.loop-b.b-index 0) (g.K.Sink.held c.args.sink.now)
    (g.K.Sink.held c.loop-b.sink) (g.K.Sink.held c.take_byte.new.sink) (g.K.Sink.faults c.args.sink.now) (g.K.Sink.faults c.loop-b.sink) (g.K.Sink.faults c.take_byte.new.sink)
    c.loop-b-test.true refl c.loop-b.invariant c.in-Ok.ensures.world c.in-Ok.ensures.prints
