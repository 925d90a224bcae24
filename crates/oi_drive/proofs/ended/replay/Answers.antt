use Rattle.std.proofs.Common.{◌∷◌, []}
use Rattle.oi_drive.proofs.Closings.{broken_cause, broken_exact, broken_known, closes_cause, closes_exact, closes_known, partly_left, whole_left}
use Rattle.oi_drive.specs.Endings.{IsDrive}
use Rattle.oi_drive.specs.Runs.{seen}
use Rattle.oi_solo.specs.Sessions.{run_of}
use Rattle.oi_drive.proofs.ended.replay.Goals as goal

pub returns-in-Ok-clause-exact : goal.returns-in-Ok-clause-exact
returns-in-Ok-clause-exact g c = λ bytes is calm quiet memory.
    closes_exact (g.S.Source.left c.args.source.now) (seen c.args.run.now) (seen c.read_input.new.run) c.close_read.new.run.solo c.close_read.result
    (g.K.Sink.held c.args.sink.now) (g.K.Sink.held c.read_input.new.sink) (g.K.Sink.held c.close_read.new.sink)
    (g.K.Sink.faults c.args.sink.now) (g.K.Sink.faults c.read_input.new.sink) (g.K.Sink.faults c.close_read.new.sink)
    c.requires c.in-Ok.ensures.0 c.in-Ok.ensures.2 c.close_read.ensures.closes bytes is quiet memory

pub returns-in-Ok-clause-cause : goal.returns-in-Ok-clause-cause
returns-in-Ok-clause-cause g c =
    closes_cause (seen c.read_input.new.run) c.close_read.new.run.solo c.close_read.result (g.K.Sink.held c.read_input.new.sink) (g.K.Sink.held c.close_read.new.sink)
    (g.S.Source.faults c.args.source.now) (g.S.Source.faults c.read_input.new.source) (g.K.Sink.faults c.args.sink.now) (g.K.Sink.faults c.read_input.new.sink)
    (g.K.Sink.faults c.close_read.new.sink) c.in-Ok.ensures.1 c.in-Ok.ensures.2 c.close_read.ensures.closes

pub returns-in-Err-clause-exact : goal.returns-in-Err-clause-exact
returns-in-Err-clause-exact g c = λ bytes is calm quiet memory.
    broken_exact c.in-Err.broken c.close_broken.result (g.S.Source.faults c.args.source.now) (g.S.Source.faults c.read_input.new.source) (g.K.Sink.faults c.args.sink.now)
    (g.K.Sink.faults c.read_input.new.sink) (g.K.Sink.faults c.close_broken.new.sink)
    (IsDrive bytes c.close_broken.result (run_of c.close_broken.new.run.solo ∷ []) (g.K.Sink.held c.args.sink.now) (g.K.Sink.held c.close_broken.new.sink))
    c.in-Err.ensures.0 c.close_broken.ensures.status c.close_broken.ensures.quiet calm quiet memory

pub returns-in-Err-clause-cause : goal.returns-in-Err-clause-cause
returns-in-Err-clause-cause g c =
    broken_cause c.in-Err.broken c.close_broken.result (g.S.Source.faults c.args.source.now) (g.S.Source.faults c.read_input.new.source) (g.K.Sink.faults c.args.sink.now)
    (g.K.Sink.faults c.read_input.new.sink) (g.K.Sink.faults c.close_broken.new.sink) c.in-Err.ensures.0 c.close_broken.ensures.status c.close_broken.ensures.quiet

pub returns-in-Ok-clause-left : goal.returns-in-Ok-clause-left
returns-in-Ok-clause-left g c =
    whole_left (g.S.Source.left c.args.source.now) (g.S.Source.left c.read_input.new.source) (seen c.args.run.now) (seen c.read_input.new.run) c.close_read.new.run.solo c.close_read.result
    (g.K.Sink.held c.args.sink.now) (g.K.Sink.held c.read_input.new.sink) (g.K.Sink.held c.close_read.new.sink) (g.S.Source.faults c.args.source.now) (g.S.Source.faults c.read_input.new.source)
    (g.K.Sink.faults c.args.sink.now) (g.K.Sink.faults c.read_input.new.sink) (g.K.Sink.faults c.close_read.new.sink) c.requires c.in-Ok.ensures.0 c.in-Ok.ensures.1 c.in-Ok.ensures.2
    c.close_read.ensures.partly c.close_read.ensures.closes

pub returns-in-Err-clause-left : goal.returns-in-Err-clause-left
returns-in-Err-clause-left g c =
    partly_left c.in-Err.broken (g.S.Source.left c.args.source.now) (g.S.Source.left c.read_input.new.source) (seen c.args.run.now) (seen c.read_input.new.run) c.close_broken.new.run.solo c.close_broken.result
    (g.K.Sink.held c.args.sink.now) (g.K.Sink.held c.read_input.new.sink) (g.K.Sink.held c.close_broken.new.sink) (g.S.Source.faults c.args.source.now) (g.S.Source.faults c.read_input.new.source)
    (g.K.Sink.faults c.args.sink.now) (g.K.Sink.faults c.read_input.new.sink) (g.K.Sink.faults c.close_broken.new.sink) c.requires c.in-Err.ensures.0 c.in-Err.ensures.1 c.close_broken.ensures.closes
    c.close_broken.ensures.quiet c.close_broken.ensures.memory c.close_broken.ensures.status

pub returns-in-Ok-clause-known : goal.returns-in-Ok-clause-known
returns-in-Ok-clause-known g c =
    closes_known (seen c.read_input.new.run) c.close_read.new.run.solo c.close_read.result (g.K.Sink.held c.read_input.new.sink) (g.K.Sink.held c.close_read.new.sink)
    (g.K.Sink.faults c.read_input.new.sink) (g.K.Sink.faults c.close_read.new.sink) c.close_read.ensures.closes

pub returns-in-Err-clause-known : goal.returns-in-Err-clause-known
returns-in-Err-clause-known g c = broken_known c.in-Err.broken c.close_broken.result c.close_broken.ensures.status
