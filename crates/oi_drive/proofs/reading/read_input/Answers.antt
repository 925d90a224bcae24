use Rattle.std.proofs.Common.{◌∙◌, ℕ, Option, Ok, refl, subst}
use Rattle.oi_base.specs.Limits.{input_limit}
use Rattle.oi_drive.proofs.Breaks.{broke_behind, memory_is_other, unmoved}
use Rattle.oi_drive.specs.declared.runner.Broken.TheVariants.{Memory}
use Rattle.oi_drive.proofs.Readings.{breaks_by_from, going_end, going_more}
use Rattle.oi_drive.specs.Inputs.{ReadsOnce}
use Rattle.oi_drive.specs.Runs.{seen}
use Rattle.oi_drive.proofs.reading.read_input.Goals as goal

pub loop-less-preserved : goal.loop-less-preserved
loop-less-preserved g c =
    let once = subst (λ (o : Option ℕ). ReadsOnce (Ok o) c.loop-less.room (g.S.Source.left c.loop-less.source) (g.S.Source.left c.read_once.new.source) (seen c.loop-less.run) (seen c.read_once.new.run)
    (g.K.Sink.held c.loop-less.sink) (g.K.Sink.held c.read_once.new.sink) (g.S.Source.faults c.loop-less.source) (g.S.Source.faults c.read_once.new.source)
    (g.K.Sink.faults c.loop-less.sink) (g.K.Sink.faults c.read_once.new.sink)) c.in-Ok-Some.field-0-is c.in-Ok-Some.ensures in (
      c.loop-less.invariant.0,
      going_more input_limit c.loop-less.room c.in-Ok-Some.less (g.S.Source.left c.args.source.now) (g.S.Source.left c.loop-less.source) (g.S.Source.left c.read_once.new.source)
          (seen c.args.run.now) (seen c.loop-less.run) (seen c.read_once.new.run) (g.K.Sink.held c.args.sink.now) (g.K.Sink.held c.loop-less.sink) (g.K.Sink.held c.read_once.new.sink)
          (g.S.Source.faults c.args.source.now) (g.S.Source.faults c.loop-less.source) (g.S.Source.faults c.read_once.new.source)
          (g.K.Sink.faults c.args.sink.now) (g.K.Sink.faults c.loop-less.sink) (g.K.Sink.faults c.read_once.new.sink) c.loop-less.invariant.1 once.0 once.1 once.2,
    )

pub returns-in-Ok-None : goal.returns-in-Ok-None
returns-in-Ok-None g c =
    let once = subst (λ (o : Option ℕ). ReadsOnce (Ok o) c.loop-less.room (g.S.Source.left c.loop-less.source) (g.S.Source.left c.read_once.new.source) (seen c.loop-less.run) (seen c.read_once.new.run)
    (g.K.Sink.held c.loop-less.sink) (g.K.Sink.held c.read_once.new.sink) (g.S.Source.faults c.loop-less.source) (g.S.Source.faults c.read_once.new.source)
    (g.K.Sink.faults c.loop-less.sink) (g.K.Sink.faults c.read_once.new.sink)) c.in-Ok-None.field-0-is c.in-Ok-None.ensures in
    let r = c.loop-less.invariant.1 in (
      going_end input_limit c.loop-less.room (g.S.Source.left c.args.source.now) (g.S.Source.left c.loop-less.source)
          (seen c.args.run.now) (seen c.loop-less.run) (seen c.read_once.new.run) (g.K.Sink.held c.args.sink.now) (g.K.Sink.held c.loop-less.sink) (g.K.Sink.held c.read_once.new.sink)
          (g.S.Source.faults c.args.source.now) (g.S.Source.faults c.loop-less.source) (g.K.Sink.faults c.args.sink.now) (g.K.Sink.faults c.loop-less.sink) r once.0,
      once.1 ∙ r.source_same,
      once.2 ∙ r.sink_same,
    )

pub returns-in_default : goal.returns-in_default
returns-in_default g c =
    ((refl, refl), unmoved Memory (g.S.Source.left c.args.source.now) (g.S.Source.left c.args.source.now) (seen c.args.run.now) (g.K.Sink.held c.args.sink.now) memory_is_other refl)

pub returns-in-Err : goal.returns-in-Err
returns-in-Err g c =
    let r = c.loop-less.invariant.1 in (
      breaks_by_from c.in-Err.broken (g.S.Source.faults c.args.source.now) (g.S.Source.faults c.loop-less.source) (g.S.Source.faults c.read_once.new.source)
          (g.K.Sink.faults c.args.sink.now) (g.K.Sink.faults c.loop-less.sink) (g.K.Sink.faults c.read_once.new.sink) r.source_same r.sink_same c.in-Err.ensures.0,
      broke_behind c.in-Err.broken (g.S.Source.left c.args.source.now) (g.S.Source.left c.loop-less.source) (g.S.Source.left c.read_once.new.source)
          (seen c.args.run.now) (seen c.loop-less.run) (seen c.read_once.new.run) (g.K.Sink.held c.args.sink.now) (g.K.Sink.held c.loop-less.sink) (g.K.Sink.held c.read_once.new.sink)
          r.so_far r.going c.in-Err.ensures.1,
    )
