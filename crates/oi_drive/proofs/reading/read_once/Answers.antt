use Rattle.std.proofs.Common.{◌∙◌, ◌-◌, List, ℕ, sym, ap, arith, refl, take}
use Rattle.std.proofs.lemmas.List.{length-take-le}
use Rattle.oi_drive.proofs.Breaks.{broke_by, end_broke, front_broke, read_is_other, unmoved}
use Rattle.oi_drive.specs.declared.runner.Broken.TheVariants.{Read}
use Rattle.oi_drive.proofs.Readings.{finishes_stopped}
use Rattle.oi_drive.specs.Runs.{seen}
use Rattle.oi_drive.specs.Worlds.{feed, feed_text}
use Rattle.oi_outside.specs.Streams.{behind}
use Rattle.oi_drive.proofs.reading.read_once.Goals as goal

pub returns-then-is_some : goal.returns-then-is_some
returns-then-is_some g c =
    let front = c.front-2.ensures in (
      finishes_stopped c.args.room (c.args.room - c.in-Ok.n) (g.S.Source.left c.args.source.now) (g.S.Source.left c.read.new.self) (seen c.args.run.now) (seen c.take_piece-2.new.run)
          (g.K.Sink.held c.args.sink.now) (g.K.Sink.held c.take_piece-2.new.sink) (take c.in-Ok.n c.read.new.buf)
          c.in-Ok.ensures.reads.1
          (omega (arith, length-take-le c.in-Ok.n c.read.new.buf c.in-Ok.ensures.reads.0))
          (c.in-Ok-take_piece-2.ensures.world ∙ ap (λ (z : List ℕ). feed (seen c.args.run.now) z) front)
          (sym c.is_some.ensures ∙ c.if-is_some.true)
          (c.in-Ok-take_piece-2.ensures.prints.0 ∙ ap (λ (z : List ℕ). behind (g.K.Sink.held c.args.sink.now) (feed_text (seen c.args.run.now) z)) front),
      c.in-Ok.ensures.count,
      c.in-Ok-take_piece-2.ensures.prints.1,
    )

pub returns-in-Err : goal.returns-in-Err
returns-in-Err g c =
    ((c.in-Err.ensures.count, refl), unmoved Read (g.S.Source.left c.args.source.now) (g.S.Source.left c.read.new.self) (seen c.args.run.now) (g.K.Sink.held c.args.sink.now) read_is_other c.in-Err.ensures.reads)

pub returns-in-Err-take_piece : goal.returns-in-Err-take_piece
returns-in-Err-take_piece g c = (
  broke_by c.in-Err-take_piece.broken _ (g.K.Sink.held c.args.sink.now) (g.K.Sink.held c.take_piece.new.sink) (g.S.Source.faults c.args.source.now) (g.S.Source.faults c.read.new.self)
      (g.K.Sink.faults c.args.sink.now) (g.K.Sink.faults c.take_piece.new.sink) c.in-Ok.ensures.count c.in-Err-take_piece.ensures.prints,
  front_broke c.in-Err-take_piece.broken (g.S.Source.left c.args.source.now) (g.S.Source.left c.read.new.self) (seen c.args.run.now) (seen c.take_piece.new.run)
      (g.K.Sink.held c.args.sink.now) (g.K.Sink.held c.take_piece.new.sink) (g.K.Sink.faults c.args.sink.now) (g.K.Sink.faults c.take_piece.new.sink) c.in-Ok.n c.args.room c.read.new.buf
      c.front.result.now _ c.in-Ok.ensures.reads.1 (omega (arith, c.if-n-room.true)) c.front.ensures c.in-Err-take_piece.ensures.prints c.in-Err-take_piece.ensures.partly,
)

pub returns-in-Err-end_of_input : goal.returns-in-Err-end_of_input
returns-in-Err-end_of_input g c = (
  broke_by c.in-Err-end_of_input.broken _ (g.K.Sink.held c.args.sink.now) (g.K.Sink.held c.end_of_input.new.sink) (g.S.Source.faults c.args.source.now) (g.S.Source.faults c.read.new.self)
      (g.K.Sink.faults c.args.sink.now) (g.K.Sink.faults c.end_of_input.new.sink) c.in-Ok.ensures.count c.in-Err-end_of_input.ensures.prints,
  end_broke c.in-Err-end_of_input.broken (g.S.Source.left c.args.source.now) (g.S.Source.left c.read.new.self) (seen c.args.run.now) (seen c.end_of_input.new.run)
      (g.K.Sink.held c.args.sink.now) (g.K.Sink.held c.end_of_input.new.sink) (g.K.Sink.faults c.args.sink.now) (g.K.Sink.faults c.end_of_input.new.sink) c.in-Ok.n c.read.new.buf
      _ c.in-Ok.ensures.reads.1 c.if-n-eq0.true c.in-Ok.ensures.reads.2 c.in-Err-end_of_input.ensures.prints c.in-Err-end_of_input.ensures.partly c.in-Err-end_of_input.ensures.going,
)

pub returns-in-Err-take_piece-2 : goal.returns-in-Err-take_piece-2
returns-in-Err-take_piece-2 g c = (
  broke_by c.in-Err-take_piece-2.broken _ (g.K.Sink.held c.args.sink.now) (g.K.Sink.held c.take_piece-2.new.sink) (g.S.Source.faults c.args.source.now) (g.S.Source.faults c.read.new.self)
      (g.K.Sink.faults c.args.sink.now) (g.K.Sink.faults c.take_piece-2.new.sink) c.in-Ok.ensures.count c.in-Err-take_piece-2.ensures.prints,
  front_broke c.in-Err-take_piece-2.broken (g.S.Source.left c.args.source.now) (g.S.Source.left c.read.new.self) (seen c.args.run.now) (seen c.take_piece-2.new.run)
      (g.K.Sink.held c.args.sink.now) (g.K.Sink.held c.take_piece-2.new.sink) (g.K.Sink.faults c.args.sink.now) (g.K.Sink.faults c.take_piece-2.new.sink) c.in-Ok.n c.in-Ok.n c.read.new.buf
      c.front-2.result.now _ c.in-Ok.ensures.reads.1 (omega arith) c.front-2.ensures c.in-Err-take_piece-2.ensures.prints c.in-Err-take_piece-2.ensures.partly,
)
