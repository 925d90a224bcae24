use Rattle.std.proofs.Common.{List, subst, sym}
use Rattle.oi_drive.specs.Endings.{IsDrive}
use Rattle.oi_solo.specs.Sessions.{RunView}
use Rattle.oi_drive.proofs.ended.drive_main.Goals as goal

pub returns-clause-exact : goal.returns-clause-exact
returns-clause-exact g c = λ bytes is calm quiet memory.
    subst (λ (runs : List RunView). IsDrive bytes c.replay-status.result runs (g.K.Sink.held c.args.sink.now) (g.K.Sink.held c.replay-status.new.sink)) (sym c.one_run.ensures.run)
    (c.replay-status.ensures.exact bytes is calm quiet memory)
