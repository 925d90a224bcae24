use Rattle.std.proofs.Common.{◌∙◌, ap, sym}
use Rattle.oi_history.specs.Phases.{is_ended}
use Rattle.oi_solo.proofs.Closing.{can_end, goes_on}
use Rattle.oi_solo.proofs.ending.terminate.Goals as goal

pub enter_ready-requires : goal.enter_ready-requires
enter_ready-requires c = can_end c.args.kept.now c.args.cause c.requires (ap is_ended (sym c.phase.ensures) ∙ goes_on c.phase.result c.in_default.not-Ended)
