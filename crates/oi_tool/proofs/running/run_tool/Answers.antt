use Rattle.oi_tool.proofs.Endings.{done_tool, stopped_tool}
use Rattle.oi_tool.proofs.running.run_tool.Goals as goal

pub returns-in-Ok-clause-run : goal.returns-in-Ok-clause-run
returns-in-Ok-clause-run g c = done_tool _ _ _ _ _ _ _ _ _ _ _ _ c.in-Ok.ensures.answer c.end_done.ensures

pub returns-in-Err-clause-run : goal.returns-in-Err-clause-run
returns-in-Err-clause-run g c = stopped_tool _ _ _ _ _ _ _ _ _ _ _ _ _ c.in-Err.ensures.answer c.end_stopped.ensures
