use Rattle.std.proofs.Common.{◌∙◌, ap}
use Rattle.oi_drive.proofs.Answered.{nothing_due}
use Rattle.oi_drive.proofs.Closings.{handed_or_not}
use Rattle.oi_history.specs.Tasks.{due_in}
use Rattle.oi_solo.specs.Sessions.{Session, now_of}
use Rattle.oi_drive.proofs.ended.close_session.Goals as goal

pub returns-in-Ok-clause-settled : goal.returns-in-Ok-clause-settled
returns-in-Ok-clause-settled c = ap (λ (s : Session). due_in (now_of s).tasks) c.in-Ok.ensures.0 ∙ nothing_due c.terminate.new.solo c.terminate.ensures.ended

pub returns-in-Err-clause-entries : goal.returns-in-Err-clause-entries
returns-in-Err-clause-entries c = handed_or_not c.args.cause c.args.solo.now c.terminate.new.solo c.hand_out.new.solo c.terminate.ensures.session c.in-Err.ensures
