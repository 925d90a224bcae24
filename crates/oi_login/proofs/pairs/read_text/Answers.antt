use Rattle.oi_login.proofs.Readings.{no_text}
use Rattle.oi_login.proofs.pairs.read_text.Goals as goal

pub returns-in-Err-Malformed : goal.returns-in-Err-Malformed
returns-in-Err-Malformed c = no_text c.args.text.now c.in-Err-Malformed.field-0 _ c.in-Err-Malformed.field-0-is c.in-Err-Malformed.ensures.fault
