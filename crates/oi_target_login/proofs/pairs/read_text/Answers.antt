use Rattle.std.proofs.Common.{sym}
use Rattle.oi_text.specs.Pairs.{IsFault}
use Rattle.oi_text.specs.declared.pairs.TextFault.TheVariants.{Malformed}
use Rattle.oi_target_login.proofs.Reading.{fault_is}
use Rattle.oi_target_login.proofs.pairs.read_text.Goals as goal

pub returns-in-Err-Malformed : goal.returns-in-Err-Malformed
returns-in-Err-Malformed c =
    let fault : IsFault c.args.text.now (Malformed c.in-Err-Malformed.field-0-0) = rw c.in-Err-Malformed.field-0-is at c.in-Err-Malformed.ensures.fault in
    sym (fault_is c.args.text.now c.in-Err-Malformed.field-0-0 fault)
