use Rattle.oi_tool.proofs.Fits.{update_told}
use Rattle.oi_tool.proofs.asking.is_fit.Goals as goal

pub returns-in-Update : goal.returns-in-Update
returns-in-Update c =
    update_told c.args.command.now c.in-Update.filter c.as_slice.result.now c.as_slice-in-Update.result.now c.is_setting.result
    (cc (c.in-Update.is, c.as_slice.ensures, c.as_slice-in-Update.ensures)) c.is_setting.ensures
