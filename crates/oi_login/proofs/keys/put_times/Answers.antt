use Rattle.oi_login.proofs.Texts.{three}
use Rattle.oi_login.proofs.keys.put_times.Goals as goal

pub returns : goal.returns
returns c = three _ _ _ _ _ _ _ c.in_ok-put_number.ensures c.in_ok-put_number-2.ensures c.in_ok-put_number-3.ensures
