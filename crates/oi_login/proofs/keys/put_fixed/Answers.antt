use Rattle.oi_login.proofs.Texts.{four}
use Rattle.oi_login.proofs.keys.put_fixed.Goals as goal

pub returns : goal.returns
returns c = four _ _ _ _ _ _ _ _ _ c.in_ok-put.ensures c.in_ok-put-2.ensures c.in_ok-put-3.ensures c.in_ok-put-4.ensures
