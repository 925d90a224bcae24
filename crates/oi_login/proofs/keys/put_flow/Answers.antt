use Rattle.oi_login.proofs.Texts.{four}
use Rattle.oi_login.proofs.keys.put_flow.Goals as goal

pub returns : goal.returns
returns c = four _ _ _ _ _ _ _ _ _ c.in_ok-put_word.ensures c.in_ok-put_word-2.ensures c.in_ok-put_number.ensures c.in_ok-put_number-2.ensures
