use Rattle.oi_login.proofs.Texts.{one}
use Rattle.oi_login.proofs.keys.put_target.Goals as goal

pub returns-in_ok-put-in-Some-clause-text : goal.returns-in_ok-put-in-Some-clause-text
returns-in_ok-put-in-Some-clause-text c = rw (c.in-Some.is, ← c.as_slice.ensures.bytes) (one _ _ _ c.in_ok-put-in-Some.ensures)
