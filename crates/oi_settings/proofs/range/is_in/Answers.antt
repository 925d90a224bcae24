use Rattle.oi_settings.proofs.range.is_in.Goals as goal

pub returns-in-OfKey : goal.returns-in-OfKey
returns-in-OfKey c = rw c.in-OfKey.is c.is_part.ensures
