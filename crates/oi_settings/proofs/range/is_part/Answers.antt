use Rattle.oi_settings.proofs.range.is_part.Goals as goal

pub returns-in-Target : goal.returns-in-Target
returns-in-Target c = rw c.in-Target.is c.is_name.ensures

pub returns-in-Address : goal.returns-in-Address
returns-in-Address c = rw c.in-Address.is c.is_address.ensures
