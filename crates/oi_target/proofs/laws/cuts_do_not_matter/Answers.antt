use Rattle.oi_target.proofs.Framed.{cuts_do_not_matter, pdus_are_framed}
use Rattle.oi_target.proofs.laws.cuts_do_not_matter.Goals as goal

pub returns-clause-cuts : goal.returns-clause-cuts
returns-clause-cuts c = cuts_do_not_matter

pub returns-clause-framed : goal.returns-clause-framed
returns-clause-framed c = pdus_are_framed
