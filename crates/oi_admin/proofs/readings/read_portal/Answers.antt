use Rattle.std.proofs.Common.{subst, sym}
use Rattle.oi_names.proofs.Readings.{word}
use Rattle.oi_names.specs.Names.{IsFault}
use Rattle.oi_names.specs.Portals.{IsPortal}
use Rattle.oi_names.specs.declared.fault.NameFault.{NameFault}
use Rattle.oi_admin.proofs.readings.read_portal.Goals as goal

pub returns-in-Err-Bad : goal.returns-in-Err-Bad
returns-in-Err-Bad c =
    let bad = subst (λ (f : NameFault). IsFault IsPortal c.as_slice.result.now f) c.in-Err-Bad.field-0-is c.in-Err-Bad.ensures.fault in
    λ place is. bad.0 (subst IsPortal (sym c.as_slice.ensures) (word c.args.text.now place.0.address place.0.port place.1 is))
