use Rattle.oi_admin.specs.Commands.{IsFilter}
use Rattle.oi_admin.specs.Readings.{AsksPlace}
use Rattle.oi_admin.proofs.Shapes.{refused}
use Rattle.oi_admin.proofs.readings.read_filter.Goals as goal

pub returns-in-Err-asked_portal : goal.returns-in-Err-asked_portal
returns-in-Err-asked_portal c =
    refused (AsksPlace c.args.options.now.portal) (IsFilter c.args.options.now) c.in-Err-asked_portal.fault (λ f by. ((f.portal, f.tag), by.1)) c.in-Err-asked_portal.ensures
