use Rattle.oi_admin.specs.Commands.{IsCommand}
use Rattle.oi_admin.specs.Readings.{IsPlaceOf}
use Rattle.oi_admin.proofs.Shapes.{discover_is, discovered_at, refused}
use Rattle.oi_admin.proofs.words.discovery_of.Goals as goal

pub returns-in-Ok : goal.returns-in-Ok
returns-in-Ok c = discover_is c.args.options.now _ c.in-Ok.portal c.in-Ok.field-0-1 c.requires c.in-Some.is c.in-Ok.ensures

pub returns-in-Err : goal.returns-in-Err
returns-in-Err c =
    refused (IsPlaceOf _) (IsCommand c.args.options.now) c.in-Err.fault (λ command is. discovered_at c.args.options.now _ command c.requires c.in-Some.is is) c.in-Err.ensures
