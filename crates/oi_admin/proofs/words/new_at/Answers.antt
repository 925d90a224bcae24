use Rattle.std.proofs.Common.{◌≡◌, ◌∙◌, subst, sym}
use Rattle.std.specs.Option.{unwrap_or}
use Rattle.oi_settings.specs.Keys.{Key}
use Rattle.oi_admin.specs.declared.command.AdminCommand.TheVariants.{New}
use Rattle.oi_admin.specs.Commands.{IsCommand}
use Rattle.oi_admin.specs.Readings.{IsNameOf, IsPlaceOf}
use Rattle.oi_admin.proofs.Shapes.{made_name, made_place, new_is, refused}
use Rattle.oi_admin.proofs.words.new_at.Goals as goal

pub returns-in-Err : goal.returns-in-Err
returns-in-Err c =
    refused (IsNameOf c.args.target.now) (IsCommand c.args.options.now) c.in-Err.fault
    (λ command is. made_name c.args.options.now c.args.target.now command c.requires.mode c.requires.operation c.requires.target is) c.in-Err.ensures

pub returns-in-Err-read_portal : goal.returns-in-Err-read_portal
returns-in-Err-read_portal c =
    refused (IsPlaceOf c.args.portal.now) (IsCommand c.args.options.now) c.in-Err-read_portal.fault
    (λ command is. made_place c.args.options.now c.args.portal.now command c.requires.mode c.requires.operation c.requires.portal is) c.in-Err-read_portal.ensures

pub returns-in-Ok-iface_of : goal.returns-in-Ok-iface_of
returns-in-Ok-iface_of c =
    let place = c.in-Ok-read_portal.place in
    let whole : Key = record { target = c.args.target.now; portal = place.0; tag = unwrap_or place.1 1; iface = c.in-Ok-iface_of.iface } in
    let is : c.new.result ≡ whole =
    c.new.ensures ∙ (λ j. record { target = c.in-Ok.ensures.0 j; portal = place.0; tag = c.unwrap_or.ensures j; iface = c.in-Ok-iface_of.iface }) in
    subst (λ (k : Key). IsCommand c.args.options.now (New k)) (sym is)
    (new_is c.args.options.now c.args.target.now c.args.portal.now c.in-Ok-iface_of.iface place.0 place.1 c.requires.mode c.requires.operation c.requires.target c.requires.portal c.in-Ok.ensures.1
    c.in-Ok-read_portal.ensures c.in-Ok-iface_of.ensures)
