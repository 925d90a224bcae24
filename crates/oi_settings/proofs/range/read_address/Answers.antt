use Rattle.std.proofs.Common.{ap, is_some, length, ◌∙◌, sym, true≢false}
use Rattle.std.proofs.lemmas.List.{length-map}
use Rattle.oi_names.specs.Portals.{lower_byte}
use Rattle.oi_settings.proofs.AddressTexts.{address_alone, none_there, read_of_address}
use Rattle.oi_settings.proofs.range.read_address.Goals as goal

pub returns-then-is_some : goal.returns-then-is_some
returns-then-is_some c = λ word.
    let r = read_of_address c.args.text.now c.in-Ok.read.0.address c.in-Ok.read.0.port c.in-Ok.read.1 c.in-Ok.ensures.ok word in
    true≢false (sym c.if-is_some.true ∙ c.is_some.ensures ∙ ap is_some r.1)

pub returns-then-as_slice-text : goal.returns-then-as_slice-text
returns-then-as_slice-text c = λ word.
    let r = read_of_address c.args.text.now c.in-Ok.read.0.address c.in-Ok.read.0.port c.in-Ok.read.1 c.in-Ok.ensures.ok word in
    c.if-as_slice-text.true (ap length c.as_slice.ensures ∙ ap length r.0 ∙ length-map c.args.text.now lower_byte)

pub returns : goal.returns
returns c =
    address_alone c.args.text.now c.in-Ok.read.0.address c.in-Ok.read.0.port c.in-Ok.read.1
    (none_there c.in-Ok.read.1 (sym c.is_some.ensures ∙ c.if-is_some.false)) c.in-Ok.ensures.ok (sym (ap length c.as_slice.ensures) ∙ c.if-as_slice-text.false)
