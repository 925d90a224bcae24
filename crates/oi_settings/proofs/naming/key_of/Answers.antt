use Rattle.std.proofs.Common.{◌≡◌, List, ℕ, Some, subst, sym, arith}
use Rattle.oi_names.specs.Names.{IsIface, IsName}
use Rattle.oi_names.specs.Portals.{lower_case}
use Rattle.oi_settings.specs.declared.schema.Part.TheVariants.{Target, Tag, Address, Port, Interface}
use Rattle.oi_settings.specs.Keys.{Key}
use Rattle.oi_settings.specs.Pairs.{Pair, value_of}
use Rattle.oi_settings.specs.Schema.{part_text}
use Rattle.oi_settings.specs.Texts.{IsKeyOf, part_name}
use Rattle.oi_settings.proofs.AddressTexts.{read_from}
use Rattle.oi_settings.proofs.naming.key_of.Goals as goal

pub invariant_of-result : goal.invariant_of-result
invariant_of-result c = record {
  name = subst IsName (sym c.in_ok-target.ensures) c.text_of.ensures.part;
  place = read_from c.in_ok-address.address c.text_of-3.result.now c.port_of-port.result c.in_ok-address.ensures c.text_of-3.ensures.part c.port_of-port.ensures.some (omega (arith, c.port_of-port.type_inv));
  group = omega (arith, c.tag_of-tag.type_inv);
  interface = subst IsIface (sym c.in_ok-iface.ensures) c.text_of-5.ensures.part;
}

named_by : (ps : List Pair) (key : Key) (target tag address port iface : List ℕ) → value_of (part_name Target) ps ≡ Some target → target ≡ part_text Target key
    → value_of (part_name Tag) ps ≡ Some tag → tag ≡ part_text Tag key → value_of (part_name Address) ps ≡ Some address → key.portal.address ≡ lower_case address
    → value_of (part_name Port) ps ≡ Some port → port ≡ part_text Port key → value_of (part_name Interface) ps ≡ Some iface → iface ≡ part_text Interface key → IsKeyOf ps key
named_by ps key target tag address port iface a b d e f g h i j k Target = (target, a, b)
named_by ps key target tag address port iface a b d e f g h i j k Tag = (tag, d, e)
named_by ps key target tag address port iface a b d e f g h i j k Address = (address, f, g)
named_by ps key target tag address port iface a b d e f g h i j k Port = (port, h, i)
named_by ps key target tag address port iface a b d e f g h i j k Interface = (iface, j, k)

pub returns : goal.returns
returns c = (
  invariant_of-result c,
  named_by c.args.settings.now
      (record { target = c.in_ok-target.target; portal = record { address = c.in_ok-address.address; port = c.port_of-port.result }; tag = c.tag_of-tag.result; iface = c.in_ok-iface.iface })
      c.text_of.result.now c.text_of-2.result.now c.text_of-3.result.now c.text_of-4.result.now c.text_of-5.result.now
      c.text_of.ensures.value (sym c.in_ok-target.ensures) c.text_of-2.ensures.value c.tag_of-tag.ensures c.text_of-3.ensures.value c.in_ok-address.ensures
      c.text_of-4.ensures.value c.port_of-port.ensures.number c.text_of-5.ensures.value (sym c.in_ok-iface.ensures),
)
