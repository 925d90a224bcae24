use Rattle.std.proofs.Common.{◌≡◌, ◌∙◌, ◌<◌, ◌≤◌, List, length, ap, sym, arith}
use Rattle.std.specs.List.{prefix_len}
use Rattle.oi_target.proofs.Places.{none_of, one_of}
use Rattle.oi_target.specs.Targets.{is_other}
use Rattle.oi_target.specs.declared.link.Link.{Link}
use Rattle.oi_target.proofs.feed.remove_link.Goals as goal

pub returns-then-at-len : goal.returns-then-at-len
returns-then-at-len c =
    let place : c.place_of-at.result ≡ prefix_len (is_other c.args.connection) c.args.links.now.items = rw c.as_slice.ensures.value at c.place_of-at.ensures in
    let within : c.place_of-at.result < length c.args.links.now.items = omega (arith, c.if-at-len.true, c.len.ensures, c.as_slice.ensures.len, ap length c.as_slice.ensures.value) in
    c.remove-link.ensures.items ∙ sym (one_of c.args.connection c.args.links.now.items c.place_of-at.result c.remove-link.result place within).others

pub returns-else-at-len : goal.returns-else-at-len
returns-else-at-len c =
    let past : length c.args.links.now.items ≤ prefix_len (is_other c.args.connection) c.args.links.now.items =
    omega (
      arith,
      c.if-at-len.false,
      c.len.ensures,
      c.as_slice.ensures.len,
      ap length c.as_slice.ensures.value,
      ap (λ (ls : List Link). prefix_len (is_other c.args.connection) ls) c.as_slice.ensures.value,
      c.place_of-at.ensures,
    ) in
    sym (none_of c.args.connection c.args.links.now.items past).1
