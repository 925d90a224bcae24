use Rattle.std.proofs.Common.{◌≡◌, ◌∙◌, ◌<◌, ◌≤◌, List, Some, length, ap, sym, arith}
use Rattle.std.specs.List.{prefix_len, slice_set}
use Rattle.oi_target.proofs.Placed.{placed_none}
use Rattle.oi_target.proofs.Places.{none_of, replaced_at}
use Rattle.oi_target.specs.Targets.{is_other}
use Rattle.oi_target.specs.declared.link.Link.{Link}
use Rattle.oi_target.proofs.feed.replace.Goals as goal

pub returns-then-at-len-clause-link : goal.returns-then-at-len-clause-link
returns-then-at-len-clause-link c =
    let place : c.place_of-at.result ≡ prefix_len (is_other c.args.link.number) c.args.links.now.items = rw c.as_slice.ensures.value at c.place_of-at.ensures in
    let within : c.place_of-at.result < length c.args.links.now.items = omega (arith, c.if-at-len.true, c.len.ensures, c.as_slice.ensures.len, ap length c.as_slice.ensures.value) in
    sym ((replaced_at c.args.link c.args.links.now.items c.place_of-at.result c.index_mut.result.now place within).link
    ∙ ap Some (sym c.index_mut.ensures.value ∙ sym c.replace.ensures.value))

pub returns-then-at-len-clause-links : goal.returns-then-at-len-clause-links
returns-then-at-len-clause-links c =
    let place : c.place_of-at.result ≡ prefix_len (is_other c.args.link.number) c.args.links.now.items = rw c.as_slice.ensures.value at c.place_of-at.ensures in
    let within : c.place_of-at.result < length c.args.links.now.items = omega (arith, c.if-at-len.true, c.len.ensures, c.as_slice.ensures.len, ap length c.as_slice.ensures.value) in
    ap (λ (l : Link). slice_set c.args.links.now.items c.place_of-at.result l) c.replace.ensures.after
    ∙ sym (replaced_at c.args.link c.args.links.now.items c.place_of-at.result c.index_mut.result.now place within).links

pub returns-else-at-len-clause-link : goal.returns-else-at-len-clause-link
returns-else-at-len-clause-link c =
    let past : length c.args.links.now.items ≤ prefix_len (is_other c.args.link.number) c.args.links.now.items =
    omega (
      arith,
      c.if-at-len.false,
      c.len.ensures,
      c.as_slice.ensures.len,
      ap length c.as_slice.ensures.value,
      ap (λ (ls : List Link). prefix_len (is_other c.args.link.number) ls) c.as_slice.ensures.value,
      c.place_of-at.ensures,
    ) in
    sym (none_of c.args.link.number c.args.links.now.items past).0

pub returns-else-at-len-clause-links : goal.returns-else-at-len-clause-links
returns-else-at-len-clause-links c =
    let past : length c.args.links.now.items ≤ prefix_len (is_other c.args.link.number) c.args.links.now.items =
    omega (
      arith,
      c.if-at-len.false,
      c.len.ensures,
      c.as_slice.ensures.len,
      ap length c.as_slice.ensures.value,
      ap (λ (ls : List Link). prefix_len (is_other c.args.link.number) ls) c.as_slice.ensures.value,
      c.place_of-at.ensures,
    ) in
    sym (placed_none c.args.link c.args.links.now.items (none_of c.args.link.number c.args.links.now.items past).0)
