use Rattle.std.proofs.Common.{◌≡◌, ◌++◌, take, drop}
use Rattle.oi_target_session.proofs.Pieces.{parts_joined}
use Rattle.oi_target_session.proofs.parts.write_parts.Goals as goal

pub returns-clause-out : goal.returns-clause-out
returns-clause-out c =
    let first : c.extend_from_slice.new.self.items ≡ c.args.out.now.items ++ take 4 c.in_ok-header.header.items =
    rw (c.in_ok-extend_from_slice.ensures.items, c.in_ok-reserve.ensures.items, c.front.ensures, c.as_slice.ensures.value) in
    let third : c.extend_from_slice-3.new.self.items ≡ c.extend_from_slice-2.new.self.items ++ drop 8 c.in_ok-header.header.items =
    rw (c.in_ok-extend_from_slice-3.ensures.items, c.after.ensures, c.as_slice-2.ensures.value) in
    parts_joined c.args.out.now.items c.extend_from_slice.new.self.items c.extend_from_slice-2.new.self.items c.extend_from_slice-3.new.self.items
    c.extend_from_slice-4.new.self.items c.put_padding.new.out.items c.in_ok-header.header.items c.to_be_bytes-size.result c.args.payload.now c.args.head
    c.in_ok-header.ensures.bytes c.to_be_bytes-size.ensures first c.in_ok-extend_from_slice-2.ensures.items third c.in_ok-extend_from_slice-4.ensures.items
    c.in_ok-put_padding.ensures.out
