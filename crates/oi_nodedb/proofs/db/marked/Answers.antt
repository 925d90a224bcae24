use Rattle.std.proofs.Common.{◌∙◌}
use Rattle.oi_nodedb.proofs.Marks.{marked_pairs, unknown_same}
use Rattle.oi_nodedb.proofs.db.marked.Goals as goal

pub mark-requires-clause-unknown : goal.mark-requires-clause-unknown
mark-requires-clause-unknown c = unknown_same c.in_ok-name.name c.args.name.now (c.in_ok-name.ensures ∙ c.as_bytes.ensures.value) c.requires.unknown

pub returns : goal.returns
returns c =
    marked_pairs c.mark.new.self c.in_ok-record.record c.args.key c.in_ok-name.name c.in_ok-from_slice.field-0 c.args.name.now c.args.value.now c.requires.unknown
    (c.in_ok-name.ensures ∙ c.as_bytes.ensures.value) (c.in_ok-from_slice.ensures ∙ c.as_bytes-2.ensures.value) c.in_ok-record.ensures.0 c.in_ok-record.ensures.1 c.in_ok-mark.ensures.ok
