use Rattle.std.proofs.Common.{◌∙◌, sym, Some}
use Rattle.oi_nodedb.proofs.Loading.{read_as, told_text}
use Rattle.oi_nodedb.proofs.load.read_record.Goals as goal

pub returns-in-Ok-clause-reads : goal.returns-in-Ok-clause-reads
returns-in-Ok-clause-reads g c = (
  c.in-Ok-Some.ensures.finds.0,
  (c.in-Some.field-0.now, sym c.as_slice.ensures ∙ c.in-Some.ensures),
  (
    c.in-Ok-Some.text,
    read_as c.args.path.now c.as_slice-2.result.now c.in-Ok-Some.text c.in-Ok.record c.as_slice-2.ensures c.in-Ok.ensures,
    told_text (g.R.RecordStore.records c.args.store.now) c.args.path.now c.as_text.result.now c.in-Ok-Some.field-0 (Some c.in-Ok-Some.text) c.as_text.ensures c.in-Ok-Some.field-0-is c.in-Ok-Some.ensures.finds.1,
  ),
)
