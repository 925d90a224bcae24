use Rattle.std.proofs.Common.{◌≤◌, ◌∙◌, ap, Bool, List, Ok, Err, length, arith}
use Rattle.std.specs.List.{remove}
use Rattle.oi_settings.specs.Texts.{Node}
use Rattle.oi_nodedb.proofs.Outcomes.{failed_add, failed_count, inserted_read, remove-insert}
use Rattle.oi_nodedb.proofs.Swaps.{Puts-record}
use Rattle.oi_nodedb.proofs.db.add.Goals as goal

pub returns-in-Ok-put_text-clause-adds : goal.returns-in-Ok-put_text-clause-adds
returns-in-Ok-put_text-clause-adds g c =
    let within : c.args.at ≤ length c.args.records.now.items = omega arith in
    let read = inserted_read c.args.records.now.items c.insert.new.self.items c.args.at c.args.node c.index.result.now within c.in-Ok.ensures.items c.index.ensures in (
      c.requires.new,
      c.in-Ok.ensures.items ∙ c.requires.gap,
      Puts-record (Ok c.in-Ok-put_text.field-0) c.index.result.now c.args.node (g.R.RecordStore.records c.args.store.now) (g.R.RecordStore.records c.put_text.new.store) read
          c.in-Ok-put_text.ensures.puts,
    )

-- the record that had come in goes out again
pub returns-in-Err-clause-adds : goal.returns-in-Err-clause-adds
returns-in-Err-clause-adds g c =
    let within : c.args.at ≤ length c.args.records.now.items = omega arith in
    let read = inserted_read c.args.records.now.items c.insert.new.self.items c.args.at c.args.node c.index.result.now within c.in-Ok.ensures.items c.index.ensures in
    failed_add c.args.node c.in-Err.fault c.from.result c.args.records.now.items c.remove.new.self.items (g.R.RecordStore.records c.args.store.now) (g.R.RecordStore.records c.put_text.new.store) c.requires.new
    (c.remove.ensures.items ∙ ap (λ (ns : List Node). remove ns c.args.at) c.in-Ok.ensures.items ∙ remove-insert c.args.records.now.items c.args.at c.args.node within)
    (Puts-record (Err c.in-Err.fault) c.index.result.now c.args.node (g.R.RecordStore.records c.args.store.now) (g.R.RecordStore.records c.put_text.new.store) read c.in-Err.ensures.puts)
    c.from.ensures

pub returns-in-Err-clause-count : goal.returns-in-Err-clause-count
returns-in-Err-clause-count g c = failed_count (Unit {0}) Bool c.in-Err.fault c.from.result _ _ c.from.ensures c.in-Err.ensures.count
