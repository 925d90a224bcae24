use Rattle.std.proofs.Common.{Ok}
use Rattle.oi_nodedb.specs.Databases.{with_value}
use Rattle.oi_nodedb.proofs.Swaps.{Puts-record}
use Rattle.oi_nodedb.proofs.stored.change.Goals as goal

pub returns-in-Ok-put_text-clause-puts : goal.returns-in-Ok-put_text-clause-puts
returns-in-Ok-put_text-clause-puts g c =
    Puts-record (Ok c.in-Ok-put_text.field-0) c.in-Ok.changed (with_value c.args.name.now c.args.value.now c.args.node.now) (g.R.RecordStore.records c.args.store.now)
    (g.R.RecordStore.records c.put_text.new.store) c.in-Ok.ensures c.in-Ok-put_text.ensures.puts
