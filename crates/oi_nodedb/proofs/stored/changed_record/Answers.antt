use Rattle.oi_nodedb.proofs.Swaps.{Takes-same, open_same}
use Rattle.oi_nodedb.proofs.stored.changed_record.Goals as goal

pub set-requires-clause-open : goal.set-requires-clause-open
set-requires-clause-open c = open_same c.in_ok-name.name c.args.name.now c.in_ok-name.ensures c.requires.open

pub set-requires-clause-taken : goal.set-requires-clause-taken
set-requires-clause-taken c =
    Takes-same c.in_ok-name.name c.args.name.now c.in_ok-from_slice.field-0 c.args.value.now c.in_ok-name.ensures
    c.in_ok-from_slice.ensures c.requires.taken
