use Rattle.std.proofs.Common.{◌<◌, ◌+◌, ◌∙◌, true, false, Err, take, drop, length, arith}
use Rattle.oi_settings.specs.Keys.{path_text}
use Rattle.oi_settings.specs.Texts.{text_of}
use Rattle.oi_nodedb.specs.Databases.{changed, with_value}
use Rattle.oi_nodedb.proofs.Steps.{changed_kept, changed_more, meant_by, parted_at, put_next, put_none, update_changed, update_kept, update_read, update_stopped}
use Rattle.oi_nodedb.proofs.Swaps.{Puts-from}
use Rattle.oi_nodedb.proofs.edits.change_all.Goals as goal

-- a record that is not meant stays
pub loop-at-preserved-then-not-matches : goal.loop-at-preserved-then-not-matches
loop-at-preserved-then-not-matches g c =
    let f = c.args.filter.now in
    let name = c.args.name.now in
    let value = c.args.value.now in
    let old = c.args.records.now.items in
    let now = c.loop-at.records.items in
    let i = c.loop-at.at in
    let x = c.index.result.now in
    let small : i < length old = omega arith in
    let here : i < length now = omega arith in
    let other = meant_by f now i x x c.key.result.now c.matches.result false here c.index.ensures c.index.ensures c.key.ensures.key c.matches.ensures c.if-not-matches.true in
    record {
      list = update_kept f old i x small name value now c.loop-at.invariant.list c.index.ensures other;
      long = c.loop-at.invariant.long;
      store =
          put_none (g.R.RecordStore.records c.args.store.now) (g.R.RecordStore.records c.loop-at.store) (changed f name value (take i old)) (changed f name value (take (i + 1) old)) c.loop-at.invariant.store
          (changed_kept f old i x small name value now c.loop-at.invariant.list c.index.ensures other);
      faults = c.loop-at.invariant.faults;
    }

-- one that is meant is changed
pub loop-at-preserved : goal.loop-at-preserved
loop-at-preserved g c =
    let f = c.args.filter.now in
    let name = c.args.name.now in
    let value = c.args.value.now in
    let old = c.args.records.now.items in
    let now = c.loop-at.records.items in
    let i = c.loop-at.at in
    let x = c.index_mut.result.now in
    let small : i < length old = omega arith in
    let here : i < length now = omega arith in
    let meant = meant_by f now i c.index.result.now x c.key.result.now c.matches.result true here c.index.ensures c.index_mut.ensures.value c.key.ensures.key c.matches.ensures c.if-not-matches.false in
    record {
      list = update_changed f old i x small name value now c.loop-at.invariant.list c.change.new.node c.index_mut.ensures.value meant c.in-Ok.ensures.ok;
      long = c.loop-at.invariant.long;
      store =
          put_next (g.R.RecordStore.records c.args.store.now) (g.R.RecordStore.records c.loop-at.store) (g.R.RecordStore.records c.change.new.store) (changed f name value (take i old))
          (changed f name value (take (i + 1) old)) (with_value name value x) c.loop-at.invariant.store c.in-Ok.ensures.puts
          (changed_more f old i x small name value now c.loop-at.invariant.list c.index_mut.ensures.value meant);
      faults = c.in-Ok.ensures.count ∙ c.loop-at.invariant.faults;
    }

-- it stops at one whose text the store did not take
pub returns-in-Err-clause-changes : goal.returns-in-Err-clause-changes
returns-in-Err-clause-changes g c =
    let f = c.args.filter.now in
    let name = c.args.name.now in
    let value = c.args.value.now in
    let old = c.args.records.now.items in
    let now = c.loop-at.records.items in
    let i = c.loop-at.at in
    let x = c.index_mut.result.now in
    let small : i < length old = omega arith in
    let here : i < length now = omega arith in
    let meant = meant_by f now i c.index.result.now x c.key.result.now c.matches.result true here c.index.ensures c.index_mut.ensures.value c.key.ensures.key c.matches.ensures c.if-not-matches.false in
    record {
      front = take i old;
      node = x;
      behind = drop (i + 1) old;
      whole = parted_at f old i x small (update_read f old i x small name value now c.loop-at.invariant.list c.index_mut.ensures.value);
      named = meant;
      value_is = update_stopped f old i x small name value now c.loop-at.invariant.list c.change.new.node c.index_mut.ensures.value c.in-Err.ensures.err;
      store =
          Puts-from (Err c.in-Err.fault) (path_text x.key) (text_of (with_value name value x).pairs) (g.R.RecordStore.records c.loop-at.store) _ (g.R.RecordStore.records c.change.new.store)
          c.loop-at.invariant.store c.in-Err.ensures.puts;
    }
