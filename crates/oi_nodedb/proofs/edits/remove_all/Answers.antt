use Rattle.std.proofs.Common.{◌<◌, ◌+◌, ◌∙◌, true, false, Err, take, drop, length, arith}
use Rattle.oi_settings.specs.Keys.{path_text}
use Rattle.oi_nodedb.specs.Filters.{matching}
use Rattle.oi_nodedb.proofs.Steps.{delete_gone, delete_kept, delete_read, delete_stopped, kept_more, kept_same, matching_kept, matching_more, meant_by, parted_at, taken_next, taken_none}
use Rattle.oi_nodedb.proofs.Swaps.{Removes-from}
use Rattle.oi_nodedb.proofs.edits.remove_all.Goals as goal

-- a record that is not meant stays
pub loop-at-preserved-then-not-matches : goal.loop-at-preserved-then-not-matches
loop-at-preserved-then-not-matches g c =
    let f = c.args.filter.now in
    let old = c.args.records.now.items in
    let now = c.loop-at.records.items in
    let i = c.loop-at.at in
    let kept = c.loop-at.kept in
    let x = c.index.result.now in
    let small : i < length old = omega arith in
    let here : kept < length now = omega arith in
    let other = meant_by f now kept x x c.key.result.now c.matches.result false here c.index.ensures c.index.ensures c.key.ensures.key c.matches.ensures c.if-not-matches.true in
    record {
      list = delete_kept f old i x small now kept c.loop-at.invariant.list c.loop-at.invariant.kept c.index.ensures other;
      kept = kept_more f old i x small now kept c.loop-at.invariant.list c.loop-at.invariant.kept c.index.ensures other;
      behind = omega arith;
      long = omega arith;
      store =
          taken_none (g.R.RecordStore.records c.args.store.now) (g.R.RecordStore.records c.loop-at.store) (matching f (take i old)) (matching f (take (i + 1) old)) c.loop-at.invariant.store
          (matching_kept f old i x small now kept c.loop-at.invariant.list c.loop-at.invariant.kept c.index.ensures other);
      faults = c.loop-at.invariant.faults;
    }

-- one that is meant goes
pub loop-at-preserved : goal.loop-at-preserved
loop-at-preserved g c =
    let f = c.args.filter.now in
    let old = c.args.records.now.items in
    let now = c.loop-at.records.items in
    let i = c.loop-at.at in
    let kept = c.loop-at.kept in
    let x = c.index-in-loop-at.result.now in
    let small : i < length old = omega arith in
    let here : kept < length now = omega arith in
    let meant = meant_by f now kept c.index.result.now x c.key.result.now c.matches.result true here c.index.ensures c.index-in-loop-at.ensures c.key.ensures.key c.matches.ensures c.if-not-matches.false in
    record {
      list = c.remove.ensures.items ∙ delete_gone f old i x small now kept c.loop-at.invariant.list c.loop-at.invariant.kept c.index-in-loop-at.ensures meant;
      kept = kept_same f old i x small now kept c.loop-at.invariant.list c.loop-at.invariant.kept c.index-in-loop-at.ensures meant;
      behind = omega arith;
      long = omega arith;
      store =
          taken_next (g.R.RecordStore.records c.args.store.now) (g.R.RecordStore.records c.loop-at.store) (g.R.RecordStore.records c.remove_text.new.store) (matching f (take i old))
          (matching f (take (i + 1) old)) x c.loop-at.invariant.store c.in-Ok.ensures.removes.0
          (matching_more f old i x small now kept c.loop-at.invariant.list c.loop-at.invariant.kept c.index-in-loop-at.ensures meant);
      faults = c.in-Ok.ensures.count ∙ c.loop-at.invariant.faults;
    }

-- it stops at one whose text the store did not take away
pub returns-in-Err-clause-drops : goal.returns-in-Err-clause-drops
returns-in-Err-clause-drops g c =
    let f = c.args.filter.now in
    let old = c.args.records.now.items in
    let now = c.loop-at.records.items in
    let i = c.loop-at.at in
    let kept = c.loop-at.kept in
    let x = c.index-in-loop-at.result.now in
    let small : i < length old = omega arith in
    let here : kept < length now = omega arith in
    let meant = meant_by f now kept c.index.result.now x c.key.result.now c.matches.result true here c.index.ensures c.index-in-loop-at.ensures c.key.ensures.key c.matches.ensures c.if-not-matches.false in
    record {
      front = take i old;
      node = x;
      behind = drop (i + 1) old;
      whole = parted_at f old i x small (delete_read f old i x small now kept c.loop-at.invariant.list c.loop-at.invariant.kept c.index-in-loop-at.ensures);
      named = meant;
      value_is = delete_stopped f old i x small now kept c.loop-at.invariant.list c.loop-at.invariant.kept c.index-in-loop-at.ensures;
      store =
          Removes-from (Err c.in-Err.fault) (path_text x.key) (g.R.RecordStore.records c.loop-at.store) _ (g.R.RecordStore.records c.remove_text.new.store) c.loop-at.invariant.store
          c.in-Err.ensures.removes;
    }
