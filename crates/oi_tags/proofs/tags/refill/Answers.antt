use Rattle.std.proofs.Common.{sym, rules}
use Rattle.oi_tags.proofs.Kept.{row_push}
use Rattle.oi_tags.proofs.tags.refill.Goals as goal

pub loop-index-preserved : goal.loop-index-preserved
loop-index-preserved c =
    let counted = c.loop-index.invariant.counted in
    let room = c.loop-index.invariant.room in
    record {
      so_far = rw c.push_back_reserved.ensures.items (rw c.loop-index.invariant.so_far (sym (row_push c.loop-index.index)));
      counted = search rules;
      room = search rules;
    }
