use Rattle.std.proofs.Common.{◌∙◌, sym}
use Rattle.oi_history.proofs.Drawing.{length-queued}
use Rattle.oi_history.proofs.queueing.count_one.Goals as goal

pub returns : goal.returns
returns c =
    rw (c.in-Some-Some.is-0, ← c.holder_of.ensures, c.in-Some-Some.is-1)
    (c.div_ceil.ensures ∙ sym (length-queued c.in-Some-Some.field-0-1 c.args.r.now.tag c.args.r.now.ttt c.args.r.now.offset c.args.r.now.length c.in-Some-Some.params.max_send))
