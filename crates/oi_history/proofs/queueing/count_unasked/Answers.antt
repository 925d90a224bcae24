use Rattle.std.proofs.Common.{◌∙◌, ℕ, ap, sym}
use Rattle.oi_base.specs.TagLayout.{reserved_tag}
use Rattle.oi_buffer.specs.Cuts.{immediate_of, piece_count, unsolicited_of}
use Rattle.oi_history.proofs.Drawing.{length-queued}
use Rattle.oi_history.proofs.queueing.count_unasked.Goals as goal

pub returns : goal.returns
returns c =
    λ id tag. rw (c.in-Some-Some.is-0, c.in-Some-Some.is-1, c.if-not-task.false)
    (c.div_ceil.ensures ∙ (ap (λ (n : ℕ). piece_count n c.in-Some-Some.params.max_send) c.first_cut-cut.ensures.unsolicited
    ∙ sym (length-queued id tag reserved_tag (immediate_of c.in-Some-Some.task.now.command.length c.in-Some-Some.params) (unsolicited_of c.in-Some-Some.task.now.command.length c.in-Some-Some.params) c.in-Some-Some.params.max_send)))
