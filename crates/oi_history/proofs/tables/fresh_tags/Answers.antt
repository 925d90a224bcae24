use Rattle.std.proofs.Common.{◌∙◌}
use Rattle.oi_history.proofs.Places.{fresh_tags_more}
use Rattle.oi_history.proofs.tables.fresh_tags.Goals as goal

pub loop-index-preserved : goal.loop-index-preserved
loop-index-preserved c =
    c.in_ok-push_back.ensures.items ∙ fresh_tags_more c.args.age c.loop-index.index c.loop-index.tags.items c.command.result c.loop-index.invariant c.command.ensures
