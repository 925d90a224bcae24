use Rattle.oi_names.proofs.address.+dotted_reach.Given as goal

abbrev pub decreases-dotted_reach : goal.decreases-dotted_reach
decreases-dotted_reach l = l.dots
