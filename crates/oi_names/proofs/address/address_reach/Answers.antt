use Rattle.std.proofs.Common.{sym, subst}
use Rattle.oi_names.specs.Portals.{IsAddress, IsBracketed, IsDotted}
use Rattle.oi_names.specs.Reaches.{IsReach}
use Rattle.oi_names.specs.declared.reach.Reach.{Reach}
use Rattle.oi_names.proofs.Places.{further_reach}
use Rattle.oi_names.proofs.address.address_reach.Goals as goal

pub returns : goal.returns
returns c =
    subst (λ (r : Reach). IsReach IsAddress c.args.text.now r) (sym c.further.ensures)
    (further_reach (IsDotted 3) IsBracketed c.args.text.now c.dotted_reach-dotted.result c.bracketed_reach-bracketed.result c.dotted_reach-dotted.ensures c.bracketed_reach-bracketed.ensures)
