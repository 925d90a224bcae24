use Rattle.std.proofs.Common.{sym, subst}
use Rattle.oi_base.specs.Decimal.{IsNumber}
use Rattle.oi_names.specs.Grammars.{IsJoined}
use Rattle.oi_names.specs.Portals.{IsEndpoint, IsPortal}
use Rattle.oi_names.specs.Reaches.{IsReach}
use Rattle.oi_names.specs.declared.reach.Reach.{Reach}
use Rattle.oi_names.proofs.Places.{further_reach}
use Rattle.oi_names.proofs.portal.portal_reach.Goals as goal

pub returns : goal.returns
returns c =
    subst (λ (r : Reach). IsReach IsPortal c.args.text.now r) (sym c.further.ensures)
    (further_reach IsEndpoint (IsJoined IsEndpoint 44 (IsNumber 0 65535)) c.args.text.now c.endpoint_reach-endpoint.result c.tagged_reach-tagged.result c.endpoint_reach-endpoint.ensures c.tagged_reach-tagged.ensures)
