use Rattle.std.proofs.Common.{sym, subst}
use Rattle.oi_base.specs.Decimal.{IsNumber}
use Rattle.oi_names.specs.Grammars.{IsJoined}
use Rattle.oi_names.specs.Portals.{IsAddress, IsEndpoint}
use Rattle.oi_names.specs.Reaches.{IsReach}
use Rattle.oi_names.specs.declared.reach.Reach.{Reach}
use Rattle.oi_names.proofs.Places.{further_reach}
use Rattle.oi_names.proofs.portal.endpoint_reach.Goals as goal

pub returns : goal.returns
returns c =
    subst (λ (r : Reach). IsReach IsEndpoint c.args.text.now r) (sym c.further.ensures)
    (further_reach IsAddress (IsJoined IsAddress 58 (IsNumber 1 65535)) c.args.text.now c.address_reach-address.result c.ported_reach-ported.result c.address_reach-address.ensures c.ported_reach-ported.ensures)
