use Rattle.std.proofs.Common.{sym, subst}
use Rattle.oi_names.specs.Grammars.{IsEither, IsLed}
use Rattle.oi_names.specs.Names.{IsName, IsNameRest, iqn, eui, naa}
use Rattle.oi_names.specs.Reaches.{IsReach}
use Rattle.oi_names.specs.declared.reach.Reach.{Reach}
use Rattle.oi_names.proofs.Places.{further_reach}
use Rattle.oi_names.proofs.iscsi_name.name_reach.Goals as goal

pub returns : goal.returns
returns c =
    let text = c.args.text.now in
    let last : IsReach (IsEither (IsLed eui IsNameRest) (IsLed naa IsNameRest)) text c.further.result =
    subst (λ (r : Reach). IsReach (IsEither (IsLed eui IsNameRest) (IsLed naa IsNameRest)) text r) (sym c.further.ensures)
    (further_reach (IsLed eui IsNameRest) (IsLed naa IsNameRest) text c.typed_name-eui.result c.typed_name-naa.result c.typed_name-eui.ensures c.typed_name-naa.ensures) in
    subst (λ (r : Reach). IsReach IsName text r) (sym c.further-2.ensures)
    (further_reach (IsLed iqn IsNameRest) (IsEither (IsLed eui IsNameRest) (IsLed naa IsNameRest)) text c.typed_name-iqn.result c.further.result c.typed_name-iqn.ensures last)
