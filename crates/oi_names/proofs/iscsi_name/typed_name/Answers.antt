use Rattle.std.proofs.Common.{List, ℕ, [], ◌∷◌, refl, arith, subst}
use Rattle.oi_names.specs.Names.{IsNameRest}
use Rattle.oi_names.specs.Reaches.{IsReach}
use Rattle.oi_names.proofs.Heads.{led_here, led_at, shared_within}
use Rattle.oi_names.proofs.iscsi_name.typed_name.Goals as goal

pub returns-then-same-head : goal.returns-then-same-head
returns-then-same-head c = led_here IsNameRest (97 ∷ []) (omega arith, omega arith, refl) c.args.head.now c.args.text.now c.common-same.result c.common-same.ensures (omega arith)

pub after-requires : goal.after-requires
after-requires c = omega (arith, c.common-same.ensures, shared_within c.args.text.now c.args.head.now)

pub returns : goal.returns
returns c =
    led_at IsNameRest c.args.head.now c.args.text.now c.common-same.result c.common-same.ensures (omega arith) c.name_rest-rest.result
    (subst (λ (z : List ℕ). IsReach IsNameRest z c.name_rest-rest.result) c.after.ensures c.name_rest-rest.ensures)
