use Rattle.std.proofs.Common.{◌≡◌, List, ℕ, [], ◌∷◌, refl, arith, subst, sym, ◌∙◌}
use Rattle.oi_names.specs.Grammars.{IsJoined, IsRun}
use Rattle.oi_names.specs.Portals.{IsEmpty, is_inner}
use Rattle.oi_names.specs.Reaches.{IsReach}
use Rattle.oi_names.proofs.Heads.{led_here, led_at}
use Rattle.oi_names.proofs.address.bracketed_reach.Goals as goal

pub returns-then-bracket-lt1 : goal.returns-then-bracket-lt1
returns-then-bracket-lt1 c =
    let none : c.common-bracket.result ≡ 0 = omega arith in
    led_here (IsJoined (IsRun is_inner 2 39) 93 IsEmpty) (58 ∷ 58 ∷ 93 ∷ []) (58 ∷ 58 ∷ [], [], refl, (omega arith, omega arith, refl), refl) (91 ∷ []) c.args.text.now 0
    (sym none ∙ c.common-bracket.ensures) (omega arith)

pub returns : goal.returns
returns c =
    led_at (IsJoined (IsRun is_inner 2 39) 93 IsEmpty) (91 ∷ []) c.args.text.now c.common-bracket.result c.common-bracket.ensures (omega arith) c.closed_reach-closed.result
    (subst (λ (z : List ℕ). IsReach (IsJoined (IsRun is_inner 2 39) 93 IsEmpty) z c.closed_reach-closed.result) c.after.ensures c.closed_reach-closed.ensures)
