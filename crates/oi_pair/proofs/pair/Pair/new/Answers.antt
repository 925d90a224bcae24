use Rattle.std.proofs.Common.{rules, ◌≡◌, List, [], ◌∷◌, Some, sym, subst}
use Rattle.atomic_table.specs.Table.{opening}
use Rattle.oi_pair.specs.declared.half.Half.TheVariants.{Forward, Back}
use Rattle.oi_pair.specs.Views.{opened}
use Rattle.oi_pair.specs.Kept.{Slot, Kept}
use Rattle.oi_pair.proofs.Seats.{opens}
use Rattle.oi_pair.proofs.pair.Pair.new.Goals as goal

pub new-requires : goal.new-requires
new-requires g c =
    let e : c.in-Ok.slots.items ≡ Some (Forward c.args.forward) ∷ Some (Back c.args.back) ∷ [] = search rules in
    subst (λ (xs : List (Slot g.row.F.Denot g.row.B.Denot)). Kept g.F.Keeps.entries g.F.Keeps.shared g.B.Keeps.entries g.B.Keeps.shared (opening (0 ∷ 0 ∷ 0 ∷ []) xs opened)) (sym e) (opens g.F.Keeps.entries g.F.Keeps.shared g.B.Keeps.entries g.B.Keeps.shared c.args.forward c.args.back c.requires.empty.0 c.requires.empty.1 c.requires.shared)
