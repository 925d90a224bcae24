use Rattle.std.proofs.Common.{rules, ◌≡◌, List, [], ◌∷◌, Some, sym, subst}
use Rattle.atomic_table.specs.Table.{opening}
use Rattle.circular_buffer.specs.Buffer.{buffer}
use Rattle.oi_pipe.specs.Views.{Slot, opened}
use Rattle.oi_pipe.specs.Kept.{Kept}
use Rattle.oi_pipe.proofs.Moves.{opens}
use Rattle.oi_pipe.proofs.pipe.new_pipe.Goals as goal

pub new-requires : goal.new-requires
new-requires c =
    let e : c.push.new.self.items ≡ Some (buffer [] c.args.room) ∷ [] = search rules in
    subst (λ (xs : List Slot). Kept c.args.room (opening (0 ∷ 0 ∷ []) xs (opened c.args.room))) (sym e) (opens c.args.room)
