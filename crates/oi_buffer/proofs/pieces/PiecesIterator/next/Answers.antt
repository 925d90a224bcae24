use Rattle.std.proofs.Common.{◌<◌, ◌∙◌, sym, arith, rules}
use Rattle.std.proofs.lemmas.Bool.Decides.{nat_tests}
use Rattle.oi_buffer.proofs.Cutting.{first_piece, shorter}
use Rattle.oi_buffer.proofs.pieces.PiecesIterator.next.Goals as goal

pub returns-clause-steps : goal.returns-clause-steps
returns-clause-steps c =
    let i = c.self.inside in
    let kept = c.self.invariant.so_far in
    let before : i.number < i.count = grind (arith, nat_tests) in
    sym c.self.view_is ∙ first_piece i.offset i.length i.max i.number i.count c.min.result before c.self.invariant.counted c.min.ensures

pub returns-clause-goes : goal.returns-clause-goes
returns-clause-goes c =
    let i = c.self.inside in
    let kept = c.self.invariant.so_far in
    let before : i.number < i.count = grind (arith, nat_tests) in
    let short = shorter _ _ _ (sym c.self.view_is ∙ first_piece i.offset i.length i.max i.number i.count c.min.result before c.self.invariant.counted c.min.ensures) in
    record { on = λ _. search rules; keeps = search rules; rests = search rules }
